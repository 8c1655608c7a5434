-- The way back along an arc, and the order of two directions on it.
use Rattle.nef_arc.proofs.Prelude.{◌≡◌, Ordering, Less, Equal, Greater, refl, sym, subst, ◌↔◌, ◌⊎◌, inl, inr, MatchOrdering, Vector, opposite, IsDirection, SameDirection, IsOnCircle, IsStrictlyOn, way_back_passes_the_same, Arc, normal_vector, source_vector, IsOn, IsOnBefore, SameDirection-turned}
use Rattle.law_geometry.proofs.sphere.cyclic.Cyclic.{one_is_first, never_both_ways}
use Rattle.nef_arc.proofs.Ends.{seen_from_source}

pub back_passes_the_same : (n s t n' s' t' : Vector) → n' ≡ opposite n → s' ≡ t → t' ≡ s → IsDirection n → IsOnCircle n s → IsOnCircle n t → (d : Vector) → IsStrictlyOn n' s' t' d ↔ IsStrictlyOn n s t d
back_passes_the_same n s t n' s' t' e f g h p q d = rw (e, f, g) (way_back_passes_the_same n s t d h p q)

-- ---- the order of two directions on an arc
-- what an answer is to say
pub record IsRanked (a : Arc) (d e : Vector) (r : Ordering) : Type 0 where
  pub less : (r ≡ Less) ↔ IsOnBefore a e d
  pub equal : (r ≡ Equal) ↔ SameDirection d e
  pub greater : (r ≡ Greater) ↔ IsOnBefore a d e

less_not_equal : Less ≡ Equal → ⊥
less_not_equal e = subst (λ (o : Ordering). MatchOrdering o (Unit {0}) ⊥ ⊥) e tt

less_not_greater : Less ≡ Greater → ⊥
less_not_greater e = subst (λ (o : Ordering). MatchOrdering o (Unit {0}) ⊥ ⊥) e tt

equal_not_greater : Equal ≡ Greater → ⊥
equal_not_greater e = subst (λ (o : Ordering). MatchOrdering o ⊥ (Unit {0}) ⊥) e tt

pub ranked_equal : (a : Arc) (d e : Vector) → SameDirection d e → IsRanked a d e Equal
ranked_equal a d e h = record {
  less = (λ k. absurd (less_not_equal (sym k)), λ k. absurd (k.not_target (SameDirection-turned d e h)));
  equal = (λ k. h, λ k. refl);
  greater = (λ k. absurd (equal_not_greater k), λ k. absurd (k.not_target h));
}

pub ranked_less : (a : Arc) (d e : Vector) → IsOn a d → IsOn a e → IsOnBefore a e d → IsRanked a d e Less
ranked_less a d e p q h = record {
  less = (λ k. h, λ k. refl);
  equal = (λ k. absurd (less_not_equal k), λ k. absurd (h.not_target (SameDirection-turned d e k)));
  greater = (λ k. absurd (less_not_greater k), λ k. absurd (never_both_ways (normal_vector a) (source_vector a) d e (seen_from_source a d e p q) h k));
}

pub ranked_greater : (a : Arc) (d e : Vector) → IsOn a d → IsOn a e → (IsOnBefore a e d → ⊥) → (SameDirection d e → ⊥) → IsRanked a d e Greater
ranked_greater a d e p q n m = record {
  less = (λ k. absurd (less_not_greater (sym k)), λ k. absurd (n k));
  equal = (λ k. absurd (equal_not_greater (sym k)), λ k. absurd (m k));
  greater = (λ k. from (one_is_first (normal_vector a) (source_vector a) d e (seen_from_source a d e p q) p.not_source q.not_source), λ k. refl);
}
  where
    from : SameDirection d e ⊎ IsOnBefore a e d ⊎ IsOnBefore a d e → IsOnBefore a d e
    from (inl h) = absurd (m h)
    from (inr (inl h)) = absurd (n h)
    from (inr (inr h)) = h
