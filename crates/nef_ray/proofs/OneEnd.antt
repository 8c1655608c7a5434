-- A ray has one end.
use Rattle.nef_ray.proofs.Prelude.{◌≡◌, refl, sym, ◌⊎◌, inl, inr, ⊎_elim, Bool, true, false, arith, subst, ints, HasLabel, Germ, SpacePoint, SamePoint, toward, IsAhead, IsBetween, Set, Vector, opposite, SameDirection, Label, toward-point, point-decided, reach_all, carriers, start, start-close, start-between, germ-toward, Label-cells, label-one, Germ-unique, signs-same, same-point_sym, Germ-same, Beside, same_way, other_way, beside, ahead-back, between-outer, on_line, to_opposite, between-ahead, Changes, IsRayEnd, OneRayEnd, vector-same, SameDirection-turned, SameDirection-trans, dir-self, direction-left}
use Rattle.nef_space.proofs.Elementary.{same-itself}

-- of two points ahead the one lies before the other, or they are the same
ray-cases : (p x z : SpacePoint) (d : Vector) → IsAhead p d x → IsAhead p d z → IsBetween p x z ⊎ SamePoint x z ⊎ IsBetween p z x
ray-cases p x z d a b = ⊎_elim (λ e. inr (inl e)) (λ o. by (beside (toward x z) d (λ n. o (toward-point x z n)) (direction-left d (toward p x) (SameDirection-turned (toward p x) d a)) (on_line p x z d a.parallel b.parallel))) (point-decided x z)
  where
    by : Beside (toward x z) d → IsBetween p x z ⊎ SamePoint x z ⊎ IsBetween p z x
    by (same_way w) = inl (SameDirection-trans (toward p x) d (toward x z) a (SameDirection-turned (toward x z) d w))
    by (other_way w) =
        let twice : opposite (opposite d) ≡ d = vector-same (opposite (opposite d)) d (omega (arith, ints)) (omega (arith, ints)) (omega (arith, ints)) in
        let way = subst (λ (e : Vector). SameDirection (toward z x) e) twice (ahead-back x z (opposite d) (to_opposite (toward x z) d w)) in
        inr (inr (SameDirection-trans (toward p z) d (toward z x) b (SameDirection-turned (toward z x) d way)))

module _ (s : Set) (p : SpacePoint) (d : Vector) where
  -- an end lies before no other
  earlier : (q r : SpacePoint) (a b : Bool) (l m : Label) → IsRayEnd s p d q a l → IsRayEnd s p d r b m → IsBetween p q r → ⊥
  earlier q r a b l m E F before = by a E.changes
    where
      one : F.before ≡ E.before
      one = Germ-unique s p d F.before E.before F.germ E.germ

      here : HasLabel s q E.before
      here = subst (HasLabel s q) one (F.same q before)

      way : IsAhead q d r
      way = SameDirection-trans (toward q r) (toward p q) d (SameDirection-turned (toward p q) (toward q r) before) E.ahead

      after : Germ s q d E.before
      after =
          let n = reach_all (carriers s) q in
          let y = start (reach_all (carriers s) q) q r in
          let b = start-between (reach_all (carriers s) q) q r (direction-left (toward q r) d way) in
          let h = subst (HasLabel s y) one (F.same y (between-outer p q y r before b)) in
          Germ-same s q q (toward q y) d E.before (same-itself q) (between-ahead q y r d b way) (germ-toward s E.before q y (start-close (reach_all (carriers s) q) q r) h)

      by : (a : Bool) → Changes s q d E.before a l → ⊥
      by false h = E.other (label-one s q l E.before h here)
      by true (h, g) = E.other (Germ-unique s q d l E.before g after)

  same-end : (q r : SpacePoint) (a b : Bool) (l m : Label) → IsRayEnd s p d q a l → IsRayEnd s p d r b m → SamePoint q r → (a ≡ b) × (l ≡ m)
  same-end q r a b l m E F e = by a b E.changes F.changes
    where
      one : F.before ≡ E.before
      one = Germ-unique s p d F.before E.before F.germ E.germ

      label : (k : Label) → HasLabel s r k → HasLabel s q k
      label k = Label-cells s k r q (signs-same (carriers s) r q (same-point_sym q r e))

      by : (a b : Bool) → Changes s q d E.before a l → Changes s r d F.before b m → (a ≡ b) × (l ≡ m)
      by false false h i = (refl, label-one s q l m h (label m i))
      by false true h (i, g) = absurd (E.other (label-one s q l E.before h (subst (HasLabel s q) one (label F.before i))))
      by true false (h, g) i = absurd (F.other (label-one s q m F.before (label m i) (subst (HasLabel s q) (sym one) h)))
      by true true (h, g) (i, f) = (refl, Germ-unique s q d l m g (Germ-same s r q d d m (same-point_sym q r e) (dir-self d (direction-left d (toward p q) (SameDirection-turned (toward p q) d E.ahead))) f))

pub one-end : OneRayEnd
one-end s p d q r a b l m E F = ⊎_elim
    (λ before. absurd (earlier s p d q r a b l m E F before))
    (λ o. ⊎_elim (λ e. let t = same-end s p d q r a b l m E F e in (e, t.0, t.1)) (λ before. absurd (earlier s p d r q b a m l F E before)) o)
    (ray-cases p q r d E.ahead F.ahead)
