-- Of two stars of opposite axes each is the first after the other.
use Rattle.nef_spair.proofs.Prelude.{◌≡◌, ℕ, zero, suc, ◌-◌, pos, List, [], ◌∷◌, length, map, get_or, arith, refl, sym, subst, ◌∙◌, Vector, opposite, dot, SameDirection, vector_of, IsStrictlyOn, IsAt, IsFirstAfter, Star, star_of, AreTwoEnds, dot-comm, level-opposite-back, level-of_opposite, dir-self, is-at_none, is-at_first}
use Rattle.law_geometry.specs.sphere.Stars.{Star as PlainStar}

-- two elements of a list of two
pub two-of : (kept : List Star) (a b : Star) → length kept ≡ 2 → a ≡ get_or kept 0 a → b ≡ get_or kept 1 b → kept ≡ a ∷ b ∷ []
two-of [] a b n d e = absurd (omega (arith, n))
two-of (x ∷ []) a b n d e = absurd (omega (arith, n))
two-of (x ∷ y ∷ []) a b n d e = let i : a ≡ x = d in let j : b ≡ y = e in cc
two-of (x ∷ y ∷ z ∷ r) a b n d e = absurd (omega (arith, n))

-- neither end of a way is strictly on it
module _ (n : Vector) (s t : Star) (u : PlainStar) (o : IsStrictlyOn n (vector_of s.axis) (vector_of t.axis) u.axis) where
  source-off : star_of s ≡ u → ⊥
  source-off e = o.not_source (subst (λ (x : PlainStar). SameDirection (vector_of s.axis) x.axis) e (dir-self (vector_of s.axis) s.axis.some))

  target-off : star_of t ≡ u → ⊥
  target-off e = o.not_target (subst (λ (x : PlainStar). SameDirection (vector_of t.axis) x.axis) e (dir-self (vector_of t.axis) t.axis.some))

module _ (n : Vector) (a b : Star) (opp : vector_of b.axis ≡ opposite (vector_of a.axis)) where
  second-level : dot n (vector_of a.axis) ≡ pos 0 → dot n (vector_of b.axis) ≡ pos 0
  second-level h = subst (λ (v : Vector). dot n v ≡ pos 0) (sym opp) (level-of_opposite n (vector_of a.axis) h)

  first-level : dot n (vector_of b.axis) ≡ pos 0 → dot n (vector_of a.axis) ≡ pos 0
  first-level h =
      let e : dot n (opposite (vector_of a.axis)) ≡ pos 0 = subst (λ (v : Vector). dot n v ≡ pos 0) opp h in
      dot-comm n (vector_of a.axis) ∙ level-opposite-back (vector_of a.axis) n (dot-comm (opposite (vector_of a.axis)) n ∙ e)

  after-first : dot n (vector_of a.axis) ≡ pos 0 → IsFirstAfter (star_of a ∷ star_of b ∷ []) n (star_of a) 1
  after-first h = record { first = star_of b; listed = refl; level = second-level h; none_before = off }
    where
      off : (k : ℕ) (u : PlainStar) → IsAt (star_of a ∷ star_of b ∷ []) k u → IsStrictlyOn n (vector_of a.axis) (vector_of b.axis) u.axis → ⊥
      off zero u e o = source-off n a b u o (is-at_first e)
      off (suc zero) u e o = target-off n a b u o (is-at_first e)
      off (suc (suc k)) u e o = absurd (is-at_none e)

  after-second : dot n (vector_of b.axis) ≡ pos 0 → IsFirstAfter (star_of a ∷ star_of b ∷ []) n (star_of b) 0
  after-second h = record { first = star_of a; listed = refl; level = first-level h; none_before = off }
    where
      off : (k : ℕ) (u : PlainStar) → IsAt (star_of a ∷ star_of b ∷ []) k u → IsStrictlyOn n (vector_of b.axis) (vector_of a.axis) u.axis → ⊥
      off zero u e o = target-off n b a u o (is-at_first e)
      off (suc zero) u e o = source-off n b a u o (is-at_first e)
      off (suc (suc k)) u e o = absurd (is-at_none e)

  first-of_pair : (from : ℕ) (t : Star) → IsAt (a ∷ b ∷ []) from t → dot n (vector_of t.axis) ≡ pos 0 → IsFirstAfter (star_of a ∷ star_of b ∷ []) n (star_of t) (1 - from)
  first-of_pair zero t e h =
      subst (λ (x : Star). IsFirstAfter (star_of a ∷ star_of b ∷ []) n (star_of x) 1) (is-at_first e) (after-first (subst (λ (x : Star). dot n (vector_of x.axis) ≡ pos 0) (sym (is-at_first e)) h))
  first-of_pair (suc zero) t e h =
      subst (λ (x : Star). IsFirstAfter (star_of a ∷ star_of b ∷ []) n (star_of x) 0) (is-at_first e) (after-second (subst (λ (x : Star). dot n (vector_of x.axis) ≡ pos 0) (sym (is-at_first e)) h))
  first-of_pair (suc (suc k)) t e h = absurd (is-at_none e)

-- the other of two ends comes first
pub first-other : (kept : List Star) (n : Vector) (from : ℕ) (t : Star) → AreTwoEnds kept → IsAt kept from t → dot n (vector_of t.axis) ≡ pos 0
    → IsFirstAfter (map star_of kept) n (star_of t) (1 - from)
first-other kept n from t w a h =
    subst (λ (l : List Star). IsFirstAfter (map star_of l) n (star_of t) (1 - from)) (sym w.two)
    (first-of_pair n w.first w.second w.opposite from t (subst (λ (l : List Star). IsAt l from t) w.two a) h)
