-- Normal forms of directions: the way to a later point, and what is of the same way as a normal.
use Rattle.law_geometry.proofs.near.Prelude.{◌≡◌, ℕ, ◌<◌, ℤ, pos, ◌*ℤ◌, ◌≤ℤ◌, ◌<ℤ◌, arith, ap, ◌∙◌, inl, inr, [], ◌∷◌, ints, ring, at, num, ◌⊗◌, SpacePoint, IsPointBelow, toward, Vector, SameDirection, by_order, cancel_eq, mul_nonneg, mul_pos}
use Rattle.nef_space.specs.Vectors.{IsNormal}
use Rattle.nef_space.proofs.Order.{mul_neg}
use Rattle.nef_space.proofs.Elementary.{counted-positive}
use Rattle.law_geometry.proofs.near.Directions.{same-factor}

-- q - p for a later point q begins with a positive number
pub toward-normal : (p q : SpacePoint) → IsPointBelow p q → IsNormal (toward p q)
toward-normal p q (inl h) = record { first = omega (arith, ints); second = λ e. absurd (omega (arith, ints)); third = λ e f. absurd (omega (arith, ints)) }
toward-normal p q (inr (e, inl h)) = record { first = omega (arith, ints); second = λ z. omega (arith, ints); third = λ z w. absurd (omega (arith, ints)) }
toward-normal p q (inr (e, inr (f, inl h))) = record { first = omega (arith, ints); second = λ z. omega (arith, ints); third = λ z w. omega (arith, ints) }
toward-normal p q (inr (e, inr (f, inr h))) = absurd h.1

-- ---- normal forms of directions
-- k x = l y
module _ (k l : ℕ) (some_k : 0 < k) (some_l : 0 < l) (x y : ℤ) (e : pos k *ℤ x ≡ pos l *ℤ y) where
  zero-before : y ≡ pos 0 → x ≡ pos 0
  zero-before z =
      cancel_eq x (pos 0) (pos k) (counted-positive k some_k)
      (ring (x ∷ pos k ∷ []) (at 0 ⊗ at 1) (at 1 ⊗ at 0) tt ∙ e ∙ ap (λ r. pos l *ℤ r) z ∙ ring (pos k ∷ pos l ∷ []) (at 1 ⊗ num (pos 0)) (num (pos 0) ⊗ at 0) tt)

  nonnegative-after : pos 0 ≤ℤ x → pos 0 ≤ℤ y
  nonnegative-after h = by_order y (pos 0)
      (λ b. let m = mul_neg (pos l) y (counted-positive l some_l) b in let n = mul_nonneg (pos k) x (omega (arith, ints)) h in absurd (omega (arith, ints)))
      (λ z. omega (arith, ints)) (λ b. omega (arith, ints))

  positive-after : pos 0 <ℤ x → pos 0 <ℤ y
  positive-after h = by_order y (pos 0)
      (λ b. let m = mul_neg (pos l) y (counted-positive l some_l) b in let n = mul_pos (pos k) x (counted-positive k some_k) h in absurd (omega (arith, ints)))
      (λ z. let x-is = zero-before z in absurd (omega (arith, ints))) (λ b. b)

pub normal-kept : (a b : Vector) → SameDirection a b → IsNormal a → IsNormal b
normal-kept a b s n =
    let f = same-factor a b s in record {
      first = nonnegative-after f.k f.l f.some_k f.some_l a.x b.x f.is_x n.first;
      second = λ x. nonnegative-after f.k f.l f.some_k f.some_l a.y b.y f.is_y (n.second (zero-before f.k f.l f.some_k f.some_l a.x b.x f.is_x x));
      third = λ x y. positive-after f.k f.l f.some_k f.some_l a.z b.z f.is_z (n.third (zero-before f.k f.l f.some_k f.some_l a.x b.x f.is_x x) (zero-before f.k f.l f.some_k f.some_l a.y b.y f.is_y y));
    }
