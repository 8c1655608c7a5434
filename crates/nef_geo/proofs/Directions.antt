-- Directions: positive multiples of one another, and their opposites.
use Rattle.nef_geo.proofs.Prelude.{◌≡◌, ℕ, ◌≤◌, ℤ, pos, neg_ℤ, ◌-ℤ◌, ◌*ℤ◌, ◌<ℤ◌, nat_abs, List, [], ◌∷◌, arith, ap, ◌∙◌, subst, w64, to_z, of_z, ◌∣◌, ints, direction_limit, IsLowest, Vector, vector, dot, IsAtMost, IsDirection, SameDirection, load, const, wrap, ◌⊟◌, exact_of, mul_pos, at, num, ◌⊕◌, ◌⊖◌, ◌⊗◌, ring, IsStretched, self-pos}
use Rattle.nef_geo.proofs.Divisors.{part_small}
use Rattle.nef_space.proofs.Elementary.{whole-nought, size-opposite, nought-less}

-- ---- positive multiples
pub IsDirection-part : (a b : Vector) → IsStretched a b → IsDirection a → IsDirection b
IsDirection-part a b s some z = some (whole-nought s.factor a.x b.x s.x_is z.0, whole-nought s.factor a.y b.y s.y_is z.1, whole-nought s.factor a.z b.z s.z_is z.2)

abbrev env : (a b : Vector) → IsStretched a b → List ℤ
env a b s = s.factor ∷ b.x ∷ b.y ∷ b.z ∷ []

pub SameDirection-stretched : (a b : Vector) → IsStretched a b → IsDirection b → SameDirection a b
SameDirection-stretched a b s some = record {
  parallel = (
    rw (s.y_is, s.z_is) (ring (env a b s) (at 0 ⊗ at 2 ⊗ at 3 ⊖ at 0 ⊗ at 3 ⊗ at 2) (num (pos 0)) tt),
    rw (s.z_is, s.x_is) (ring (env a b s) (at 0 ⊗ at 3 ⊗ at 1 ⊖ at 0 ⊗ at 1 ⊗ at 3) (num (pos 0)) tt),
    rw (s.x_is, s.y_is) (ring (env a b s) (at 0 ⊗ at 1 ⊗ at 2 ⊖ at 0 ⊗ at 2 ⊗ at 1) (num (pos 0)) tt),
  );
  forward =
      let e : s.factor *ℤ dot b b ≡ dot a b = rw (s.x_is, s.y_is, s.z_is)
      (ring (env a b s) (at 0 ⊗ (at 1 ⊗ at 1 ⊕ at 2 ⊗ at 2 ⊕ at 3 ⊗ at 3)) (at 0 ⊗ at 1 ⊗ at 1 ⊕ at 0 ⊗ at 2 ⊗ at 2 ⊕ at 0 ⊗ at 3 ⊗ at 3) tt) in
      subst (λ (n : ℤ). pos 0 <ℤ n) e (mul_pos s.factor (dot b b) s.positive (self-pos b some));
}

pub IsAtMost-part : (k : ℕ) (a b : Vector) → IsStretched a b → IsAtMost k a → IsAtMost k b
IsAtMost-part k a b s h = record {
  of_x = part_small k s.factor a.x b.x s.positive s.x_is h.of_x;
  of_y = part_small k s.factor a.y b.y s.positive s.y_is h.of_y;
  of_z = part_small k s.factor a.z b.z s.positive s.z_is h.of_z;
}

-- ---- opposites

pub small-neg : (k : ℕ) (n n' : ℤ) → n' ≡ neg_ℤ n → nat_abs n ≤ k → nat_abs n' ≤ k
small-neg k n n' e h = omega (arith, ints)

pub IsDirection-opposite : (x y z x' y' z' : ℤ) → x' ≡ neg_ℤ x → y' ≡ neg_ℤ y → z' ≡ neg_ℤ z → IsDirection (vector x y z) → IsDirection (vector x' y' z')
IsDirection-opposite x y z x' y' z' ex ey ez some n =
    let n0 : x' ≡ pos 0 = n.0 in let n1 : y' ≡ pos 0 = n.1 in let n2 : z' ≡ pos 0 = n.2 in
    some (omega (arith, ints), omega (arith, ints), omega (arith, ints))

pub IsLowest-opposite : (x y z x' y' z' : ℤ) → x' ≡ neg_ℤ x → y' ≡ neg_ℤ y → z' ≡ neg_ℤ z → IsLowest (x ∷ y ∷ z ∷ []) → IsLowest (x' ∷ y' ∷ z' ∷ [])
IsLowest-opposite x y z x' y' z' ex ey ez h = λ k d. h k (back k x x' ex d.0, (back k y y' ey d.1.0, (back k z z' ez d.1.1.0, tt)))
  where
    back : (k : ℕ) (n n' : ℤ) → n' ≡ neg_ℤ n → k ∣ nat_abs n' → k ∣ nat_abs n
    back k n n' e d = subst (λ (m : ℕ). k ∣ m) (ap nat_abs e ∙ size-opposite n) d

-- the negation that the machine computes
pub negated : (n : ℤ) → nat_abs n ≤ direction_limit → to_z w64 (of_z w64 (pos 0 -ℤ to_z w64 (of_z w64 n))) ≡ neg_ℤ n
negated n h = exact_of (direction_limit ∷ []) (n ∷ []) (wrap w64 (const (pos 0) ⊟ wrap w64 (load 0))) (h, tt) tt ∙ nought-less n
