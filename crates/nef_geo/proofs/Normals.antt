-- The first nonzero number of a normal, and positive multiples of forms.
use Rattle.nef_geo.proofs.Prelude.{◌≡◌, zero, suc, ℤ, pos, negsuc, neg_ℤ, ◌-ℤ◌, ◌*ℤ◌, ◌<ℤ◌, nat_abs, ◌≤◌, arith, refl, ◌∙◌, [], ◌∷◌, to_z, of_z, w64, ints, offset_limit, Form, vector, opposite, IsDirection, IsNormal, load, const, wrap, ◌⊟◌, exact_of, at, neg, ◌⊗◌, ring, opposite_form, IsPositiveMultiple}
use Rattle.nef_geo.proofs.Divisors.{part_not_negative, part_positive}
use Rattle.nef_space.proofs.Elementary.{whole-nought, nought-less}

pub IsNormal-parts : (g a b c a' b' c' : ℤ) → pos 0 <ℤ g → a ≡ g *ℤ a' → b ≡ g *ℤ b' → c ≡ g *ℤ c' → IsNormal (vector a b c) → IsNormal (vector a' b' c')
IsNormal-parts g a b c a' b' c' p ea eb ec h = record {
  first = part_not_negative g a a' p h.first ea;
  second = λ z. part_not_negative g b b' p (h.second (whole-nought g a a' ea z)) eb;
  third = λ z z'. part_positive g c c' p (h.third (whole-nought g a a' ea z) (whole-nought g b b' eb z')) ec;
}

-- a normal leads with a positive number, or its opposite does
pub IsNormal-opposite : (a b c : ℤ) → IsDirection (vector a b c) → ¬ IsNormal (vector a b c) → IsNormal (opposite (vector a b c))
IsNormal-opposite (negsuc n) b c some not = record { first = omega (arith, ints); second = λ z. absurd (omega (arith, ints)); third = λ z. absurd (omega (arith, ints)) }
IsNormal-opposite (pos (suc n)) b c some not =
    absurd (not (record { first = omega (arith, ints); second = λ z. absurd (omega (arith, ints)); third = λ z. absurd (omega (arith, ints)) }))
IsNormal-opposite (pos zero) (negsuc n) c some not = record { first = omega (arith, ints); second = λ z. omega (arith, ints); third = λ z z'. absurd (omega (arith, ints)) }
IsNormal-opposite (pos zero) (pos (suc n)) c some not =
    absurd (not (record { first = omega (arith, ints); second = λ z. omega (arith, ints); third = λ z z'. absurd (omega (arith, ints)) }))
IsNormal-opposite (pos zero) (pos zero) (negsuc n) some not = record { first = omega (arith, ints); second = λ z. omega (arith, ints); third = λ z z'. omega (arith, ints) }
IsNormal-opposite (pos zero) (pos zero) (pos zero) some not = absurd (some (refl, refl, refl))
IsNormal-opposite (pos zero) (pos zero) (pos (suc n)) some not =
    absurd (not (record { first = omega (arith, ints); second = λ z. omega (arith, ints); third = λ z z'. omega (arith, ints) }))

pub IsNormal-not_both : (a b c : ℤ) → IsNormal (vector a b c) → IsNormal (opposite (vector a b c)) → ⊥
IsNormal-not_both a b c h k =
    let h1 = h.first in let k1 = k.first in
    let a0 : a ≡ pos 0 = omega (arith, ints) in let a1 : neg_ℤ a ≡ pos 0 = omega (arith, ints) in
    let h2 = h.second a0 in let k2 = k.second a1 in
    let b0 : b ≡ pos 0 = omega (arith, ints) in let b1 : neg_ℤ b ≡ pos 0 = omega (arith, ints) in
    let h3 = h.third a0 b0 in let k3 = k.third a1 b1 in
    omega (arith, ints)

-- the negation that the machine computes
pub negated : (n : ℤ) → nat_abs n ≤ offset_limit → to_z w64 (of_z w64 (pos 0 -ℤ to_z w64 (of_z w64 n))) ≡ neg_ℤ n
negated n h = exact_of (offset_limit ∷ []) (n ∷ []) (wrap w64 (const (pos 0) ⊟ wrap w64 (load 0))) (h, tt) tt ∙ nought-less n

pub IsPositiveMultiple-turned : (h g : Form) → IsPositiveMultiple (opposite_form h) g → IsPositiveMultiple h (opposite_form g)
IsPositiveMultiple-turned h g m = record {
  factor = m.factor;
  positive = m.positive;
  a_is = turned h.a m.factor g.a m.a_is;
  b_is = turned h.b m.factor g.b m.b_is;
  c_is = turned h.c m.factor g.c m.c_is;
  d_is = turned h.d m.factor g.d m.d_is;
}
  where
    turned : (x f x' : ℤ) → neg_ℤ x ≡ f *ℤ x' → x ≡ f *ℤ neg_ℤ x'
    turned x f x' e = let h : x ≡ neg_ℤ (f *ℤ x') = omega (arith, ints) in h ∙ ring (f ∷ x' ∷ []) (neg (at 0 ⊗ at 1)) (at 0 ⊗ neg (at 1)) tt
