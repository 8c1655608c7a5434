-- Equations that follow from other equations: the difference is a combination of them.
use Rattle.nef_space.proofs.Prelude.{◌≡◌, ℤ, pos, ◌-ℤ◌, ◌*ℤ◌, ◌<ℤ◌, arith, refl, ap, ◌∙◌, List, ints}
use lib.IntN.{*ℤ-zero}
use Rattle.nef_space.proofs.Ring.{is_zero, IsNought, value, ◌⊖◌, ◌⊗◌, Poly}
pub use Rattle.nef_space.specs.Polynomial.{GivenEquations, none, given, weighted_sum}
use Rattle.nef_space.proofs.Order.{cancel_eq}

combined-zero : (xs : List ℤ) (g : GivenEquations xs) → value xs (weighted_sum g) ≡ pos 0
combined-zero xs none = refl
combined-zero xs (given m l r e g) =
    let h = combined-zero xs g in
    let i : value xs l -ℤ value xs r ≡ pos 0 = omega (arith, ints) in
    let j = ap (λ z. value xs m *ℤ z) i ∙ *ℤ-zero (value xs m) in
    omega (arith, ints)

-- p and q differ by a combination of the given equations
pub follows : (xs : List ℤ) (p q : Poly) (g : GivenEquations xs) → IsNought (p ⊖ q ⊖ weighted_sum g) → value xs p ≡ value xs q
follows xs p q g h = let e = is_zero xs (p ⊖ q ⊖ weighted_sum g) h in let f = combined-zero xs g in omega (arith, ints)

-- the same, where the difference is a combination only after a positive factor
pub follows_times : (xs : List ℤ) (k p q : Poly) (g : GivenEquations xs) → pos 0 <ℤ value xs k → IsNought (p ⊗ k ⊖ q ⊗ k ⊖ weighted_sum g) → value xs p ≡ value xs q
follows_times xs k p q g s h = cancel_eq (value xs p) (value xs q) (value xs k) s (follows xs (p ⊗ k) (q ⊗ k) g h)
