-- The numbers of the point at a step from a start, as the machine computes them.
use Rattle.nef_geo.proofs.Prelude.{ℕ, ◌≤◌, ℤ, pos, ◌<ℤ◌, nat_abs, List, [], ◌∷◌, w64, IsAtMost, Code, load, wrap, ◌⊞◌, ◌⊠◌, Limited, IsPointAtMost, vector_of, point_at, Dir}
use mir.Syntax.{w128}

-- the bounds of the start's four numbers, the direction's three and the step's two
abbrev pub sizes : (m n k a b : ℕ) → List ℕ
sizes m n k a b = m ∷ m ∷ m ∷ n ∷ k ∷ k ∷ k ∷ a ∷ b ∷ []

abbrev pub numbers : (x y z w : ℤ) → Dir → (num den : ℤ) → List ℤ
numbers x y z w d num den = x ∷ y ∷ z ∷ w ∷ d.x ∷ d.y ∷ d.z ∷ num ∷ den ∷ []

pub limited : (m n k a b : ℕ) (x y z w : ℤ) (positive : pos 0 <ℤ w) (d : Dir) (num den : ℤ) → IsPointAtMost m n (point_at x y z w positive) → IsAtMost k (vector_of d) → nat_abs num ≤ a → nat_abs den ≤ b
    → Limited (sizes m n k a b) (numbers x y z w d num den)
limited m n k a b x y z w positive d num den s t p q = (s.numbers.of_x, (s.numbers.of_y, (s.numbers.of_z, (s.weight, (t.of_x, (t.of_y, (t.of_z, (p, (q, tt)))))))))

-- a number of the start times den, num times a number of the direction, and their sum
abbrev pub start : Code → Code
start e = wrap w128 e ⊠ wrap w128 (load 8)

abbrev pub stretch : ℕ → Code
stretch j = wrap w128 (load 7) ⊠ wrap w128 (wrap w64 (load j))

abbrev pub sum : Code → ℕ → Code
sum e j = wrap w128 (start e) ⊞ wrap w128 (stretch j)
