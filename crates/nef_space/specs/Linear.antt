-- Linear forms as lists of coefficients, at vectors as lists of numbers.
use Rattle.std.specs.Prelude.{ℕ, zero, suc, ℤ, pos, ◌+ℤ◌, ◌*ℤ◌, ◌<ℤ◌, List, [], ◌∷◌}

-- the value of the form f at the vector u
abbrev pub dot_list : List ℤ → List ℤ → ℤ
dot_list [] u = pos 0
dot_list (a ∷ f) [] = pos 0
dot_list (a ∷ f) (x ∷ u) = a *ℤ x +ℤ dot_list f u

-- the list has n numbers, and then a last one that is positive
abbrev pub IsPoint : ℕ → List ℤ → Type 0
IsPoint n [] = ⊥
IsPoint zero (w ∷ []) = pos 0 <ℤ w
IsPoint zero (w ∷ x ∷ u) = ⊥
IsPoint (suc n) (x ∷ u) = IsPoint n u
