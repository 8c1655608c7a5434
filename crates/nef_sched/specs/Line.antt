-- What stands in a round's queue: the numbers that no pass took, and behind them one end for each pass that hasn't ended.
use Rattle.std.specs.Prelude.{◌≡◌, ℕ, ◌+◌, List, [], ◌∷◌, Option, Some, None}

abbrev pub numbers_in : List (Option ℕ) → List ℕ
numbers_in [] = []
numbers_in (None ∷ xs) = numbers_in xs
numbers_in (Some x ∷ xs) = x ∷ numbers_in xs

abbrev pub ends_in : List (Option ℕ) → ℕ
ends_in [] = 0
ends_in (None ∷ xs) = 1 + ends_in xs
ends_in (Some x ∷ xs) = ends_in xs

-- no number stands behind an end
abbrev pub EndsLast : List (Option ℕ) → Type 0
EndsLast [] = Unit {0}
EndsLast (None ∷ xs) = numbers_in xs ≡ []
EndsLast (Some x ∷ xs) = EndsLast xs
