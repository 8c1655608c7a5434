-- How often a number stands in a list.
use Rattle.std.specs.Prelude.{◌≡◌, ℕ, ◌+◌, ◌≤◌, ◌==◌, cond, List, [], ◌∷◌}

-- the weights of the items, added up
abbrev pub weigh : (ℕ → ℕ) → List ℕ → ℕ
weigh h [] = 0
weigh h (x ∷ xs) = h x + weigh h xs

-- 1 where the numbers are the same, and else 0
abbrev pub one : ℕ → ℕ → ℕ
one x y = cond (y == x) 1 0

-- how often x stands in the list
abbrev pub times : ℕ → List ℕ → ℕ
times x xs = weigh (one x) xs

-- no number stands in the list twice
abbrev pub Differ : List ℕ → Type 0
Differ xs = (x : ℕ) → times x xs ≤ 1

-- the two lists together hold each of the numbers exactly once, and nothing else
abbrev pub IsDealt : List ℕ → List ℕ → List ℕ → Type 0
IsDealt numbers taken left = Differ numbers × ((x : ℕ) → times x taken + times x left ≡ times x numbers)
