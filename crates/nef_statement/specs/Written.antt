-- What is counted of a set.
use Rattle.std.specs.Prelude.{◌≡◌, ℕ, List, [], ◌∷◌}
use Rattle.nef_space.specs.Sets.{Set}
use Rattle.nef_conn.specs.Components.{HasComponents}
use Rattle.nef_complex.specs.Text.{line, numbers}

-- x has four numbers: how many components the points with 0, 1, 2 and 3 flat directions have, over all of space
abbrev pub CountTells : Set → List ℕ → Type 0
CountTells s x = (n : ℕ → ℕ) × ((directions : ℕ) → HasComponents s directions (n directions)) × (x ≡ line (numbers (n 0 ∷ n 1 ∷ n 2 ∷ n 3 ∷ [])))
