-- Things in rows by their numbers.
use Rattle.std.specs.Prelude.{ℕ, ◌<◌, List}
use Rattle.nef_space.specs.Lists.{IsAt}

-- each row has the things that are In and have the row's number, and these alone, in order
pub record AreRowsByNumber {X : Type 0} (Number : X → ℕ → Type 0) (In : X → Type 0) (Below : X → X → Type 0) (rows : List (List X)) : Type 0 where
  pub each : (m q : ℕ) (row : List X) (x : X) → IsAt rows m row → IsAt row q x → Number x m × In x
  pub all : (x : X) (m : ℕ) → Number x m → In x → (row : List X) × (q : ℕ) × IsAt rows m row × IsAt row q x
  pub ordered : (m q r : ℕ) (row : List X) (x y : X) → q < r → IsAt rows m row → IsAt row q x → IsAt row r y → Below x y
