-- Directions in counterclockwise order about an axis, and the labels that a direction gets at or between them.
use Rattle.std.specs.Prelude.{◌≡◌, ◌<◌, ◌⊎◌, ℕ, suc}
use Rattle.nef_geo.specs.Prelude.{Vector, SameDirection, Label}
use Rattle.law_geometry.specs.sphere.cyclic.Arcs.{IsOnCircle, Passes}

-- f 0 to f (n - 1) stand in counterclockwise order about the axis, and no two of them are one direction
pub record IsTurning (axis : Vector) (n : ℕ) (f : ℕ → Vector) : Type 0 where
  pub circle : (k : ℕ) → k < n → IsOnCircle axis (f k)
  pub apart : (k : ℕ) → 0 < k → k < n → SameDirection (f 0) (f k) → ⊥
  pub rising : (i k : ℕ) → 0 < i → i < k → k < n → Passes axis (f 0) (f i) (f k)

-- j is the number after k, where the first number follows the last
abbrev pub IsNext : ℕ → ℕ → ℕ → Type 0
IsNext n k j = ((suc k ≡ j) × (j < n)) ⊎ ((suc k ≡ n) × (j ≡ 0))

-- d gets the label l from the labels marks k at f k and sectors k from f k to the next, or from sectors 0 alone
pub data Gives (axis : Vector) (n : ℕ) (f : ℕ → Vector) (marks sectors : ℕ → Label) (d : Vector) (l : Label) : Type 0 where
  on_ray : (k : ℕ) → k < n → SameDirection (f k) d → marks k ≡ l → Gives axis n f marks sectors d l
  in_sector : (k j : ℕ) → k < n → IsNext n k j → Passes axis (f k) d (f j) → sectors k ≡ l → Gives axis n f marks sectors d l
  in_only_sector : n ≡ 0 → sectors 0 ≡ l → Gives axis n f marks sectors d l

-- d lies past f k and before the next direction
abbrev pub IsPastDirection : Vector → ℕ → (ℕ → Vector) → Vector → ℕ → Type 0
IsPastDirection axis n f d k = (j : ℕ) × IsNext n k j × Passes axis (f k) d (f j)

-- d is the direction f k, or lies past f k and before the next direction
abbrev pub IsUnder : Vector → ℕ → (ℕ → Vector) → Vector → ℕ → Type 0
IsUnder axis n f d k = SameDirection (f k) d ⊎ IsPastDirection axis n f d k

-- just past d the label is l: the label of sectors k, where d is under f k, or of sectors 0 alone
abbrev pub IsLabelAfter : Vector → ℕ → (ℕ → Vector) → (ℕ → Label) → Vector → Label → Type 0
IsLabelAfter axis n f sectors d l = ((k : ℕ) × (k < n) × IsUnder axis n f d k × (sectors k ≡ l)) ⊎ ((n ≡ 0) × (sectors 0 ≡ l))
