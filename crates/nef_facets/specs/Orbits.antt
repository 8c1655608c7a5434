-- Orbits of a step on numbers, and the cycles of corners that the orbits are.
use Rattle.std.specs.Prelude.{◌≡◌, ◌<◌, ◌∷◌, ◌⊎◌}
use Rattle.nef_complex.specs.Prelude.{ℕ, List, [], length, Bool, true, false, IsAt, corner_of, IsFacetOf}
use Rattle.std.specs.List.{All}
use Rattle.nef_complex.specs.declared.complex.Corner.{Corner}
use Rattle.nef_complex.specs.declared.parts.Cycle.{Cycle}

-- ns has for each number the number to which a step leads; no two steps lead to one number
pub record IsStep (ns : List ℕ) : Type 0 where
  pub within : (i n : ℕ) → IsAt ns i n → n < length ns
  pub injective : (i j n : ℕ) → IsAt ns i n → IsAt ns j n → i ≡ j

-- a number from which a step leads to a marked number is marked
abbrev pub IsClosedUnderSteps : List ℕ → List Bool → Type 0
IsClosedUnderSteps ns bs = (j i : ℕ) → IsAt ns j i → IsAt bs i true → IsAt bs j true

-- from number j steps lead over the numbers of the list and then to z
abbrev pub StepsOver : List ℕ → ℕ → List ℕ → ℕ → Type 0
StepsOver ns j [] z = IsAt ns j z
StepsOver ns j (k ∷ ks) z = IsAt ns j k × StepsOver ns k ks z

-- the list begins with i, and steps lead from i over the other numbers back to i
abbrev pub ComesBack : List ℕ → ℕ → List ℕ → Type 0
ComesBack ns i [] = ⊥
ComesBack ns i (j ∷ ks) = (j ≡ i) × StepsOver ns j ks j

-- the numbers of the list, which weren't marked, are marked now, and no others have been marked
pub record AreMarked (xs : List ℕ) (old new : List Bool) : Type 0 where
  pub fresh : (k i : ℕ) → IsAt xs k i → IsAt old i false
  pub listed : (k i : ℕ) → IsAt xs k i → IsAt new i true
  pub kept : (i : ℕ) → IsAt old i true → IsAt new i true
  pub only : (i : ℕ) → IsAt new i true → IsAt old i true ⊎ ((k : ℕ) × IsAt xs k i)

-- the list is an orbit, from its least number on
abbrev pub IsOrbit : List ℕ → List ℕ → Type 0
IsOrbit ns [] = ⊥
IsOrbit ns (j ∷ ks) = StepsOver ns j ks j × All (λ k. j < k) ks

-- xs has all orbits, in the order of their first numbers
pub record AreOrbits (ns : List ℕ) (xs : List (List ℕ)) : Type 0 where
  pub each : (m : ℕ) (x : List ℕ) → IsAt xs m x → IsOrbit ns x
  pub all : (i : ℕ) → i < length ns → (m : ℕ) × (k : ℕ) × (x : List ℕ) × IsAt xs m x × IsAt x k i
  pub ordered : (m n i j : ℕ) (x y : List ℕ) → m < n → IsAt xs m x → IsAt xs n y → IsAt x 0 i → IsAt y 0 j → i < j

-- xs has the corners of ks with these numbers
pub record AreCornersOf (ks : List Corner) (is : List ℕ) (xs : List Corner) : Type 0 where
  pub as_many : length xs ≡ length is
  pub each : (k i : ℕ) (x : Corner) → IsAt is k i → IsAt xs k x → IsAt ks i x

-- orbits aren't empty and have numbers of corners of ks, and each such corner has a facet number below the count
pub record AreNumberedOrbits (rows : List (List ℕ)) (ks : List Corner) (orbits : List (List ℕ)) (count : ℕ) : Type 0 where
  pub some : (m : ℕ) (x : List ℕ) → IsAt orbits m x → 0 < length x
  pub within : (m k i : ℕ) (x : List ℕ) → IsAt orbits m x → IsAt x k i → i < length ks
  pub number : (i : ℕ) (k : Corner) → IsAt ks i k → (n : ℕ) × IsFacetOf rows (corner_of k) n
  pub below : (i : ℕ) (k : Corner) (n : ℕ) → IsAt ks i k → IsFacetOf rows (corner_of k) n → n < count

-- y is the cycle of orbit m, whose first corner has the facet number n
pub record IsCycleOf (rows : List (List ℕ)) (ks : List Corner) (orbits : List (List ℕ)) (n m : ℕ) (y : Cycle) : Type 0 where
  pub orbit : List ℕ
  pub listed : IsAt orbits m orbit
  pub corners : AreCornersOf ks orbit y.corners
  pub first : ℕ
  pub is_first : IsAt orbit 0 first
  pub corner : Corner
  pub is_corner : IsAt ks first corner
  pub number : IsFacetOf rows (corner_of corner) n

-- row n has in order the cycles of the orbits, among the first `count`, with first corners in the facet n
pub record AreCycleRows (rows : List (List ℕ)) (ks : List Corner) (orbits : List (List ℕ)) (count : ℕ) (ys : List (List Cycle)) : Type 0 where
  pub each : (n q : ℕ) (row : List Cycle) (y : Cycle) → IsAt ys n row → IsAt row q y → (m : ℕ) × (m < count) × IsCycleOf rows ks orbits n m y
  pub all : (m : ℕ) → m < count → (n : ℕ) × (q : ℕ) × (row : List Cycle) × (y : Cycle) × IsAt ys n row × IsAt row q y × IsCycleOf rows ks orbits n m y
  pub ordered : (n q r : ℕ) (row : List Cycle) (y z : Cycle) → q < r → IsAt ys n row → IsAt row q y → IsAt row r z
      → (l : ℕ) × (m : ℕ) × (l < m) × IsCycleOf rows ks orbits n l y × IsCycleOf rows ks orbits n m z
