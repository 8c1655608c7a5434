-- Lists of corners.
use Rattle.std.specs.Prelude.{◌≡◌, ◌+◌, ◌<◌, ◌∷◌, ◌++◌, ℕ, zero, suc, List, []}
use Rattle.nef_complex.specs.Prelude.{IsAt, corner_of}
use Rattle.law_geometry.specs.complex.Complexes.{Complex, Corner as PlainCorner}
use Rattle.nef_complex.specs.declared.complex.Corner.{Corner}
use Rattle.nef_complex.specs.Cycles.{IsCornerBelow}
pub use Rattle.nef_facets.specs.Carriers.{HasItem}

abbrev pub corner_from : PlainCorner → Corner
corner_from k = record { vertex = k.vertex; item = k.item }

-- the corners of vertex i with n items
abbrev pub corners_at : ℕ → ℕ → List Corner
corners_at i zero = []
corners_at i (suc n) = corners_at i n ++ record { vertex = i; item = n } ∷ []

-- the complex has an item at each corner of the list
abbrev pub AreListed : Complex → List Corner → Type 0
AreListed C ks = (i : ℕ) (k : Corner) → IsAt ks i k → HasItem C (corner_of k)

-- the list is in order of the corners
abbrev pub CornersAreInOrder : List Corner → Type 0
CornersAreInOrder ks = (i j : ℕ) (x y : Corner) → i < j → IsAt ks i x → IsAt ks j y → IsCornerBelow (corner_of x) (corner_of y)

-- the list has all corners of the complex, in order
pub record AreCorners (C : Complex) (ks : List Corner) : Type 0 where
  pub each : AreListed C ks
  pub all : (k : PlainCorner) → HasItem C k → (i : ℕ) × IsAt ks i (corner_from k)
  pub ordered : CornersAreInOrder ks

-- `starts` has for each vertex the number of its first corner, from which the other corners' numbers follow
abbrev pub StandFrom : List Corner → List ℕ → Type 0
StandFrom ks starts = (i : ℕ) (k : Corner) → IsAt ks i k → (f : ℕ) × IsAt starts k.vertex f × (f + k.item ≡ i)
