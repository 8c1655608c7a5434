-- Facets with the numbers of the volumes beside them, and volumes.
use Rattle.std.specs.Prelude.{◌≡◌}
use Rattle.nef_complex.specs.Prelude.{ℕ, List, length, Bool, Label}
use Rattle.nef_facets.specs.Prelude.{IsAt, Plane, Complex, Corner, corner_of, IsFacetParts, HasItem}
use Rattle.law_geometry.specs.complex.Rays.{VertexSide}
use Rattle.nef_complex.specs.declared.complex.Corner.{Corner as ProgramCorner}
use Rattle.nef_classes.specs.declared.table.Tie.{Tie}
use Rattle.nef_facets.specs.declared.parts.FacetParts.{FacetParts}
use Rattle.nef_complex.specs.Numbers.{IsVolumeOf, VolumeNumbers, shell_sides, pos_of, neg_of}
use Rattle.nef_complex.specs.Shells.{SfaceNumbers, Shells}
use Rattle.nef_complex.specs.declared.parts.Cycle.{Cycle}
use Rattle.nef_complex.specs.declared.parts.Facet.{Facet}
use Rattle.nef_complex.specs.declared.parts.Shell.{Shell}
use Rattle.nef_volumes.specs.declared.ties.FacetPieces.{FacetPieces}
use Rattle.nef_volumes.specs.Ties.{side_at, AreItemTies, AreTiesDown}
use Rattle.nef_volumes.specs.Labels.{AreVolumeLabels}

-- the upper or the lower side of the item at the corner
abbrev pub side_beside : Bool → Corner → VertexSide
side_beside above k = record { vertex = k.vertex; side = side_at above k.item }

-- k is the first corner of the first cycle
abbrev pub IsFirstCorner : List Cycle → ProgramCorner → Type 0
IsFirstCorner xs k = (x : Cycle) × IsAt xs 0 x × IsAt x.corners 0 k

-- the cycles have a first corner, at which there is an item
abbrev pub HasFirst : Complex → List Cycle → Type 0
HasFirst C xs = (k : ProgramCorner) × IsFirstCorner xs k × HasItem C (corner_of k)

-- the facet's volumes are those beside the first corner
abbrev pub HasVolumesBeside : Complex → List (List ℕ) → Facet → Type 0
HasVolumesBeside C rows f = (k : ProgramCorner) → IsFirstCorner f.cycles k → IsVolumeOf C rows (pos_of (corner_of k)) f.pos × IsVolumeOf C rows (neg_of (corner_of k)) f.neg

-- the facets have the planes, the marks and the cycles, and the volumes beside these
pub record AreFacetsOf (C : Complex) (rows : List (List ℕ)) (planes : List Plane) (marks : List Label) (cycles : List (List Cycle)) (fs : List Facet) : Type 0 where
  pub as_many : length fs ≡ length cycles
  pub plane : (n : ℕ) (f : Facet) → IsAt fs n f → IsAt planes n f.plane
  pub mark : (n : ℕ) (f : Facet) → IsAt fs n f → IsAt marks n f.mark
  pub cycles_of : (n : ℕ) (f : Facet) → IsAt fs n f → IsAt cycles n f.cycles
  pub beside : (n : ℕ) (f : Facet) → IsAt fs n f → HasVolumesBeside C rows f

-- the numbers of the sfaces and of the volumes of the sides, and the labels and the shells of the volumes
pub record AreVolumesOf (C : Complex) (faces rows : List (List ℕ)) (ls : List Label) (hss : List (List Shell)) : Type 0 where
  pub sfaces : SfaceNumbers C faces
  pub numbers : VolumeNumbers C rows
  pub labels : AreVolumeLabels C rows ls
  pub as_many : length hss ≡ length ls
  pub shells : (n : ℕ) (hs : List Shell) → IsAt hss n hs → Shells C (λ x. IsVolumeOf C rows x n) (shell_sides hs)

-- the facets, and the ties of the sides of linked items
pub record AreFacetPieces (C : Complex) (p : FacetPieces) : Type 0 where
  pub facets : IsFacetParts C p.parts
  pub items : AreItemTies C p.items.items

-- what the parts are made of: the facets, the ties of the sides of linked items, the numbers of sfaces, and the ties down rays
pub record ArePieces (C : Complex) (p : FacetParts) (ts : List Tie) (faces : List (List ℕ)) (us : List Tie) : Type 0 where
  pub facets : IsFacetParts C p
  pub items : AreItemTies C ts
  pub sfaces : SfaceNumbers C faces
  pub down : AreTiesDown C us
