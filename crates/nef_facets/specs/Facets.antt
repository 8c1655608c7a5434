-- The facets of a complex.
use Rattle.std.specs.Prelude.{◌≡◌, ◌<◌}
use Rattle.nef_complex.specs.Prelude.{ℕ, pos, List, length, IsAt, form_at, normal_of, SameDirection, Label, form_of, Plane, corner_of}
use Rattle.law_geometry.specs.sphere.Maps.{Item, item_normal, item_mark}
use Rattle.law_geometry.specs.complex.Complexes.{Vertex, Complex, Corner, IsCorner}
use Rattle.nef_complex.specs.declared.complex.Corner.{Corner as CornerValue}
use Rattle.nef_complex.specs.Cycles.{Cycles}
use Rattle.nef_complex.specs.Numbers.{IsFacetOf, FacetNumbers, cycle_corners}
use Rattle.nef_complex.specs.declared.parts.Cycle.{Cycle}
pub use Rattle.nef_facets.specs.Carriers.{IsPlaneAt}
use Rattle.nef_facets.specs.declared.parts.FacetParts.{FacetParts}

-- the label is the mark of the corner's item
abbrev pub IsMarkAt : Complex → Label → Corner → Type 0
IsMarkAt C l k = (v : Vertex) (x : Item) → IsCorner C k v x → l ≡ item_mark x

-- the planes are the planes of the corners' items, and the labels are the marks of these items
abbrev pub ArePlanesAt : Complex → List CornerValue → List Plane → Type 0
ArePlanesAt C ks hs = (n : ℕ) (h : Plane) (k : CornerValue) → IsAt hs n h → IsAt ks n k → IsPlaneAt C h (corner_of k)

abbrev pub AreMarksAt : Complex → List CornerValue → List Label → Type 0
AreMarksAt C ks ls = (n : ℕ) (l : Label) (k : CornerValue) → IsAt ls n l → IsAt ks n k → IsMarkAt C l (corner_of k)

-- row n has the cycles of facet n
abbrev pub AreCyclesOf : Complex → List (List ℕ) → List (List Cycle) → Type 0
AreCyclesOf C rows ys = (n : ℕ) (row : List Cycle) → IsAt ys n row → Cycles C (λ k. IsFacetOf rows k n) (cycle_corners row)

-- for each facet number a listed corner with that number, and no listed corner has another number
pub record AreFirsts (rows : List (List ℕ)) (ks firsts : List CornerValue) : Type 0 where
  pub each : (n : ℕ) (k : CornerValue) → IsAt firsts n k → IsFacetOf rows (corner_of k) n × ((i : ℕ) × IsAt ks i k)
  pub all : (i n : ℕ) (k : CornerValue) → IsAt ks i k → IsFacetOf rows (corner_of k) n → n < length firsts

-- the planes, marks and cycles of the facets of the complex, and the facet numbers of all items
pub record IsFacetParts (C : Complex) (p : FacetParts) : Type 0 where
  pub numbers : FacetNumbers C p.facet_of
  pub as_many_marks : length p.marks ≡ length p.planes
  pub as_many_cycles : length p.cycles ≡ length p.planes
  pub some : (n : ℕ) → n < length p.planes → (k : Corner) × IsFacetOf p.facet_of k n
  pub all : (k : Corner) (n : ℕ) → IsFacetOf p.facet_of k n → n < length p.planes
  pub planes : (n : ℕ) (h : Plane) (k : Corner) (v : Vertex) (x : Item) → IsAt p.planes n h → IsFacetOf p.facet_of k n → IsCorner C k v x
      → (form_at (form_of h) v.point ≡ pos 0) × SameDirection (normal_of (form_of h)) (item_normal x)
  pub marks : (n : ℕ) (l : Label) (k : Corner) (v : Vertex) (x : Item) → IsAt p.marks n l → IsFacetOf p.facet_of k n → IsCorner C k v x → l ≡ item_mark x
  pub cycles : (n : ℕ) (xs : List Cycle) → IsAt p.cycles n xs → Cycles C (λ k. IsFacetOf p.facet_of k n) (cycle_corners xs)
