-- The numbers of facets and of volumes, and the parts of a complex.
use Rattle.std.specs.Prelude.{◌≡◌, ◌<◌, ◌∷◌, ◌↔◌}
use Rattle.nef_geo.specs.Prelude.{ℕ, pos, List, [], length, map, IsBelow, form_at, normal_of, SameDirection, Label, form_of}
use Rattle.nef_space.specs.Lists.{IsAt, NumbersClasses, IsInTable}
use Rattle.nef_space.specs.declared.label.Label.TheVariants.{Out}
use Rattle.nef_smap.specs.Prelude.{Item, items, item_normal, item_mark, pos_item, neg_item, sides_of}
use Rattle.law_geometry.specs.complex.Prelude.{Vertex, Complex, Corner, IsCorner, VertexSide, HasSideLabel}
use Rattle.nef_complex.specs.Complexes.{corner_of}
use Rattle.law_geometry.specs.complex.links.Links.{FacetLink, VolumeLink}
use Rattle.nef_complex.specs.Cycles.{IsCornerBelow, Cycles}
use Rattle.nef_complex.specs.Sides.{IsSideNumber}
use Rattle.nef_complex.specs.Shells.{SfaceNumbers, Shells}
use Rattle.nef_complex.specs.declared.parts.Cycle.{Cycle}
use Rattle.nef_complex.specs.declared.parts.Facet.{Facet}
use Rattle.nef_complex.specs.declared.parts.Parts.{Parts}
use Rattle.nef_complex.specs.declared.parts.Shell.{Shell}
use Rattle.nef_complex.specs.declared.parts.Side.{Side}

-- the table has a row for each vertex v, with count v numbers
pub record HasRows (C : Complex) (count : Vertex → ℕ) (rows : List (List ℕ)) : Type 0 where
  pub as_many : length rows ≡ length C.vertices
  pub row : (i : ℕ) (v : Vertex) (ns : List ℕ) → IsAt C.vertices i v → IsAt rows i ns → length ns ≡ count v

abbrev pub count_items : Vertex → ℕ
count_items v = length (items v.map)

abbrev pub count_sides : Vertex → ℕ
count_sides v = length (sides_of v.map)

-- in the table the item at the corner has this number
abbrev pub IsFacetOf : List (List ℕ) → Corner → ℕ → Type 0
IsFacetOf rows k n = IsInTable rows k.vertex k.item n

-- in the table the side has this number
abbrev pub IsVolumeOf : Complex → List (List ℕ) → VertexSide → ℕ → Type 0
IsVolumeOf C rows x n = (j : ℕ) × IsSideNumber C x j × IsInTable rows x.vertex j n

-- the order of sides by their vertices and then by their numbers
abbrev pub IsSideBelow : Complex → VertexSide → VertexSide → Type 0
IsSideBelow C x y = (i : ℕ) × (j : ℕ) × IsSideNumber C x i × IsSideNumber C y j × IsBelow (pos x.vertex ∷ pos i ∷ []) (pos y.vertex ∷ pos j ∷ [])

-- the facet numbers of all items, by first appearance
pub record FacetNumbers (C : Complex) (rows : List (List ℕ)) : Type 0 where
  pub shape : HasRows C count_items rows
  pub numbered : NumbersClasses (FacetLink C) IsCornerBelow 0 (IsFacetOf rows)

-- the volume numbers of all sides, by first appearance; the outside of the frame has 0
pub record VolumeNumbers (C : Complex) (rows : List (List ℕ)) : Type 0 where
  pub shape : HasRows C count_sides rows
  pub numbered : NumbersClasses (VolumeLink C) (IsSideBelow C) 1 (IsVolumeOf C rows)
  pub outside : (x : VertexSide) (n : ℕ) (l : Label) → IsVolumeOf C rows x n → HasSideLabel C x l → (n ≡ 0) ↔ (l ≡ Out)

abbrev pub pos_of : Corner → VertexSide
pos_of k = record { vertex = k.vertex; side = pos_item k.item }

abbrev pub neg_of : Corner → VertexSide
neg_of k = record { vertex = k.vertex; side = neg_item k.item }

-- the facet has the plane, the mark and the volumes on both sides that the corner has
pub record IsFacetAt (C : Complex) (p : Parts) (f : Facet) (k : Corner) (v : Vertex) (x : Item) : Type 0 where
  pub through : form_at (form_of f.plane) v.point ≡ pos 0
  pub normal : SameDirection (normal_of (form_of f.plane)) (item_normal x)
  pub mark : f.mark ≡ item_mark x
  pub pos : IsVolumeOf C p.volume_of (pos_of k) f.pos
  pub neg : IsVolumeOf C p.volume_of (neg_of k) f.neg

-- the corners of each cycle
abbrev pub cycle_corners : List Cycle → List (List Corner)
cycle_corners xs = map (λ (x : Cycle). map corner_of x.corners) xs

pub record IsFacet (C : Complex) (p : Parts) (n : ℕ) (f : Facet) : Type 0 where
  pub some : (k : Corner) × IsFacetOf p.facet_of k n
  pub corners : (k : Corner) (v : Vertex) (x : Item) → IsFacetOf p.facet_of k n → IsCorner C k v x → IsFacetAt C p f k v x
  pub cycles : Cycles C (λ k. IsFacetOf p.facet_of k n) (cycle_corners f.cycles)

-- volume n has the label l
pub record IsVolume (C : Complex) (p : Parts) (n : ℕ) (l : Label) : Type 0 where
  pub some : (x : VertexSide) × IsVolumeOf C p.volume_of x n
  pub labels : (x : VertexSide) (m : Label) → IsVolumeOf C p.volume_of x n → HasSideLabel C x m → l ≡ m

-- the sides of each shell
abbrev pub shell_sides : List Shell → List (List Side)
shell_sides hs = map (λ (h : Shell). h.sides) hs

-- the facets and volumes of the complex, with the numbers of all items and sides, and with the shells of each volume
pub record IsParts (C : Complex) (p : Parts) : Type 0 where
  pub facet_numbers : FacetNumbers C p.facet_of
  pub volume_numbers : VolumeNumbers C p.volume_of
  pub facets : (n : ℕ) (f : Facet) → IsAt p.facets n f → IsFacet C p n f
  pub all_facets : (k : Corner) (n : ℕ) → IsFacetOf p.facet_of k n → n < length p.facets
  pub volumes : (n : ℕ) (l : Label) → IsAt p.volumes n l → IsVolume C p n l
  pub all_volumes : (x : VertexSide) (n : ℕ) → IsVolumeOf C p.volume_of x n → n < length p.volumes
  pub sface_numbers : SfaceNumbers C p.sface_of
  pub as_many_shells : length p.shells ≡ length p.volumes
  pub shells : (n : ℕ) (hs : List Shell) → IsAt p.shells n hs → Shells C (λ x. IsVolumeOf C p.volume_of x n) (shell_sides hs)
