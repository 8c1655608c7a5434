-- Sides of vertices, and the side above the skeleton point at which the ray down from a point ends.
use Rattle.std.specs.Prelude.{◌≡◌}
use Rattle.nef_space.specs.Prelude.{ℕ, SpacePoint, IsAhead, IsBetween, opposite, up, IsAt}
use Rattle.nef_space.specs.declared.label.Label.{Label}
use Rattle.law_geometry.specs.sphere.Maps.{Side, pos_item, HasSide, Sees}
use Rattle.law_geometry.specs.sphere.Sectors.{BoundsSector}
use Rattle.law_geometry.specs.complex.Complexes.{Vertex, Edge, Complex, Corner}
use Rattle.law_geometry.specs.complex.Skeleton.{Spot, at_vertex, on_edge, in_facet, IsSpot, IsSkeletonPoint, HasCorner}

-- a side of the sphere map of the vertex with this number
pub record VertexSide : Type 0 where
  pub vertex : ℕ
  pub side : Side

-- the side x is a side of a vertex of C, and l is its label
abbrev pub HasSideLabel : Complex → VertexSide → Label → Type 0
HasSideLabel C x l = (v : Vertex) × IsAt C.vertices x.vertex v × HasSide v.map x.side l

-- side x lies above y: at a vertex it sees up, on an edge it bounds the sector of up, in a facet it tops the corner
abbrev pub IsAbove : Complex → SpacePoint → Spot → VertexSide → Type 0
IsAbove C y (at_vertex k) x = (v : Vertex) × IsAt C.vertices k v × (x.vertex ≡ k) × Sees v.map x.side up
IsAbove C y (on_edge k) x = (e : Edge) × (v : Vertex) × IsAt C.edges k e × IsAt C.vertices e.low v × (x.vertex ≡ e.low) × BoundsSector v.map e.low_svertex up x.side
IsAbove C y (in_facet j) x = (k : Corner) × HasCorner C y k × (x.vertex ≡ k.vertex) × (x.side ≡ pos_item k.item)

-- the ray down from p first meets the skeleton at a point that the side x lies above
pub record RayDown (C : Complex) (p : SpacePoint) (x : VertexSide) : Type 0 where
  pub place : SpacePoint
  pub spot : Spot
  pub ahead : IsAhead p (opposite up) place
  pub is_spot : IsSpot C spot place
  pub first : (q : SpacePoint) → IsBetween p q place → IsSkeletonPoint C q → ⊥
  pub above : IsAbove C place spot x
  pub label : Label
  pub has : HasSideLabel C x label

-- the point p lies off the skeleton, and the ray down from p ends below the side x
abbrev pub HasVolumeSide : Complex → SpacePoint → VertexSide → Type 0
HasVolumeSide C p x = (IsSkeletonPoint C p → ⊥) × RayDown C p x
