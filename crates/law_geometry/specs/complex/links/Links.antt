-- The links of items, whose classes are the facets, and the links of sides, whose classes are the volumes.
use Rattle.std.specs.Prelude.{◌≡◌, ◌⊎◌}
use Rattle.nef_space.specs.Prelude.{ℕ, SameDirection, opposite, plane_dir, up, IsAt}
use Rattle.nef_space.specs.declared.label.Label.{Label}
use Rattle.nef_space.specs.declared.label.Label.TheVariants.{Out}
use Rattle.law_geometry.specs.sphere.Maps.{Arc, Item, item_normal, OnItem, Side, around_svertex, pos_item, neg_item, HasSide, Sees, InOneSface}
use Rattle.law_geometry.specs.complex.Prelude.{Vertex, Edge, Complex, Corner, HasEnds, IsCorner, VertexSide, HasSideLabel, RayDown}
use Rattle.law_geometry.specs.complex.Skeleton.{item_plane, RayNames}

-- ---- items
-- arc i of the edge's lower end and arc j of its higher end have one normal, one begins and the other ends at the edge
pub record AreAlong (C : Complex) (e : Edge) (i j : ℕ) : Type 0 where
  pub low_vertex : Vertex
  pub high_vertex : Vertex
  pub ends : HasEnds C e low_vertex high_vertex
  pub low_arc : Arc
  pub high_arc : Arc
  pub is_low : IsAt low_vertex.map.arcs i low_arc
  pub is_high : IsAt high_vertex.map.arcs j high_arc
  pub one_normal : SameDirection low_arc.normal high_arc.normal
  pub one_way : ((low_arc.source ≡ e.low_svertex) × (high_arc.target ≡ e.high_svertex)) ⊎ ((low_arc.target ≡ e.low_svertex) × (high_arc.source ≡ e.high_svertex))

-- the link along an edge: from an arc of the edge's lower end to an arc of its higher end
pub record LinkAlong (C : Complex) (j k : Corner) : Type 0 where
  pub number : ℕ
  pub edge : Edge
  pub is_edge : IsAt C.edges number edge
  pub from_low : j.vertex ≡ edge.low
  pub to_high : k.vertex ≡ edge.high
  pub along : AreAlong C edge j.item k.item

-- the link across a facet: from an item that holds the way inward to the corner that its vertex's ray inward names
pub record LinkAcross (C : Complex) (j k : Corner) : Type 0 where
  pub vertex : Vertex
  pub item : Item
  pub corner : IsCorner C j vertex item
  pub inward : OnItem vertex.map item (opposite (plane_dir (item_normal item)))
  pub named : RayNames C (item_plane vertex item) vertex.point (opposite (plane_dir (item_normal item))) k

abbrev pub FacetLink : Complex → Corner → Corner → Type 0
FacetLink C j k = LinkAlong C j k ⊎ LinkAcross C j k

-- ---- sides
-- x is the side o of vertex i, and the vertex has this side
abbrev pub IsSideOf : Complex → VertexSide → ℕ → Side → Type 0
IsSideOf C x i o = (l : Label) × (x.vertex ≡ i) × (x.side ≡ o) × HasSideLabel C x l

-- the link in one sface: two sides of a vertex, between which a chain of sides with common directions leads
pub record LinkInSface (C : Complex) (x y : VertexSide) : Type 0 where
  pub vertex : Vertex
  pub is_vertex : IsAt C.vertices x.vertex vertex
  pub one_vertex : y.vertex ≡ x.vertex
  pub one : Label
  pub other : Label
  pub has : HasSide vertex.map x.side one
  pub has_other : HasSide vertex.map y.side other
  pub one_sface : InOneSface vertex.map x.side y.side

-- o of the lower and p of the higher end are one side along the edge: on one side of arcs along it, or round both ends
pub data AreSidesAlong (C : Complex) (e : Edge) (o p : Side) : Type 0 where
  pos_arcs : (i j : ℕ) → AreAlong C e i j → o ≡ pos_item i → p ≡ pos_item j → AreSidesAlong C e o p
  neg_arcs : (i j : ℕ) → AreAlong C e i j → o ≡ neg_item i → p ≡ neg_item j → AreSidesAlong C e o p
  around_ends : o ≡ around_svertex e.low_svertex → p ≡ around_svertex e.high_svertex → AreSidesAlong C e o p

-- the link along an edge: a side of the edge's lower end and the side of its higher end that goes on along the edge
pub record LinkAlongEdge (C : Complex) (x y : VertexSide) : Type 0 where
  pub number : ℕ
  pub edge : Edge
  pub is_edge : IsAt C.edges number edge
  pub low_side : Side
  pub high_side : Side
  pub is_low : IsSideOf C x edge.low low_side
  pub is_high : IsSideOf C y edge.high high_side
  pub along : AreSidesAlong C edge low_side high_side

-- the link across a facet: the upper sides, or the lower sides, of two items that are linked across their facet
pub record LinkAcrossFacet (C : Complex) (x y : VertexSide) : Type 0 where
  pub here : Corner
  pub there : Corner
  pub across : LinkAcross C here there
  pub sides : (IsSideOf C x here.vertex (pos_item here.item) × IsSideOf C y there.vertex (pos_item there.item))
      ⊎ (IsSideOf C x here.vertex (neg_item here.item) × IsSideOf C y there.vertex (neg_item there.item))

-- the link down: from a side that sees down and isn't outside to the side above the end of the vertex's ray down
pub record LinkDown (C : Complex) (x y : VertexSide) : Type 0 where
  pub vertex : Vertex
  pub is_vertex : IsAt C.vertices x.vertex vertex
  pub label : Label
  pub has : HasSide vertex.map x.side label
  pub not_out : label ≡ Out → ⊥
  pub sees : Sees vertex.map x.side (opposite up)
  pub down : RayDown C vertex.point y

-- the link of the outside: two sides with the label Out
abbrev pub LinkOutside : Complex → VertexSide → VertexSide → Type 0
LinkOutside C x y = HasSideLabel C x Out × HasSideLabel C y Out

abbrev pub VolumeLink : Complex → VertexSide → VertexSide → Type 0
VolumeLink C x y = LinkInSface C x y ⊎ LinkAlongEdge C x y ⊎ LinkAcrossFacet C x y ⊎ LinkDown C x y ⊎ LinkOutside C x y
