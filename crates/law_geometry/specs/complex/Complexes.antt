-- Complexes: vertices with their sphere maps, edges, and the carriers, which are the planes that the set was made of.
use Rattle.std.specs.Prelude.{◌≡◌, ◌<◌, ◌∷◌}
use Rattle.nef_space.specs.Prelude.{ℕ, pos, List, [], IsBelow, SpacePoint, Form, IsAhead, IsBetween, IsOpposite}
use Rattle.nef_space.specs.declared.label.Label.{Label}
use Rattle.law_geometry.specs.sphere.Prelude.{InOrder, IsAt, MapVertex, Item, Map, items}

pub record Vertex : Type 0 where
  pub point : SpacePoint
  pub map : Map

-- an edge: its lower vertex with a svertex there, its higher vertex with a svertex there, and its mark
pub record Edge : Type 0 where
  pub low : ℕ
  pub low_svertex : ℕ
  pub high : ℕ
  pub high_svertex : ℕ
  pub mark : Label

pub record Complex : Type 0 where
  pub carriers : List Form
  pub vertices : List Vertex
  pub edges : List Edge

-- a corner: a vertex and an item of this vertex's map
pub record Corner : Type 0 where
  pub vertex : ℕ
  pub item : ℕ

-- v is the lower end of the edge and w the higher end
pub record HasEnds (C : Complex) (e : Edge) (v w : Vertex) : Type 0 where
  pub low : IsAt C.vertices e.low v
  pub high : IsAt C.vertices e.high w

-- the corner k is the item x of the vertex v
pub record IsCorner (C : Complex) (k : Corner) (v : Vertex) (x : Item) : Type 0 where
  pub vertex : IsAt C.vertices k.vertex v
  pub item : IsAt (items v.map) k.item x

-- the edge goes from its lower vertex, along a svertex of this vertex, to the first vertex on this ray
pub record IsEdge (vs : List Vertex) (e : Edge) : Type 0 where
  pub low_vertex : Vertex
  pub high_vertex : Vertex
  pub low_end : MapVertex
  pub high_end : MapVertex
  pub is_low : IsAt vs e.low low_vertex
  pub is_high : IsAt vs e.high high_vertex
  pub leaves : IsAt low_vertex.map.svertices e.low_svertex low_end
  pub arrives : IsAt high_vertex.map.svertices e.high_svertex high_end
  pub upward : e.low < e.high
  pub ahead : IsAhead low_vertex.point low_end.dir high_vertex.point
  pub first : (k : ℕ) (v : Vertex) → IsAt vs k v → IsBetween low_vertex.point v.point high_vertex.point → ⊥
  pub back : IsOpposite low_end.dir high_end.dir
  pub mark : e.mark ≡ low_end.mark

abbrev pub IsEdgeBelow : Edge → Edge → Type 0
IsEdgeBelow e f = IsBelow (pos e.low ∷ pos e.low_svertex ∷ []) (pos f.low ∷ pos f.low_svertex ∷ [])

-- es lists all edges of the vertices vs, in order
pub record Edges (vs : List Vertex) (es : List Edge) : Type 0 where
  pub edges : (k : ℕ) (e : Edge) → IsAt es k e → IsEdge vs e
  pub complete : (e : Edge) → IsEdge vs e → (k : ℕ) × IsAt es k e
  pub ordered : InOrder IsEdgeBelow es
