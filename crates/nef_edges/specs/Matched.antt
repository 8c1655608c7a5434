-- Matched edges: guesses of edges, each of which is checked alone.
use Rattle.std.specs.Prelude.{◌≡◌, ◌<◌, ◌+◌, ◌-◌, ◌^◌, ℕ, min, List, get_or, Bool, true}
use Rattle.nef_space.specs.Prelude.{toward, cross, IsZero, IsNormal, IsOpposite}
use Rattle.law_geometry.specs.sphere.Prelude.{IsAt, MapVertex, InOrder}
use Rattle.law_geometry.specs.complex.Complexes.{Vertex, Edge, IsEdgeBelow, Edges}
use Rattle.nef_geo.specs.Shapes.{point_of, vector_of}
use Rattle.nef_smap.specs.declared.map.SVertex.{SVertex}
use Rattle.nef_complex.specs.declared.complex.Vertex.{Vertex as ProgramVertex}
use Rattle.nef_index.specs.declared.skeleton.Edge.{Edge as ProgramEdge}
use Rattle.nef_edges.specs.Pairs.{AreJoined}

-- the edge joins a svertex that leads to later points with one of a later vertex that leads back along the same line
pub record IsMatched (vs : List Vertex) (e : Edge) : Type 0 where
  pub low_vertex : Vertex
  pub high_vertex : Vertex
  pub low_end : MapVertex
  pub high_end : MapVertex
  pub is_low : IsAt vs e.low low_vertex
  pub is_high : IsAt vs e.high high_vertex
  pub leaves : IsAt low_vertex.map.svertices e.low_svertex low_end
  pub arrives : IsAt high_vertex.map.svertices e.high_svertex high_end
  pub upward : e.low < e.high
  pub leading : IsNormal low_end.dir
  pub on_line : IsZero (cross (toward low_vertex.point high_vertex.point) low_end.dir)
  pub back : IsOpposite low_end.dir high_end.dir
  pub mark : e.mark ≡ low_end.mark

-- svertex s of vertex v and svertex t of vertex w lead to each other along one line, s to later points
pub record AreMatchedEnds (v : ProgramVertex) (s : SVertex) (w : ProgramVertex) (t : SVertex) : Type 0 where
  pub leading : IsNormal (vector_of s.dir)
  pub on_line : IsZero (cross (toward (point_of v.point) (point_of w.point)) (vector_of s.dir))
  pub back : IsOpposite (vector_of s.dir) (vector_of t.dir)

-- es has one matched edge from each svertex that leads to later points, in order, and no two edges to one svertex
pub record AreMatched (vs : List Vertex) (es : List Edge) : Type 0 where
  pub each : (k : ℕ) (e : Edge) → IsAt es k e → IsMatched vs e
  pub all : (i a : ℕ) (v : Vertex) (u : MapVertex) → IsAt vs i v → IsAt v.map.svertices a u → IsNormal u.dir → (k : ℕ) × (e : Edge) × IsAt es k e × (e.low ≡ i) × (e.low_svertex ≡ a)
  pub once : (k l : ℕ) (e f : Edge) → IsAt es k e → IsAt es l f → e.high ≡ f.high → e.high_svertex ≡ f.high_svertex → k ≡ l
  pub ordered : InOrder IsEdgeBelow es

-- matched edges are the edges of the vertices: nothing lies between their ends
abbrev pub MatchedAreEdges : Type 0
MatchedAreEdges = (vs : List Vertex) (es : List Edge) → AreJoined vs → AreMatched vs es → Edges vs es

-- the edges of the vertices are matched, so right guesses pass
abbrev pub EdgesAreMatched : Type 0
EdgesAreMatched = (vs : List Vertex) (es : List Edge) → AreJoined vs → Edges vs es → AreMatched vs es

-- ---- edges that are checked one by one
-- no two of the first n edges arrive at one svertex
abbrev pub ArriveApart : List ProgramEdge → ℕ → Type 0
ArriveApart es n = (k l : ℕ) (e f : ProgramEdge) → IsAt es k e → IsAt es l f → k < n → l < n → e.high ≡ f.high → e.high_svertex ≡ f.high_svertex → k ≡ l

-- the number of the mark of svertex t of vertex j, where `starts` has the number of each vertex's first mark
abbrev pub slot_of : List ℕ → ℕ → ℕ → ℕ
slot_of starts j t = min (get_or starts j 0 + t) (2 ^ 64 - 1)

-- the marks of the svertices at which the first n edges arrive are set
abbrev pub AreMarkedArrivals : List ℕ → List Bool → List ProgramEdge → ℕ → Type 0
AreMarkedArrivals starts marks es n = (k : ℕ) (e : ProgramEdge) → IsAt es k e → k < n → IsAt marks (slot_of starts e.high e.high_svertex) true
