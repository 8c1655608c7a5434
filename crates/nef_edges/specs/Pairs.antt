-- Vertices whose svertices are ends of edges, and the edges from some of the svertices.
use Rattle.std.specs.Prelude.{◌≡◌}
use Rattle.nef_complex.specs.Prelude.{ℕ, List, map, IsPointBelow, opposite, IsNormal, IsAt, MapVertex, Shaped, vertex_of, edge_of}
use Rattle.law_geometry.specs.sphere.Least.{InOrder}
use Rattle.law_geometry.specs.complex.Complexes.{Vertex as PlainVertex, Edge as PlainEdge, IsEdge, IsEdgeBelow}
use Rattle.nef_complex.specs.declared.complex.Vertex.{Vertex}
use Rattle.nef_index.specs.declared.skeleton.Edge.{Edge}

-- the edge leaves svertex a of vertex i
abbrev pub IsFrom : List PlainVertex → ℕ → ℕ → PlainEdge → Type 0
IsFrom vs i a e = IsEdge vs e × (e.low ≡ i) × (e.low_svertex ≡ a)

-- the edge arrives at svertex b of vertex j
abbrev pub IsTo : List PlainVertex → ℕ → ℕ → PlainEdge → Type 0
IsTo vs j b e = IsEdge vs e × (e.high ≡ j) × (e.high_svertex ≡ b)

-- sorted vertices whose svertices that lead to later points are lower ends of edges, and whose others are upper ends
pub record AreJoined (vs : List PlainVertex) : Type 0 where
  pub ordered : InOrder (λ u v. IsPointBelow u.point v.point) vs
  pub shaped : (k : ℕ) (v : PlainVertex) → IsAt vs k v → Shaped v.map
  pub joined : (i a : ℕ) (v : PlainVertex) (u : MapVertex) → IsAt vs i v → IsAt v.map.svertices a u → IsNormal u.dir → (e : PlainEdge) × IsFrom vs i a e
  pub arrived : (j b : ℕ) (w : PlainVertex) (t : MapVertex) → IsAt vs j w → IsAt w.map.svertices b t → IsNormal (opposite t.dir) → (e : PlainEdge) × IsTo vs j b e

-- es has the edges from the svertices that count, in order
pub record AreEdges (vs : List Vertex) (Counts : ℕ → ℕ → Type 0) (es : List Edge) : Type 0 where
  pub edges : (k : ℕ) (e : Edge) → IsAt es k e → IsEdge (map vertex_of vs) (edge_of e) × Counts e.low e.low_svertex
  pub complete : (e : PlainEdge) → IsEdge (map vertex_of vs) e → Counts e.low e.low_svertex → (k : ℕ) × (f : Edge) × IsAt es k f × (edge_of f ≡ e)
  pub ordered : InOrder (λ e f. IsEdgeBelow (edge_of e) (edge_of f)) es
