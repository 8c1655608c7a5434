-- Edges laid out from all svertices that lead on, some of which are loose.
use Rattle.std.specs.Prelude.{◌≡◌, ◌≤◌, ◌⊎◌, ℕ, List, map, set}
use Rattle.nef_complex.specs.Prelude.{IsNormal, IsAt, vector_of, vertex_of, edge_of}
use Rattle.law_geometry.specs.sphere.Least.{InOrder}
use Rattle.law_geometry.specs.complex.Complexes.{IsEdgeBelow}
use Rattle.nef_smap.specs.declared.map.SVertex.{SVertex}
use Rattle.nef_complex.specs.declared.complex.Vertex.{Vertex}
use Rattle.nef_index.specs.declared.skeleton.Edge.{Edge}
use Rattle.nef_edges.specs.declared.ends.End.{End}
use Rattle.nef_edges.specs.Matched.{IsMatched}

-- the end is a svertex of one of the vertices, with the numbers of both
pub record IsEnd (vs : List Vertex) (x : End) : Type 0 where
  pub vertex : IsAt vs x.vertex_number x.vertex.now
  pub svertex : IsAt x.vertex.now.map.svertices x.svertex_number x.svertex.now

-- the edge from the end x to svertex b of vertex j
abbrev pub edge_between : End → ℕ → ℕ → Edge
edge_between x j b = record { low = x.vertex_number; low_svertex = x.svertex_number; high = j; high_svertex = b; mark = x.svertex.now.mark }

-- if x is an end, the edge from x to svertex b of vertex j is matched
abbrev pub LeadsTo : List Vertex → End → ℕ → ℕ → Type 0
LeadsTo vs x j b = IsEnd vs x → IsMatched (map vertex_of vs) (edge_of (edge_between x j b))

-- es has an edge from each svertex that counts and leads to later points, in order: matched, or loose from `from` on
pub record AreLaid (vs : List Vertex) (Counts : ℕ → ℕ → Type 0) (es : List Edge) (loose : List ℕ) (from : ℕ) : Type 0 where
  pub each : (k : ℕ) (e : Edge) → IsAt es k e → Counts e.low e.low_svertex
  pub matched : (k : ℕ) (e : Edge) → IsAt es k e → IsMatched (map vertex_of vs) (edge_of e) ⊎ ((j : ℕ) × (from ≤ j) × IsAt loose j k)
  pub all : (i a : ℕ) (v : Vertex) (s : SVertex) → IsAt vs i v → IsAt v.map.svertices a s → IsNormal (vector_of s.dir) → Counts i a → (k : ℕ) × (e : Edge) × IsAt es k e × (e.low ≡ i) × (e.low_svertex ≡ a)
  pub ordered : InOrder (λ e f. IsEdgeBelow (edge_of e) (edge_of f)) es

-- all numbers of ns are among ms
abbrev pub IsPart : List ℕ → List ℕ → Type 0
IsPart ns ms = (j k : ℕ) → IsAt ns j k → (l : ℕ) × IsAt ms l k

-- the edge with this number is replaced by a matched edge from the same svertex
pub record IsJoinedAt (vs : List Vertex) (n : ℕ) (es fs : List Edge) : Type 0 where
  pub old : Edge
  pub new : Edge
  pub is_old : IsAt es n old
  pub changed : fs ≡ set es n new
  pub matched : IsMatched (map vertex_of vs) (edge_of new)
  pub low : new.low ≡ old.low
  pub low_svertex : new.low_svertex ≡ old.low_svertex
