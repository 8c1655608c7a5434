-- Ends of edges: the ends at which edges arrive, their order, and the next end in this order.
use Rattle.std.specs.Prelude.{◌≡◌, ◌<◌, ◌⊎◌}
use Rattle.nef_complex.specs.Prelude.{ℕ, List, false, opposite, IsNormal, vector_of, IsAt}
use Rattle.std.specs.declared.cmp.Ordering.TheVariants.{Greater}
use Rattle.std.specs.Ordering.{is_lt}
use Rattle.nef_smap.specs.declared.map.SVertex.{SVertex}
use Rattle.nef_complex.specs.declared.complex.Vertex.{Vertex}
use Rattle.nef_edges.specs.declared.edge_end.EdgeEnd.{EdgeEnd}
use Rattle.nef_edges.specs.Order.{end_order}

-- svertex m of vertex j is one of a vertex before number i, or one of the first n of vertex i
abbrev pub IsEarlierSvertex : ℕ → ℕ → ℕ → ℕ → Type 0
IsEarlierSvertex i n j m = (j < i) ⊎ ((j ≡ i) × (m < n))

-- the end is a svertex along which an edge arrives from an earlier vertex
pub record IsArriving (vs : List Vertex) (h : EdgeEnd) : Type 0 where
  pub vertex : Vertex
  pub svertex : SVertex
  pub has_vertex : IsAt vs h.vertex vertex
  pub has_svertex : IsAt vertex.map.svertices h.svertex svertex
  pub point : h.point ≡ vertex.point
  pub back : vector_of h.dir ≡ opposite (vector_of svertex.dir)

-- hs has exactly the ends at which edges arrive, among the svertices that count
pub record AreArriving (vs : List Vertex) (Counts : ℕ → ℕ → Type 0) (hs : List EdgeEnd) : Type 0 where
  pub each : (k : ℕ) (h : EdgeEnd) → IsAt hs k h → IsArriving vs h
  pub all : (j m : ℕ) (v : Vertex) (s : SVertex) → IsAt vs j v → IsAt v.map.svertices m s → IsNormal (opposite (vector_of s.dir)) → Counts j m → (k : ℕ) × (h : EdgeEnd) × IsAt hs k h × (h.vertex ≡ j) × (h.svertex ≡ m)

-- h stands after the end f
abbrev pub IsAfter : EdgeEnd → EdgeEnd → Type 0
IsAfter f h = end_order h f ≡ Greater

-- no end of hs before number p stands after f
abbrev pub NoneAfter : List EdgeEnd → EdgeEnd → ℕ → Type 0
NoneAfter hs f p = (k : ℕ) (h : EdgeEnd) → IsAt hs k h → k < p → IsAfter f h → ⊥

-- h is the first of the ends of hs after f: no end after f is less than h
pub record IsNextEnd (hs : List EdgeEnd) (f h : EdgeEnd) : Type 0 where
  pub listed : (k : ℕ) × IsAt hs k h
  pub after : IsAfter f h
  pub first : (k : ℕ) (g : EdgeEnd) → IsAt hs k g → IsAfter f g → is_lt (end_order g h) ≡ false
