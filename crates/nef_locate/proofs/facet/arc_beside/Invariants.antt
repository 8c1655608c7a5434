use Rattle.nef_locate.proofs.Prelude.{ℕ, ◌<◌, SameDirection, vector_of, IsAt, Arc, map_of, IsArcOnSide, vertex_of}
use Rattle.nef_locate.proofs.facet.arc_beside.Given as goal

abbrev pub invariant-loop-number : goal.invariant-loop-number
invariant-loop-number l = (k : ℕ) → k < l.number → (a : Arc) → IsAt (map_of l.vertex.map).arcs k a → SameDirection a.normal (vector_of l.normal) × IsArcOnSide (vertex_of l.vertex) l.svertex (vector_of l.normal) (vector_of l.d) a → ⊥
