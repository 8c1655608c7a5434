use Rattle.nef_complex.proofs.Prelude.{ℕ, ◌<◌, IsAt, vector_of, map_of, Vertex, HasNormal}
use Rattle.nef_complex.proofs.indexing.has_item.Given as goal

abbrev pub invariant-loop-number : goal.invariant-loop-number
invariant-loop-number l = (i k : ℕ) (v : Vertex) → i < l.number-index → IsAt l.on i k → IsAt l.vertices k v → HasNormal (map_of v.map) (vector_of l.normal) → ⊥
