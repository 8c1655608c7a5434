use Rattle.nef_smap.proofs.Prelude.{ℕ, ◌<◌, SameDirection, vector_of, IsAt, MapVertex, map_of}
use Rattle.nef_smap.proofs.locate.svertex_at.Given as goal

abbrev pub invariant-loop-number : goal.invariant-loop-number
invariant-loop-number l = (k : ℕ) → k < l.number → (v : MapVertex) → IsAt (map_of l.map).svertices k v → SameDirection v.dir (vector_of l.d) → ⊥
