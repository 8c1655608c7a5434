use Rattle.std.specs.Prelude.{ℕ, List}
use Rattle.nef_complex.proofs.Prelude.{point_of, Vertex, AreHolders}
use Rattle.nef_index.proofs.Numbered.{AreValuesTo}
use Rattle.nef_complex.proofs.indexing.vertex_rows.Given as goal

abbrev pub invariant-loop-vertex : goal.invariant-loop-vertex
invariant-loop-vertex l = AreValuesTo (λ (v : Vertex) (ns : List ℕ). AreHolders l.carriers (point_of v.point) (point_of v.point) ns) l.vertices l.vertex-index l.rows
