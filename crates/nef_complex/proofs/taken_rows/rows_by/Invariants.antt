use Rattle.std.specs.Prelude.{ℕ, List, IfSome}
use Rattle.nef_complex.proofs.Prelude.{point_of, Vertex, AreHolders, IsSourceAmong}
use Rattle.nef_index.proofs.Numbered.{AreValuesTo}
use Rattle.nef_complex.proofs.taken_rows.rows_by.Given as goal

abbrev pub invariant-loop-vertex : goal.invariant-loop-vertex
invariant-loop-vertex l = record {
  first : IfSome l.first.source (IsSourceAmong l.carriers);
  second : IfSome l.second.source (IsSourceAmong l.carriers);
  rows : AreValuesTo (λ (v : Vertex) (ns : List ℕ). AreHolders l.carriers (point_of v.point) (point_of v.point) ns) l.vertices l.vertex-index l.rows;
}
