use Rattle.nef_complex.proofs.Prelude.{point_of, Vertex, Span, IsInSpan}
use Rattle.nef_index.proofs.Numbered.{AreValuesTo}
use Rattle.nef_complex.proofs.indexing.vertex_spans.Given as goal

abbrev pub invariant-loop-vertex : goal.invariant-loop-vertex
invariant-loop-vertex l = AreValuesTo (λ (v : Vertex) (s : Span). IsInSpan s (point_of v.point)) l.vertices l.vertex-index l.spans.items
