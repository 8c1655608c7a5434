use Rattle.nef_complex.proofs.Prelude.{◌+◌, length, arith, refl, sym, subst, slice_get_read, point_of, Vertex, Span, IsInSpan}
use Rattle.nef_index.proofs.Numbered.{AreValuesTo, values-none, values-more}
use Rattle.nef_complex.proofs.indexing.vertex_spans.Goals as goal

abbrev HasVertex : Vertex → Span → Type 0
HasVertex v s = IsInSpan s (point_of v.point)

pub loop-vertex-init : goal.loop-vertex-init
loop-vertex-init c = subst (AreValuesTo HasVertex c.args.vertices.now 0) (sym c.in_ok-spans.ensures.items) (values-none HasVertex c.args.vertices.now)

pub loop-vertex-preserved : goal.loop-vertex-preserved
loop-vertex-preserved c =
    let vs = c.args.vertices.now in let n = c.loop-vertex.vertex-index in let v = c.vertex-item.result in
    subst (AreValuesTo HasVertex vs (n + 1)) (sym c.in_ok-push.ensures.items)
    (values-more HasVertex vs n c.loop-vertex.spans.items v c.of.result (slice_get_read vs (length vs) n v refl c.loop-vertex-test.true c.vertex-item.is) c.of.ensures.point c.loop-vertex.invariant)

pub returns : goal.returns
returns c = record {
  alone = record {
    as_many = let f = c.loop-vertex-test.false in let g = c.loop-vertex.auto in let e = c.loop-vertex.invariant.as_many in omega arith;
    each = c.loop-vertex.invariant.each;
  };
}
