use Rattle.nef_complex.proofs.Prelude.{subst, IndexedLists, ArePointSpans}
use Rattle.nef_complex.proofs.Pointed.{spans-alone}
use Rattle.nef_complex.proofs.complex.point_spans.Goals as goal

pub returns : goal.returns
returns c = record { alone = spans-alone c.args.c.now.vertices c.point_spans.result.now (subst (λ (x : IndexedLists). ArePointSpans x.points c.point_spans.result.now) c.requires.indexed.is c.point_spans.ensures.spans) }
