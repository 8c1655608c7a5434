use Rattle.nef_complex.proofs.Prelude.{subst, IndexedLists, AreCarrierSpans}
use Rattle.nef_complex.proofs.Pointed.{spans-on}
use Rattle.nef_complex.proofs.complex.carrier_spans.Goals as goal

pub returns : goal.returns
returns c = record {
  spans = let r = c.carrier_spans.result.now in spans-on c.args.c.now.carriers c.args.c.now.vertices r (subst (λ (x : IndexedLists). AreCarrierSpans x.carriers x.points r) c.requires.indexed.is c.carrier_spans.ensures.spans);
}
