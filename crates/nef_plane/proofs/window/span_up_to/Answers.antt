use Rattle.nef_plane.proofs.Prelude.{span-between}
use Rattle.nef_plane.proofs.window.span_up_to.Goals as goal

pub returns : goal.returns
returns c = record {
  between = λ p y q i m b. span-between c.args.from.now c.meet_span.result c.with_span.result p y q b i (c.meet_span.ensures.meet q m) c.with_span.ensures.wider c.with_span.ensures.other;
}
