use Rattle.nef_index.proofs.Prelude.{sym, subst, AreCarrierSpans}
use Rattle.nef_index.proofs.Grouped.{carrier-clusters}
use Rattle.nef_index.proofs.Spanning.{within-spans, rows-within, carrier-spans}
use Rattle.nef_index.proofs.making.carriers_spanned.Given as given
use Rattle.nef_index.proofs.making.carriers_spanned.Goals as goal

pub spans_of-requires : goal.spans_of-requires
spans_of-requires g c =
    record { within = λ k row a. within-spans g.of.points c.args.points.now row c.requires.1 (rows-within g.of.carriers g.of.points c.args.on_carrier.now c.requires.0 k row a) }

spans-on : (g : given.Over) (c : goal.In_ok-clusters g) → AreCarrierSpans g.of.carriers g.of.points c.in_ok-spans.spans
spans-on g c = carrier-spans g.of.carriers g.of.points c.args.on_carrier.now c.requires.0 c.args.points.now c.in_ok-spans.spans c.requires.1 c.in_ok-spans.ensures.as_many c.in_ok-spans.ensures.spanned

pub returns-clause-spans : goal.returns-clause-spans
returns-clause-spans g c = spans-on g c

pub returns-clause-clusters : goal.returns-clause-clusters
returns-clause-clusters g c =
    let hs = g.of.carriers in let ps = g.of.points in let read = c.as_slice.result.now in
    carrier-clusters hs ps read c.in_ok-clusters.clusters (subst (AreCarrierSpans hs ps) (sym c.as_slice.ensures.all) (spans-on g c)) c.in_ok-clusters.ensures.wide c.in_ok-clusters.ensures.groups c.in_ok-clusters.ensures.all
