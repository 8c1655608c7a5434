use Rattle.nef_ops.proofs.Prelude.{◌+◌, get_or, arith, rules, sym, subst, is-at_get, Span, no_span}
use Rattle.nef_ops.proofs.FarLabels.{HoldsCarriers, carriers-more, carriers-same, skeleton-held}
use Rattle.nef_ops.proofs.regions.core_span.Goals.{then-not-misses_frame, else-not-misses_frame}
use Rattle.nef_ops.proofs.regions.core_span.Goals as goal

pub loop-number-preserved : goal.loop-number-preserved
loop-number-preserved c =
    let C = c.args.c.now in
    let spans = c.carrier_spans-spans.result.now in
    let n = c.loop-number.number in
    let h = c.at.result.now in
    let span : Span = get_or spans n no_span in
    let on = c.carrier_spans-spans.ensures.spans.each n h span c.at.ensures.element (is-at_get spans n no_span c.loop-number-test.true) in
    elim c.if-not-misses_frame.branch [
      | then-not-misses_frame w ↦ subst (HoldsCarriers C (n + 1)) (sym w.core-is)
          (carriers-more C n h c.loop-number.core span w.with_span-core.result c.at.ensures.element on w.with_span-core.ensures.wider w.with_span-core.ensures.other c.loop-number.invariant)
      | else-not-misses_frame w ↦ subst (HoldsCarriers C (n + 1)) (sym w.core-is)
          (carriers-same C n h c.loop-number.core c.at.ensures.element (λ (y, i, on). c.misses_frame.ensures.apart (search (rules, w.if-not-misses_frame.false)) y i on) c.loop-number.invariant)
    ]

pub returns : goal.returns
returns c =
    let f = c.loop-number-test.false in
    let many = c.carrier_spans-spans.ensures.spans.as_many in
    record { core = skeleton-held c.args.c.now c.loop-number.core (λ k h l a m. c.loop-number.invariant k h (omega (arith, l, f, many)) a m) }
