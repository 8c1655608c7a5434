use Rattle.nef_spair.proofs.Prelude.{sym, ◌∙◌, true_or_false, IsBareCircle}
use Rattle.nef_spair.proofs.Circles.{none-more, none-all}
use Rattle.nef_spair.proofs.making.bare_circle.Goals as goal
use Rattle.nef_space.proofs.Lists.{is-at_read}

pub returns-then-is_bare : goal.returns-then-is_bare
returns-then-is_bare c =
    let k = c.loop-circle.circle-index in
    record { circle = (k, is-at_read c.args.circles.now k c.circle-item.result c.loop-circle-test.true c.circle-item.is, c.is_bare.ensures.bare.0 c.if-is_bare.true) }

pub loop-circle-preserved : goal.loop-circle-preserved
loop-circle-preserved c =
    let k = c.loop-circle.circle-index in let circle = c.circle-item.result in
    none-more (IsBareCircle c.args.kept.now) c.args.circles.now k circle (is-at_read c.args.circles.now k circle c.loop-circle-test.true c.circle-item.is) c.loop-circle.invariant
    (λ b. true_or_false (sym (c.is_bare.ensures.bare.1 b) ∙ c.if-is_bare.false))

pub returns : goal.returns
returns c = record { circle = none-all (IsBareCircle c.args.kept.now) c.args.circles.now c.loop-circle.circle-index c.loop-circle-test.false c.loop-circle.invariant }
