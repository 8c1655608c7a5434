use Rattle.nef_star.proofs.Prelude.{arith, sym, ◌∙◌}
use Rattle.nef_star.proofs.Needed.{needed-more, true_or_false}
use Rattle.nef_star.proofs.rays.is_simple.Goals as goal

pub loop-k-init : goal.loop-k-init
loop-k-init c = record { needed = λ j k l. absurd (omega arith) }

pub loop-k-preserved : goal.loop-k-preserved
loop-k-preserved c =
    let n = c.is_needless.ensures.needless in
    record { needed = needed-more c.args.star.now c.loop-k.k c.loop-k.invariant.needed n.0 n.1 (λ z. true_or_false (sym (n.2.1 z) ∙ c.if-is_needless.false)) }
