use Rattle.nef_star.proofs.Prelude.{arith, sym, ◌∙◌, vector_of}
use Rattle.nef_star.proofs.Needed.{true_or_false}
use Rattle.nef_star.proofs.LastAt.{none-more, first-under}
use Rattle.nef_star.proofs.rays.place_of.Goals as goal

pub loop-k-init : goal.loop-k-init
loop-k-init c i s l u = absurd (omega (arith, s, l))

pub loop-k-preserved : goal.loop-k-preserved
loop-k-preserved c = none-more c.args.star.now (vector_of c.args.left.now) c.loop-k.k c.loop-k.invariant (λ u. true_or_false (sym (c.is_under.ensures.under.1 u) ∙ c.if-is_under.false))

pub returns-clause-under : goal.returns-clause-under
returns-clause-under c = first-under c.args.star.now c.requires.turned c.requires.some (vector_of c.args.left.now) c.requires.circle c.loop-k.k (omega (arith, c.loop-k-test.false, c.len-k-end.ensures)) c.loop-k.invariant
