use Rattle.nef_sched.proofs.Prelude.{AreFitting, HasWorked}
use Rattle.nef_sched.proofs.ahead.keep_outs.Given as goal

abbrev pub invariant-loop-number : goal.invariant-loop-number
invariant-loop-number g l = record {
  worked : HasWorked (g.T.Stage.size l.stage) (g.T.Stage.fits l.stage) l.fn.done.list.items l.done.list.items;
  outs : AreFitting (g.T.Stage.size l.stage) (g.T.Stage.fits l.stage) l.outs.items;
}

abbrev pub decreases-loop-number : goal.decreases-loop-number
decreases-loop-number g l = goal.left-loop-number g l
