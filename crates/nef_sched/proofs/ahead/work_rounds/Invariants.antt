use Rattle.nef_sched.proofs.Prelude.{IsPlan, AreSound}
use Rattle.nef_sched.proofs.Planning.{EarlierAreKept}
use Rattle.nef_sched.proofs.ahead.work_rounds.Given as goal

abbrev pub invariant-loop-round : goal.invariant-loop-round
invariant-loop-round g l = record {
  sound : AreSound (g.T.Stage.size l.stage) (g.T.Stage.fits l.stage) l.done.list.items;
  there : (p : IsPlan (g.T.Stage.size l.stage) (g.T.Stage.first l.stage) (g.T.Stage.second l.stage) l.plan) → EarlierAreKept (g.T.Stage.size l.stage) p.round_of l.round l.done.list.items;
}
