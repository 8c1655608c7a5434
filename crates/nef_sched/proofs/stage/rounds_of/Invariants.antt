use Rattle.nef_sched.proofs.Prelude.{AreRounds}
use Rattle.nef_sched.proofs.stage.rounds_of.Given as goal

abbrev pub invariant-loop-number : goal.invariant-loop-number
invariant-loop-number g l = AreRounds l.number (g.T.Stage.first l.stage) (g.T.Stage.second l.stage) l.rounds.items
