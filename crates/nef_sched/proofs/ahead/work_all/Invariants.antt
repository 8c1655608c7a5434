use Rattle.nef_sched.proofs.Prelude.{◌≡◌, IsPassInRound, parts, known, AreFitting}
use Rattle.nef_sched.proofs.ahead.work_all.Given as goal

abbrev pub invariant-loop : goal.invariant-loop
invariant-loop g l = record {
  of : IsPassInRound l.round l.pass;
  parts : parts l.pass ≡ parts l.initial.pass;
  knows : known l.pass ≡ known l.initial.pass;
  outs : AreFitting (g.T.Stage.size l.stage) (g.T.Stage.fits l.stage) l.outs.items;
}
