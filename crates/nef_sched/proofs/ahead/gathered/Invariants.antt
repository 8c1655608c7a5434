use Rattle.nef_sched.proofs.Prelude.{◌≡◌, ◌+◌, ◌≤◌, All, vec_len, vec_capacity, IsPassInRound, total_parts, total_worked, AreFitting, HasWorked}
use Rattle.nef_sched.proofs.ahead.gathered.Given as goal

abbrev pub invariant-loop-pass : goal.invariant-loop-pass
invariant-loop-pass g l = record {
  made : HasWorked (g.T.Stage.size l.stage) (g.T.Stage.fits l.stage) l.fn.done.list.items l.done.list.items;
  worked : All (λ w. IsPassInRound l.round w.0) l.worked.items;
  outs : All (λ w. AreFitting (g.T.Stage.size l.stage) (g.T.Stage.fits l.stage) w.1.items) l.worked.items;
  of : All (λ p. IsPassInRound l.round p) l.passes.items;
  parts : total_parts l.passes.items + total_worked l.worked.items ≡ total_worked l.initial.worked.items;
  room : vec_len l.passes + vec_len l.worked ≤ vec_capacity l.passes;
}

abbrev pub decreases-loop-pass : goal.decreases-loop-pass
decreases-loop-pass g l = vec_len l.worked
