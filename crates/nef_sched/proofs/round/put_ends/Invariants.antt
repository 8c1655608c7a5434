use Rattle.nef_sched.proofs.Prelude.{◌≡◌, view, IsPassOf, whole}
use Rattle.nef_sched.proofs.round.put_ends.Given as goal

abbrev pub invariant-loop : goal.invariant-loop
invariant-loop g l = IsPassOf l.queue l.pass × (view l.pass ≡ whole (view l.initial.pass).known l.counter)
