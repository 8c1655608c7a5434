use Rattle.nef_sched.proofs.Prelude.{◌≡◌, take, view, IsPassOf, whole}
use Rattle.nef_sched.proofs.round.put_all.Given as goal

abbrev pub invariant-loop-number : goal.invariant-loop-number
invariant-loop-number g l = IsPassOf l.queue l.pass × (view l.pass ≡ whole (take l.number-index l.numbers) 0)
