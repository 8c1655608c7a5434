use Rattle.nef_sched.proofs.Prelude.{◌≡◌, ◌++◌, ◌+◌, ◌-◌, ◌≤◌, ◌^◌, [], true, length, vec_capacity, view, IsPassOf}
use Rattle.nef_sched.proofs.round.drained.Given as goal

abbrev pub invariant-loop-item : goal.invariant-loop-item
invariant-loop-item g l = record {
  of : IsPassOf l.queue l.pass;
  parts : (view l.pass).parts ≡ 2 ^ 32;
  knows : (view l.pass).known ≡ (view l.initial.pass).known;
  took : (view l.pass).taken ≡ (view l.initial.pass).taken ++ l.left.items;
  room : length (view l.pass).known ≤ vec_capacity l.left;
  ended : (view l.initial.pass).ended ≡ true → ((view l.pass).ended ≡ true) × (l.left.items ≡ []);
}

abbrev pub decreases-loop-item : goal.decreases-loop-item
decreases-loop-item g l = (length (view l.pass).known - length (view l.pass).taken) + (view l.pass).due
