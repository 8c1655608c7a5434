use Rattle.nef_plan.proofs.Prelude.{◌≡◌, ℕ, Some, length, take, slice_get, Step, IsLastAt, tasks_in}
use Rattle.nef_plan.proofs.numbering.ended.Given as goal

abbrev pub invariant-loop-now : goal.invariant-loop-now
invariant-loop-now l = record {
  tasks : tasks_in l.steps.items ≡ take l.now l.tasks;
  count : length l.steps.items ≡ l.now;
  last : (i : ℕ) (s : Step) → slice_get l.steps.items i ≡ Some s → IsLastAt l.uses i s;
}
