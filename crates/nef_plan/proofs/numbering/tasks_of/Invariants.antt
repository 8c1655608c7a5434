use Rattle.nef_plan.proofs.Prelude.{◌≡◌, length, take, put_values, tasks_over}
use Rattle.nef_plan.proofs.numbering.tasks_of.Given as goal

abbrev pub invariant-loop-now : goal.invariant-loop-now
invariant-loop-now l = record {
  table : l.values ≡ put_values l.initial.values 0 (take l.now l.drafts);
  as_many : length l.values ≡ length l.initial.values;
  tasks : l.tasks.items ≡ tasks_over l.initial.values 0 (take l.now l.drafts);
}
