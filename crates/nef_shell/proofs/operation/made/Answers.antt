use Rattle.nef_shell.proofs.Prelude.{IfOk-weaker}
use Rattle.nef_shell.proofs.operation.made.Goals as goal

pub returns-in_ok-complex-in-Some : goal.returns-in_ok-complex-in-Some
returns-in_ok-complex-in-Some g c = record {
  new = IfOk-weaker c.kept.result _ _ (λ o new ss a b. new _ (c.in_ok-complex-in-Some.ensures.shows _ (rw c.in-Some.is at c.of_task.ensures.makes ss c.requires.task.0 c.requires.task.1 a b))) c.kept.ensures.new;
}
