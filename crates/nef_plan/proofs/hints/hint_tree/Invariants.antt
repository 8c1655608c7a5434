use Rattle.nef_plan.proofs.Prelude.{◌≤◌, ◌+◌}
use Rattle.nef_plan.proofs.hints.hint_tree.Given as goal

abbrev pub invariant-loop-node : goal.invariant-loop-node
invariant-loop-node l = record {
  parts : l.parts ≤ l.node-index + 1;
  before : l.before ≤ 1;
}
