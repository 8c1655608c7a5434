use Rattle.nef_plan.proofs.Prelude.{◌<◌, length, All}
use Rattle.nef_plan.proofs.hints.list_row.Given as goal

abbrev pub invariant-loop-before : goal.invariant-loop-before
invariant-loop-before l = record {
  node : l.node < length l.nodes;
  within : All (λ k. k < length l.nodes) l.row.items;
}

abbrev pub decreases-loop-before : goal.decreases-loop-before
decreases-loop-before l = l.node
