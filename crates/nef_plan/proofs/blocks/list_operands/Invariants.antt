use Rattle.nef_plan.proofs.Prelude.{◌<◌, length, All}
use Rattle.nef_plan.proofs.blocks.list_operands.Given as goal

abbrev pub invariant-loop-place : goal.invariant-loop-place
invariant-loop-place l = All (λ k. k < length l.nodes) l.listed.items
