use Rattle.nef_plan.proofs.Prelude.{◌<◌, length, IfSome}
use Rattle.nef_plan.proofs.hints.hint_differences.Given as goal

abbrev pub invariant-loop-node : goal.invariant-loop-node
invariant-loop-node l = IfSome l.before (λ k. k < length l.hints)
