use Rattle.nef_plan.proofs.Prelude.{◌≡◌, vec_len, length}
use Rattle.nef_plan.proofs.hints.hints_of.Given as goal

abbrev pub invariant-loop-end : goal.invariant-loop-end
invariant-loop-end l = vec_len l.hints ≡ length l.script.nodes
