use Rattle.nef_plan.proofs.Prelude.{◌≡◌, vec_len}
use Rattle.nef_plan.proofs.notes.first_notes.Given as goal

abbrev pub invariant-loop-node : goal.invariant-loop-node
invariant-loop-node l = vec_len l.notes ≡ l.node
