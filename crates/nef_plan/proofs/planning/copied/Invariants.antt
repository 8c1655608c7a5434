use Rattle.nef_plan.proofs.Prelude.{◌≡◌, take}
use Rattle.nef_plan.proofs.planning.copied.Given as goal

abbrev pub invariant-loop-k : goal.invariant-loop-k
invariant-loop-k l = l.copy ≡ take l.k l.nodes
