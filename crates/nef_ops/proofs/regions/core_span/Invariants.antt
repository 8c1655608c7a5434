use Rattle.nef_ops.proofs.FarLabels.{HoldsCarriers}
use Rattle.nef_ops.proofs.regions.core_span.Given as goal

abbrev pub invariant-loop-number : goal.invariant-loop-number
invariant-loop-number l = HoldsCarriers l.c l.number l.core
