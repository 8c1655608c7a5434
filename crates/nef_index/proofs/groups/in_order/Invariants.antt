use Rattle.nef_index.proofs.Prelude.{AreKeyed}
use Rattle.nef_index.proofs.groups.in_order.Given as goal

abbrev pub invariant-loop-number : goal.invariant-loop-number
invariant-loop-number l = record { keyed : AreKeyed l.number l.keyed.items }
