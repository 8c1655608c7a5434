use Rattle.nef_edges.proofs.Prelude.{IsPart}
use Rattle.nef_edges.proofs.loose.part_edges.Given as goal

abbrev pub invariant-loop-k : goal.invariant-loop-k
invariant-loop-k l = record { kept : IsPart l.initial.loose.numbers.items l.loose.numbers.items }
