use Rattle.nef_index.proofs.Parallel.{IsInRun}
use Rattle.nef_index.proofs.sorted_carriers.run_ends.Given as goal

abbrev pub invariant-loop-number : goal.invariant-loop-number
invariant-loop-number l = record { runs : IsInRun l.carriers l.ends.items l.number }
