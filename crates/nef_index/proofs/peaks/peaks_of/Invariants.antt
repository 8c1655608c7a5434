use Rattle.std.specs.Prelude.{◌≤◌, length}
use Rattle.nef_index.proofs.Prelude.{HavePeaks}
use Rattle.nef_index.proofs.peaks.peaks_of.Given as goal

abbrev pub invariant-loop-number : goal.invariant-loop-number
invariant-loop-number l = (length l.table ≤ l.number) × HavePeaks l.edges l.rows l.table
