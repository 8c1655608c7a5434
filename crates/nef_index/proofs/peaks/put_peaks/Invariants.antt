use Rattle.std.specs.Prelude.{◌≡◌, length}
use Rattle.nef_index.proofs.Prelude.{ArePeaks}
use Rattle.nef_index.proofs.peaks.put_peaks.Given as goal

abbrev pub invariant-loop-block : goal.invariant-loop-block
invariant-loop-block l = (length l.peaks.items ≡ l.block) × ArePeaks l.edges l.numbers l.peaks.items
