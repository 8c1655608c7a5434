use Rattle.std.specs.Prelude.{ℕ, ◌+◌, ◌*◌, ◌≤◌, List, length}
use Rattle.nef_index.proofs.Prelude.{Edge, EndBelow, ArePeaks}
use Rattle.nef_index.proofs.peaks.next_peak.Given as goal

abbrev pub invariant-loop-first : goal.invariant-loop-first
invariant-loop-first l = (l.first ≤ length l.peaks) × ((es : List Edge) (ns : List ℕ) → ArePeaks es ns l.peaks → EndBelow es ns (8 * length l.peaks) (8 * (length l.peaks + 1)) (l.own + 1) → EndBelow es ns (8 * l.first) (8 * (length l.peaks + 1)) (l.peak + 1))

abbrev pub decreases-loop-first : goal.decreases-loop-first
decreases-loop-first l = l.first
