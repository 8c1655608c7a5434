use Rattle.nef_complex.proofs.Prelude.{◌-◌, ◌≤◌, length}
use Rattle.nef_complex.proofs.Rising.{BeginBefore, BeginFrom}
use Rattle.nef_complex.proofs.complex.PlaneItems.edges_before.Given as goal

abbrev pub invariant-loop-low : goal.invariant-loop-low
invariant-loop-low l = (l.low ≤ l.high) × (l.high ≤ length l.self.edges.now) × BeginBefore l.c.edges l.self.edges.now l.limit l.low × BeginFrom l.c.edges l.self.edges.now l.limit l.high

abbrev pub decreases-loop-low : goal.decreases-loop-low
decreases-loop-low l = l.high - l.low
