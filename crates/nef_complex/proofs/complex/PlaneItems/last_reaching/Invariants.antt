use Rattle.nef_complex.proofs.Prelude.{◌≤◌, EndBelow}
use Rattle.nef_complex.proofs.complex.PlaneItems.last_reaching.Given as goal

abbrev pub invariant-loop-place : goal.invariant-loop-place
invariant-loop-place l = (l.place ≤ l.count) × EndBelow l.c.edges l.self.edges.now l.place l.count l.least

abbrev pub decreases-loop-place : goal.decreases-loop-place
decreases-loop-place l = l.place
