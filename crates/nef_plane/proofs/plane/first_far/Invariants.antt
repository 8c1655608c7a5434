use Rattle.nef_plane.proofs.Prelude.{◌-◌, ◌≤◌, length}
use Rattle.nef_plane.proofs.Leveled.{AreShort, AreFar}
use Rattle.nef_plane.proofs.plane.first_far.Given as goal

abbrev pub invariant-loop-low : goal.invariant-loop-low
invariant-loop-low g l = (l.low ≤ l.high) × (l.high ≤ length l.numbers) × AreShort l.c.vertices l.numbers (g.L.Line.form l.line) l.on_counts l.low × AreFar l.c.vertices l.numbers (g.L.Line.form l.line) l.on_counts l.high

abbrev pub decreases-loop-low : goal.decreases-loop-low
decreases-loop-low g l = l.high - l.low
