use Rattle.nef_locate.proofs.Prelude.{◌-◌, ◌≤◌, length, hit_point}
use Rattle.nef_locate.proofs.HitOrder.{AreBefore, AreAfter}
use Rattle.nef_locate.proofs.carrier.find_among.Given as goal

abbrev pub invariant-loop-low : goal.invariant-loop-low
invariant-loop-low l = (l.low ≤ l.high) × (l.high ≤ length l.numbers) × AreBefore l.c.vertices l.numbers (hit_point l.q) l.low × AreAfter l.c.vertices l.numbers (hit_point l.q) l.high

abbrev pub decreases-loop-low : goal.decreases-loop-low
decreases-loop-low l = l.high - l.low
