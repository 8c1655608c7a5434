use Rattle.nef_sover.proofs.Prelude.{AddsAxes, IsTrackMeet}
use Rattle.nef_sover.proofs.Adding.{AnyFirst}
use Rattle.nef_sover.proofs.axes.add_meets_with.Given as goal

abbrev pub invariant-loop-y : goal.invariant-loop-y
invariant-loop-y l = record { added : AddsAxes (AnyFirst (IsTrackMeet l.x) l.ys l.y-index) l.fn.axes.items l.axes.items }
