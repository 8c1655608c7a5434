use Rattle.nef_sover.proofs.Prelude.{Track, AddsAxes, MeetsOne}
use Rattle.nef_sover.proofs.Adding.{AnyFirst}
use Rattle.nef_sover.proofs.axes.add_crossings.Given as goal

abbrev pub invariant-loop-x : goal.invariant-loop-x
invariant-loop-x l = record { added : AddsAxes (AnyFirst (λ (x : Track). MeetsOne x l.ys) l.xs l.x-index) l.fn.axes.items l.axes.items }
