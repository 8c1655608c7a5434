use Rattle.nef_sover.proofs.Prelude.{AddsAxes}
use Rattle.nef_sover.proofs.Adding.{AnyFirst}
use Rattle.nef_sover.proofs.Meets.{IsSvertexAlong}
use Rattle.nef_sover.proofs.axes.add_svertices.Given as goal

abbrev pub invariant-loop-svertex : goal.invariant-loop-svertex
invariant-loop-svertex l = record { added : AddsAxes (AnyFirst IsSvertexAlong l.map.svertices l.svertex-index) l.fn.axes.items l.axes.items }
