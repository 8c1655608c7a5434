use Rattle.nef_volumes.proofs.Prelude.{complex_of, Adds, AnyBelow, IsTieOutside}
use Rattle.nef_volumes.proofs.ties.add_outside_sides.Given as goal

abbrev pub invariant-loop-side : goal.invariant-loop-side
invariant-loop-side l = Adds (AnyBelow (IsTieOutside (complex_of l.c) l.vertex) l.side) l.initial.ties.items l.ties.items
