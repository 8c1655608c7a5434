use Rattle.nef_volumes.proofs.Prelude.{[], complex_of, Adds, Any, AnyBelow, IsTieOutside}
use Rattle.nef_volumes.proofs.ties.outside_ties.Given as goal

abbrev pub invariant-loop-vertex : goal.invariant-loop-vertex
invariant-loop-vertex l = Adds (AnyBelow (λ i. Any (IsTieOutside (complex_of l.c) i)) l.vertex) [] l.ties.items
