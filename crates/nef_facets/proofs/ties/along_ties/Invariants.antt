use Rattle.nef_facets.proofs.Prelude.{[], complex_of, IsTieAlong, Adds}
use Rattle.nef_facets.proofs.Adding.{AnyBelow}
use Rattle.nef_facets.proofs.ties.along_ties.Given as goal

abbrev pub invariant-loop-edge : goal.invariant-loop-edge
invariant-loop-edge l = record { added : Adds (AnyBelow (IsTieAlong (complex_of l.c)) l.edge-index) [] l.ties.items }
