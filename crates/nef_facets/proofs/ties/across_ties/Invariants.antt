use Rattle.nef_facets.proofs.Prelude.{[], complex_of, IsTieAcross, Any, Adds}
use Rattle.nef_facets.proofs.Adding.{AnyBelow}
use Rattle.nef_facets.proofs.ties.across_ties.Given as goal

abbrev pub invariant-loop-vertex : goal.invariant-loop-vertex
invariant-loop-vertex l = record { added : Adds (AnyBelow (λ i. Any (IsTieAcross (complex_of l.c) i)) l.vertex) [] l.ties.items }
