use Rattle.nef_facets.proofs.Prelude.{complex_of, IsTieAcross, Adds}
use Rattle.nef_facets.proofs.Adding.{AnyBelow}
use Rattle.nef_facets.proofs.ties.add_vertex_ties.Given as goal

abbrev pub invariant-loop-item : goal.invariant-loop-item
invariant-loop-item l = record { added : Adds (AnyBelow (IsTieAcross (complex_of l.c) l.vertex) l.item) l.fn.ties.items l.ties.items }
