use Rattle.nef_facets.proofs.Prelude.{map_of, arc_of, edge_of, IsTieFromArc, Adds}
use Rattle.nef_facets.proofs.Adding.{AnyBelow}
use Rattle.nef_facets.proofs.ties.add_arc_ties.Given as goal

abbrev pub invariant-loop-number : goal.invariant-loop-number
invariant-loop-number l = record { added : Adds (AnyBelow (IsTieFromArc (edge_of l.edge) l.item (arc_of l.low) (map_of l.high)) l.number) l.fn.ties.items l.ties.items }
