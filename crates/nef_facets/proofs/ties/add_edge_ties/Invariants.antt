use Rattle.nef_facets.proofs.Prelude.{map_of, edge_of, IsTieOfEdge, Adds}
use Rattle.nef_facets.proofs.Adding.{AnyBelow}
use Rattle.nef_facets.proofs.ties.add_edge_ties.Given as goal

abbrev pub invariant-loop-item : goal.invariant-loop-item
invariant-loop-item l = record { added : Adds (AnyBelow (IsTieOfEdge (edge_of l.edge) (map_of l.low) (map_of l.high)) l.item) l.fn.ties.items l.ties.items }
