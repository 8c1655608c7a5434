use Rattle.nef_facets.proofs.Prelude.{complex_of}
use Rattle.nef_facets.proofs.Nexts.{AreNextTo}
use Rattle.nef_facets.proofs.cycles.next_corners.Given as goal

abbrev pub invariant-loop-edge : goal.invariant-loop-edge
invariant-loop-edge l = AreNextTo (complex_of l.c) l.corners l.edge-index l.next.items
