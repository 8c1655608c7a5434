use Rattle.nef_facets.proofs.Prelude.{complex_of}
use Rattle.nef_facets.proofs.Nexts.{HaveNextCorners}
use Rattle.nef_facets.proofs.cycles.add_next.Given as goal

abbrev pub invariant-loop-number : goal.invariant-loop-number
invariant-loop-number l = HaveNextCorners (complex_of l.c) l.corners l.from.vertex l.from.svertex l.number l.fn.next.items l.next.items
