use Rattle.nef_cand.proofs.Prelude.{complex_of, IsNamedIn, AddsPoints, CutsEdge}
use Rattle.nef_cand.proofs.Adding.{AnyFirst}
use Rattle.nef_cand.proofs.listing.add_plane_cuts.Given as goal

abbrev pub invariant-loop-number : goal.invariant-loop-number
invariant-loop-number l = record { added : AddsPoints (AnyFirst (CutsEdge l.c l.h) l.c.edges l.number) (IsNamedIn l.operand (complex_of l.c)) l.fn.listed.items l.listed.items }
