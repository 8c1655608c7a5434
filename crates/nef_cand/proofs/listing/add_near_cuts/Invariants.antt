use Rattle.nef_cand.proofs.Prelude.{complex_of, IsNamedBetween, AddsAll, CutsEdgeByOne, CutsEdgeHeldOne}
use Rattle.nef_cand.proofs.Adding.{AnyFirst}
use Rattle.nef_cand.proofs.listing.add_near_cuts.Given as goal

abbrev pub invariant-loop-number : goal.invariant-loop-number
invariant-loop-number l = record { added : AddsAll (AnyFirst (CutsEdgeByOne l.c l.near) l.c.edges l.number) (AnyFirst (CutsEdgeHeldOne l.c l.other l.near) l.c.edges l.number) (IsNamedBetween l.operand (complex_of l.c) (complex_of l.other)) l.fn.listed.items l.listed.items }
