use Rattle.nef_cand.proofs.Prelude.{IsAt, Edge, complex_of, IsNamedBetween, AddsAll, CutsEdgeBy, CutsEdgeHeld}
use Rattle.nef_cand.proofs.Adding.{AnyFirst}
use Rattle.nef_cand.proofs.listing.add_edge_cuts.Given as goal

abbrev pub invariant-loop-carrier : goal.invariant-loop-carrier
invariant-loop-carrier l = record { added : (e : Edge) → IsAt l.c.edges l.number e → AddsAll (AnyFirst (CutsEdgeBy l.c e) l.near l.carrier-index) (AnyFirst (CutsEdgeHeld l.c l.other e) l.near l.carrier-index) (IsNamedBetween l.operand (complex_of l.c) (complex_of l.other)) l.fn.listed.items l.listed.items }
