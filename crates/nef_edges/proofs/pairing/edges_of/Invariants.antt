use Rattle.nef_edges.proofs.Prelude.{IsEarlierSvertex, AreEdges}
use Rattle.nef_edges.proofs.pairing.edges_of.Given as goal

abbrev pub invariant-loop-i : goal.invariant-loop-i
invariant-loop-i l = record { added : AreEdges l.vertices (IsEarlierSvertex l.i 0) l.edges.items }
