use Rattle.nef_edges.proofs.Prelude.{IsEarlierSvertex, AreEdges}
use Rattle.nef_edges.proofs.pairing.add_edges.Given as goal

abbrev pub invariant-loop-k : goal.invariant-loop-k
invariant-loop-k l = record { added : AreEdges l.vertices (IsEarlierSvertex l.i l.k) l.edges.items }
