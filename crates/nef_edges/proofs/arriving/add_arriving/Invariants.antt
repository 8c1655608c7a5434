use Rattle.nef_edges.proofs.Prelude.{AreArriving, IsEarlierSvertex}
use Rattle.nef_edges.proofs.arriving.add_arriving.Given as goal

abbrev pub invariant-loop-k : goal.invariant-loop-k
invariant-loop-k l = record { added : AreArriving l.vertices (IsEarlierSvertex l.i l.k) l.ends.items }
