use Rattle.nef_edges.proofs.Prelude.{AreArriving, IsEarlierSvertex}
use Rattle.nef_edges.proofs.arriving.sorted_arriving.Given as goal

abbrev pub invariant-loop-i : goal.invariant-loop-i
invariant-loop-i l = record { added : AreArriving l.vertices (IsEarlierSvertex l.i 0) l.ends.items }
