use Rattle.nef_volumes.proofs.Prelude.{complex_of, AreDownBetween}
use Rattle.nef_volumes.proofs.ties.down_ties.Given as goal

abbrev pub invariant-loop-vertex : goal.invariant-loop-vertex
invariant-loop-vertex l = AreDownBetween (complex_of l.c) l.start l.vertex l.ties.items
