use Rattle.nef_edges.proofs.Prelude.{length, IsEarlierSvertex, AreLaid}
use Rattle.nef_edges.proofs.guessed.join_loose.Given as goal

abbrev pub invariant-loop-j : goal.invariant-loop-j
invariant-loop-j l = record { laid : AreLaid l.vertices (IsEarlierSvertex (length l.vertices) 0) l.edges.items l.numbers l.j }
