use Rattle.nef_edges.proofs.Prelude.{IsEarlierSvertex, AreLaid}
use Rattle.nef_edges.proofs.guesses.lay_edges_from.Given as goal

abbrev pub invariant-loop-k : goal.invariant-loop-k
invariant-loop-k l = record { laid : AreLaid l.vertices (IsEarlierSvertex l.i l.k) l.edges.items l.loose.numbers.items 0 }
