use Rattle.nef_edges.proofs.Prelude.{IsEarlierSvertex, AreLaid}
use Rattle.nef_edges.proofs.guesses.lay_edges.Given as goal

abbrev pub invariant-loop-i : goal.invariant-loop-i
invariant-loop-i l = record { laid : AreLaid l.vertices (IsEarlierSvertex l.i 0) l.edges.items l.loose.numbers.items 0 }
