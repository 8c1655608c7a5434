use Rattle.nef_star.proofs.Prelude.{vector_of}
use Rattle.nef_star.proofs.RoundStars.{NoneBefore}
use Rattle.nef_star.proofs.rounds.end_with.Given as goal

abbrev pub invariant-loop-k : goal.invariant-loop-k
invariant-loop-k l = NoneBefore l.ends l.k (vector_of l.left)
