use Rattle.nef_star.proofs.Prelude.{IsEnded}
use Rattle.nef_star.proofs.rounds.end_rays.Given as goal

abbrev pub invariant-loop-k : goal.invariant-loop-k
invariant-loop-k l = IsEnded l.ends l.k l.fn.star l.star
