use Rattle.nef_star.proofs.RoundStars.{CutTo}
use Rattle.nef_star.proofs.rounds.cut_ways.Given as goal

abbrev pub invariant-loop-end : goal.invariant-loop-end
invariant-loop-end l = CutTo l.ends l.end-index l.fn.star l.star
