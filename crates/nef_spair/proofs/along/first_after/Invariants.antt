use Rattle.nef_spair.proofs.Firsts.{IsFirstStar}
use Rattle.nef_spair.proofs.along.first_after.Given as goal

abbrev pub invariant-loop-k : goal.invariant-loop-k
invariant-loop-k l = IsFirstStar l.kept l.normal l.source l.k l.first
