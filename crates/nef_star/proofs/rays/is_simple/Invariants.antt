use Rattle.nef_star.proofs.Prelude.{NoneNeedless}
use Rattle.nef_star.proofs.rays.is_simple.Given as goal

abbrev pub invariant-loop-k : goal.invariant-loop-k
invariant-loop-k l = record { needed : NoneNeedless l.k l.star }
