use Rattle.nef_star.proofs.Prelude.{vector_of}
use Rattle.nef_star.proofs.LastAt.{NoneUnder}
use Rattle.nef_star.proofs.rays.place_of.Given as goal

abbrev pub invariant-loop-k : goal.invariant-loop-k
invariant-loop-k l = NoneUnder l.star (vector_of l.left) l.k
