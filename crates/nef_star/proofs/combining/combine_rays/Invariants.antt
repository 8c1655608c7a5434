use Rattle.nef_star.proofs.Combined.{IsCombinedTo}
use Rattle.nef_star.proofs.combining.combine_rays.Given as goal

abbrev pub invariant-loop-k : goal.invariant-loop-k
invariant-loop-k l = IsCombinedTo l.op l.other l.k l.fn.star l.star
