use Rattle.nef_star.proofs.Cuts.{IsCutTo}
use Rattle.nef_star.proofs.rays.cut_by.Given as goal

abbrev pub invariant-loop-ray : goal.invariant-loop-ray
invariant-loop-ray l = IsCutTo l.rays l.ray-index l.fn.star l.star
