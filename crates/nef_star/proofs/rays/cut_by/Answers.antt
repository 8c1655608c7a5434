use Rattle.nef_star.proofs.Prelude.{rules}
use Rattle.nef_star.proofs.Cuts.{cut-none, cut-more}
use Rattle.nef_star.proofs.rays.cut_by.Goals as goal

pub loop-ray-init : goal.loop-ray-init
loop-ray-init c = cut-none c.args.rays.now c.args.star.now c.requires.turned

pub loop-ray-preserved : goal.loop-ray-preserved
loop-ray-preserved c =
    cut-more c.args.rays.now c.loop-ray.ray-index c.args.star.now c.loop-ray.star c.cut.new.star c.ray-item.result (search rules) c.ray-item.is c.loop-ray.invariant c.in_ok-cut.ensures.cut
