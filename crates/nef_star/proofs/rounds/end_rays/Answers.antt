use Rattle.nef_star.proofs.Prelude.{arith}
use Rattle.nef_star.proofs.RoundStars.{ended-start}
use Rattle.nef_star.proofs.rounds.end_rays.Goals as goal

pub loop-k-init : goal.loop-k-init
loop-k-init c = ended-start c.args.ends.now c.args.star.now c.requires.ways.turned

pub end_ray-requires-clause-ended : goal.end_ray-requires-clause-ended
end_ray-requires-clause-ended c = (c.args.star.now, c.requires.ways, c.loop-k.invariant)

pub end_ray-requires-clause-within : goal.end_ray-requires-clause-within
end_ray-requires-clause-within c = omega (arith, c.loop-k.auto.k-end, c.loop-k-test.true, c.len-k-end.ensures, c.loop-k.invariant.count)

pub loop-k-preserved : goal.loop-k-preserved
loop-k-preserved c = c.end_ray.ensures.ended c.args.star.now c.requires.ways c.loop-k.invariant
