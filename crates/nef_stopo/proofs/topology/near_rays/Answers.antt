use Rattle.nef_stopo.proofs.Prelude.{List, [], ◌∷◌, take, map, arith, Ray, ray_mark, ray_of}
use Rattle.nef_stopo.proofs.Labels.{marks-append, nearby-more, nearby-all}
use Rattle.nef_stopo.proofs.topology.near_rays.Goals as goal

pub loop-ray-preserved : goal.loop-ray-preserved
loop-ray-preserved c =
    let xs = c.args.rays.now in let i = c.loop-ray.ray-index in let x = c.ray-item.result in
    nearby-more (λ (rs : List Ray). map ray_mark (map ray_of rs)) (marks-append) xs i x c.and-near.result (omega (arith, c.loop-ray-test.true)) c.ray-item.is
    (c.and-near.ensures (map ray_mark (map ray_of (take i xs))) (x.mark ∷ []) c.loop-ray.invariant c.of.ensures)

pub returns : goal.returns
returns c = nearby-all (λ (rs : List Ray). map ray_mark (map ray_of rs)) (marks-append) c.args.rays.now c.loop-ray.ray-index c.loop-ray.near (omega (arith, c.loop-ray-test.false)) c.loop-ray.invariant
