use Rattle.nef_stopo.proofs.Prelude.{◌≡◌, take, map, ray_mark, ray_of, nearby_of}
use Rattle.nef_stopo.proofs.topology.near_rays.Given as goal

abbrev pub invariant-loop-ray : goal.invariant-loop-ray
invariant-loop-ray l = l.near ≡ nearby_of (map ray_mark (map ray_of (take l.ray-index l.rays)))
