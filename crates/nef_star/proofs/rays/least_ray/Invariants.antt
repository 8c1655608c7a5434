use Rattle.nef_star.proofs.Prelude.{◌<◌, length}
use Rattle.nef_star.proofs.RayOrder.{LeastOf}
use Rattle.nef_star.proofs.rays.least_ray.Given as goal

abbrev pub invariant-loop-k : goal.invariant-loop-k
invariant-loop-k l = record { within : l.least < length l.rays; least : LeastOf l.rays l.least l.k }
