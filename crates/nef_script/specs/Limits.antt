-- The limits of the numbers of rays.
use Rattle.nef_space.specs.Limits.{ray_direction_limit, ray_point_limit, ray_weight_limit}
use Rattle.nef_geo.specs.Prelude.{IsAtMost, IsPointAtMost, point_of, vector_of}
use Rattle.nef_geo.specs.declared.dir.Dir.{Dir}
use Rattle.nef_geo.specs.declared.point.Point.{Point}
use Rattle.nef_script.specs.declared.script.Command.{Command}
use Rattle.nef_script.specs.declared.script.Command.TheVariants.{Ray}

-- the numbers of the ray from p along d are within the limits
pub record IsRayWithin (p : Point) (d : Dir) : Type 0 where
  pub start : IsPointAtMost ray_point_limit ray_weight_limit (point_of p)
  pub direction : IsAtMost ray_direction_limit (vector_of d)

-- if the command asks about a ray, the numbers of this ray are within the limits
abbrev pub KeepsRayLimits : Command → Type 0
KeepsRayLimits (Ray line k p d) = IsRayWithin p d
KeepsRayLimits c = Unit {0}
