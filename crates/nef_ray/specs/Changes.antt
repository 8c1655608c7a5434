-- Changes of the label along a ray.
use Rattle.std.specs.Prelude.{◌≡◌, ◌*ℤ◌}
use Rattle.nef_complex.specs.Prelude.{ℕ, Bool, List, ray_direction_limit, ray_point_limit, ray_weight_limit, HasLabel, Germ, SpacePoint, InClosedFrame, Set, Vector, IsAtMost, Label, IsCrossing, IsReached, IsPointAtMost, form_of, vector_of, point_of, hit_point, Plane, IsAt}
use Rattle.std.specs.Ordering.{int_cmp, is_lt}
use Rattle.std.specs.List.{Contains}
use Rattle.nef_ray.specs.declared.ray.Crossed.{Crossed}
use Rattle.nef_ray.specs.declared.ray.RayStart.{RayStart}
use Rattle.nef_ray.specs.declared.ray.RayEnd.{RayEnd}
use Rattle.nef_ray.specs.Ends.{Changes}

-- the numbers of the ray are within its limits
pub record IsSmallRayStart (ray : RayStart) : Type 0 where
  pub start : IsPointAtMost ray_point_limit ray_weight_limit (point_of ray.from)
  pub direction : IsAtMost ray_direction_limit (vector_of ray.along)

-- y has the label m, and the label just after y along d is m
abbrev pub IsUnchanged : Set → Vector → Label → SpacePoint → Type 0
IsUnchanged s d m y = HasLabel s y m × Germ s y d m

-- at the point the label along d changes from m to another
pub record IsChangeOf (s : Set) (d : Vector) (m : Label) (e : RayEnd) : Type 0 where
  pub other : e.label ≡ m → ⊥
  pub changes : Changes s (point_of e.point) d m e.after e.label

-- the ray crosses the plane at the hit, which lies at its step
pub record IsHitOf (ray : RayStart) (x : Crossed) : Type 0 where
  pub crossing : IsCrossing (point_of ray.from) (vector_of ray.along) (form_of x.plane) (hit_point x.at)
  pub reached : IsReached (point_of ray.from) (vector_of ray.along) x.at.num x.at.den x.at.den_sign (hit_point x.at)

-- where the ray crosses the plane in the closed frame, the label doesn't change
abbrev pub IsUnchangedOn : Set → RayStart → Plane → Type 0
IsUnchangedOn s ray h = (y : SpacePoint) → IsCrossing (point_of ray.from) (vector_of ray.along) (form_of h) y → InClosedFrame y → IsUnchanged s (vector_of ray.along) ray.before y

-- the plane is one of the planes that are crossed
abbrev pub IsCrossedPlane : List Crossed → Plane → Type 0
IsCrossedPlane xs h = (x : Crossed) × Contains xs x × (x.plane ≡ h)

-- each plane of hs that the ray crosses is one of the planes that are crossed
abbrev pub AreAllCrossed : List Plane → RayStart → List Crossed → Type 0
AreAllCrossed hs ray xs = (k : ℕ) (h : Plane) → IsAt hs k h → (y : SpacePoint) → IsCrossing (point_of ray.from) (vector_of ray.along) (form_of h) y → IsCrossedPlane xs h

-- x has the smaller step
abbrev pub crossed_lt : Crossed → Crossed → Bool
crossed_lt x y = is_lt (int_cmp (x.at.num *ℤ y.at.den) (y.at.num *ℤ x.at.den))
