-- Planes, points, directions and hits as forms, points of space and vectors.
use Rattle.std.specs.Prelude.{◌<◌, ◌<ℤ◌, ℤ, pos, nat_abs, cond}
use Rattle.std.proofs.Common.{arith}
use Rattle.std.proofs.lemmas.Int.{ints}
use Rattle.nef_space.specs.Prelude.{Vector, vector, SpacePoint, Form, form, opposite_form}
use Rattle.nef_geo.specs.declared.plane.Plane.{Plane}
use Rattle.nef_geo.specs.declared.plane.Oriented.{Oriented}
use Rattle.nef_geo.specs.declared.point.Point.{Point}
use Rattle.nef_geo.specs.declared.dir.Dir.{Dir}
use Rattle.nef_geo.specs.declared.hit.Hit.{Hit}
use Rattle.nef_geo.specs.declared.hit.FarHit.{FarHit}

abbrev pub vector_of : Dir → Vector
vector_of d = vector d.x d.y d.z

abbrev pub form_of : Plane → Form
form_of h = form h.a h.b h.c h.d

-- the form of the numbers as they were given: the plane's own form, or its negative
abbrev pub given_form : Oriented → Form
given_form o = cond o.flipped (opposite_form (form_of o.plane)) (form_of o.plane)

pub positive_size : (w : ℤ) → pos 0 <ℤ w → 0 < nat_abs w
positive_size w h = omega (arith, ints)

-- the point (x/w, y/w, z/w)
abbrev pub point_at : (x y z w : ℤ) → pos 0 <ℤ w → SpacePoint
point_at x y z w positive = record { x = x; y = y; z = z; w = nat_abs w; proper = positive_size w positive }

abbrev pub point_of : Point → SpacePoint
point_of p = point_at p.x p.y p.z p.w p.proper

abbrev pub hit_point : Hit → SpacePoint
hit_point q = point_at q.x q.y q.z q.w q.proper

abbrev pub far_point : FarHit → SpacePoint
far_point q = point_at q.x q.y q.z q.w q.proper
