-- Planes along a ray.
use Rattle.std.specs.Prelude.{◌≡◌, ◌*◌, ◌^◌}
use Rattle.nef_complex.specs.Prelude.{ℕ, pos, Vector, dot, point_of, vector_of, Point}
use Rattle.nef_space.specs.Points.{Form, plane_through}
use Rattle.nef_geo.specs.declared.dir.Dir.{Dir}

-- the size of the product of a direction with a point's first three numbers
abbrev pub product_limit : ℕ
product_limit = 9 * 2 ^ 82

-- the plane through p with this normal
abbrev pub ray_form : Dir → Point → Form
ray_form n p = plane_through (vector_of n) (point_of p)

-- a plane with the normal n is along the direction d
abbrev pub IsAcrossRay : Vector → Dir → Type 0
IsAcrossRay d n = dot (vector_of n) d ≡ pos 0
