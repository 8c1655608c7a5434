-- Moments of lines, and the keys by which lines are told apart.
use Rattle.std.specs.Prelude.{◌+ℤ◌, ◌*ℤ◌, ◌^◌, ◌-◌}
use Rattle.nef_geo.specs.Prelude.{ℤ, pos, neg_ℤ, Vector, vector, cross, vector_of}
use Rattle.std.specs.Int.{int_div_euclid, int_max, int_min}
use Rattle.nef_geo.specs.declared.dir.Dir.{Dir}
use Rattle.nef_geo.specs.declared.point.Point.{Point}

-- w times the cross product of the point (x/w, y/w, z/w) and the direction
abbrev pub product_of : Point → Dir → Vector
product_of p d = cross (vector p.x p.y p.z) (vector_of d)

-- the nearest number of 64 bits
abbrev pub clamped : ℤ → ℤ
clamped n = int_max (neg_ℤ (pos (2 ^ 63))) (int_min n (pos (2 ^ 63 - 1)))

-- n/w rounded down, or the nearest number of 64 bits
abbrev pub whole_of : ℤ → ℤ → ℤ
whole_of n w = clamped (int_div_euclid n w)

-- the sum of the numbers of w p x d with the factors 1, 61 and 3721
abbrev pub sum_of : Point → Dir → ℤ
sum_of p d = (product_of p d).x +ℤ pos 61 *ℤ (product_of p d).y +ℤ pos 3721 *ℤ (product_of p d).z

-- the key of the line through the point along the direction: the same sum for the line's moment, rounded down
abbrev pub line_key_of : Point → Dir → ℤ
line_key_of p d = whole_of (sum_of p d) p.w
