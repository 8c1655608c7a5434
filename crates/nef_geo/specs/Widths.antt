-- Limits on the sizes of computed values.
use Rattle.std.specs.Prelude.{ℕ, ◌+◌, ◌*◌, ◌^◌}

-- the limit on the form of a plane at a point
abbrev pub point_form_limit : ℕ
point_form_limit = 12 * 2 ^ 56

-- the limit on the product of a plane's normal with a direction
abbrev pub slope_limit : ℕ
slope_limit = 3 * 2 ^ 48

-- the limit on the dot product of two directions
abbrev pub dot_limit : ℕ
dot_limit = 3 * 2 ^ 74

-- the limit on the triple product of three directions
abbrev pub triple_limit : ℕ
triple_limit = 2 ^ 114

-- the limit on the dot product of two cross products of directions, of which three have a svertex's size
abbrev pub quad_limit : ℕ
quad_limit = 2 ^ 110

-- limits on the numbers of a direction for a ray from a point, and on a plane's normal times this direction
abbrev pub ray_limit : ℕ
ray_limit = 2 ^ 36

abbrev pub ray_slope_limit : ℕ
ray_slope_limit = 3 * 2 ^ 47

-- limits on a hit on a ray from a point: its first three numbers, its w, and a plane's form at the hit
abbrev pub hit_limit : ℕ
hit_limit = 21 * 2 ^ 92

abbrev pub hit_weight_limit : ℕ
hit_weight_limit = 9 * 2 ^ 81

abbrev pub hit_form_limit : ℕ
hit_form_limit = 9 * 2 ^ 106

-- limits on a hit on an upward or downward ray from a point: its first three numbers, its w, and a plane's form there
abbrev pub upright_limit : ℕ
upright_limit = 2 ^ 86

abbrev pub upright_weight_limit : ℕ
upright_weight_limit = 2 ^ 73

abbrev pub upright_form_limit : ℕ
upright_form_limit = 2 ^ 99

-- the limit on a point's number times an upward or downward hit's w, less the hit's number times the point's w
abbrev pub ratio_limit : ℕ
ratio_limit = 15 * 2 ^ 118

-- limits on the numbers of a plane's second direction, and on the sum of their sizes
abbrev pub plane_dir_limit : ℕ
plane_dir_limit = 2 ^ 35 + 2 ^ 11

abbrev pub plane_dir_sum_limit : ℕ
plane_dir_sum_limit = 2 ^ 36 + 2 ^ 12

-- limits on a hit on a ray along a plane's second direction: its first three numbers, and a plane's form at the hit
abbrev pub plane_dir_hit_limit : ℕ
plane_dir_hit_limit = 2 ^ 96

abbrev pub plane_dir_form_limit : ℕ
plane_dir_form_limit = 2 ^ 108

-- limits on a hit on a ray from a hit: its first three numbers, its w, the step's two numbers, and a plane's form there
abbrev pub far_limit : ℕ
far_limit = 2 ^ 111

abbrev pub far_weight_limit : ℕ
far_weight_limit = 3 * 2 ^ 95

abbrev pub far_num_limit : ℕ
far_num_limit = 13 * 2 ^ 95

abbrev pub far_den_limit : ℕ
far_den_limit = 3 * 2 ^ 22

abbrev pub far_form_limit : ℕ
far_form_limit = 2 ^ 124

-- the limit on the two products that compare the steps of two hits on a ray from a hit
abbrev pub far_product_limit : ℕ
far_product_limit = 2 ^ 123
