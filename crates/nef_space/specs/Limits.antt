-- The limits on the sizes of all numbers, in one place. Types, definitions and proofs name them.
use Rattle.std.specs.Prelude.{ℕ, ◌*◌, ◌^◌}

-- half the length of the frame's sides: the frame is the open cube |x|, |y|, |z| < half_side
abbrev pub half_side : ℕ
half_side = 2048

-- of a, b and c of a plane a x + b y + c z + d = 0, and of the numbers of the normals of arcs and sloops
abbrev pub normal_limit : ℕ
normal_limit = 2 ^ 11

-- of d of a plane a x + b y + c z + d = 0
abbrev pub offset_limit : ℕ
offset_limit = 2 ^ 22

-- of a direction's numbers
abbrev pub direction_limit : ℕ
direction_limit = 2 ^ 37

-- of a svertex's numbers, which are a cross product of two normals
abbrev pub svertex_limit : ℕ
svertex_limit = 2 ^ 23

-- of x, y and z of a meet of three planes, which is a point, and of the meet's w
abbrev pub point_limit : ℕ
point_limit = 3 * 2 ^ 45

abbrev pub weight_limit : ℕ
weight_limit = 3 * 2 ^ 34

-- of x, y and z of a point that a script asks for, and of its w
abbrev pub query_limit : ℕ
query_limit = 2 ^ 43

abbrev pub query_weight_limit : ℕ
query_weight_limit = 2 ^ 32

-- of x, y and z of the point that a script's ray starts from, and of its w
abbrev pub ray_point_limit : ℕ
ray_point_limit = 2 ^ 21

abbrev pub ray_weight_limit : ℕ
ray_weight_limit = 2 ^ 10

-- of the numbers of the direction of a script's ray
abbrev pub ray_direction_limit : ℕ
ray_direction_limit = 2 ^ 10

-- how many boxes the generated script has at most
abbrev pub most_stairs : ℕ
most_stairs = 32

-- of a whole number that a script's word may spell
abbrev pub number_limit : ℕ
number_limit = 2 ^ 62

-- the numbers of the upward direction (up_x, up_y, 1): with normals each outweighs all that the later ones add up to
abbrev pub up_x : ℕ
up_x = 2 ^ 26

abbrev pub up_y : ℕ
up_y = 2 ^ 13

-- how often the axis of a plane goes into its second direction: more than the product of two numbers of normals
abbrev pub axis_factor : ℕ
axis_factor = 2 ^ 24
