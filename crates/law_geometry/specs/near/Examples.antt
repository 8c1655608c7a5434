-- Closed examples at the origin: two half-spaces, a wall, an edge and a point.
use Rattle.std.specs.Prelude.{pos, negsuc, false, true}
use Rattle.nef_space.specs.Laws.{space_origin}
use Rattle.nef_space.specs.Prelude.{HasLabel, SameSet, Germ, Flat, FlatDim, IsVertex, Form, form, Set, Vector, vector}
use Rattle.nef_space.specs.declared.label.Label.TheVariants.{Not, In}

-- the forms whose open half-spaces are x < 0, x > 0, and so on for y and z
abbrev pub x_below : Form
x_below = form (pos 1) (pos 0) (pos 0) (pos 0)

abbrev pub x_above : Form
x_above = form (negsuc 0) (pos 0) (pos 0) (pos 0)

abbrev pub y_below : Form
y_below = form (pos 0) (pos 1) (pos 0) (pos 0)

abbrev pub y_above : Form
y_above = form (pos 0) (negsuc 0) (pos 0) (pos 0)

abbrev pub z_below : Form
z_below = form (pos 0) (pos 0) (pos 1) (pos 0)

abbrev pub z_above : Form
z_above = form (pos 0) (pos 0) (negsuc 0) (pos 0)

abbrev pub x_axis : Vector
x_axis = vector (pos 1) (pos 0) (pos 0)

abbrev pub y_axis : Vector
y_axis = vector (pos 0) (pos 1) (pos 0)

abbrev pub z_axis : Vector
z_axis = vector (pos 0) (pos 0) (pos 1)

-- the points with x < 0 or x > 0
abbrev pub two_halves : Set
two_halves = Set.either (Set.half x_below false) (Set.half x_above false)

-- the points with x = 0
abbrev pub wall_example : Set
wall_example = Set.both (Set.half x_below true) (Set.half x_above true)

-- the points with x = 0 and y < 0
abbrev pub wall_part : Set
wall_part = Set.both wall_example (Set.half y_below false)

-- the points with x <= 0 and y <= 0
abbrev pub wedge : Set
wedge = Set.both (Set.half x_below true) (Set.half y_below true)

-- the point with x = 0, y = 0 and z = 0
abbrev pub point : Set
point = Set.both wall_example (Set.both (Set.both (Set.half y_below true) (Set.half y_above true)) (Set.both (Set.half z_below true) (Set.half z_above true)))

-- two opposite open half-spaces have no point in common
abbrev pub HalvesDisjoint : Type 0
HalvesDisjoint = SameSet (Set.both (Set.half x_below false) (Set.half x_above false)) Set.empty

-- the union of two opposite open half-spaces leaves out the origin, which the union's closure has
pub record TwoHalves : Type 0 where
  pub label : HasLabel two_halves space_origin Not
  pub of_closure : HasLabel (Set.closed two_halves) space_origin In
  pub germ : Germ two_halves space_origin x_axis In
  pub germ_in_plane : Germ two_halves space_origin y_axis Not
  pub dimension : FlatDim two_halves space_origin 2

-- a wall has no interior, and nothing is left of a regularised wall
pub record WallExample : Type 0 where
  pub label : HasLabel wall_example space_origin In
  pub of_interior : HasLabel (Set.inside wall_example) space_origin Not
  pub of_regularisation : HasLabel (Set.regular wall_example) space_origin Not
  pub dimension : FlatDim wall_example space_origin 2

-- the closure of a part of a wall has the end that the part lacks
pub record WallPart : Type 0 where
  pub label : HasLabel wall_part space_origin Not
  pub of_closure : HasLabel (Set.closed wall_part) space_origin In

-- two planes meet in an edge
pub record EdgeExample : Type 0 where
  pub label : HasLabel wedge space_origin In
  pub along_edge : Flat wedge space_origin z_axis
  pub dimension : FlatDim wedge space_origin 1

-- a point is a vertex and its own boundary, and nothing is left of a regularised point
pub record PointAlone : Type 0 where
  pub label : HasLabel point space_origin In
  pub of_boundary : HasLabel (Set.border point) space_origin In
  pub of_regularisation : HasLabel (Set.regular point) space_origin Not
  pub is_vertex : IsVertex point space_origin
