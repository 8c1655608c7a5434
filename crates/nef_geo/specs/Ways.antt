-- The second of the two directions of which a plane's stated direction is made.
use Rattle.std.specs.Prelude.{pos, cond}
use Rattle.std.specs.Ordering.{int_eq}
use Rattle.nef_space.specs.Vectors.{Vector, beside_y, beside_z}

abbrev pub second_beside : Vector → Vector
second_beside n = cond (int_eq n.z (pos 0)) (beside_z n) (beside_y n)
