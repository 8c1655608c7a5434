-- The planes of the frame in order.
use Rattle.std.specs.Prelude.{◌∷◌}
use Rattle.nef_space.specs.Prelude.{pos, neg_ℤ, List, [], half_side, Form, form}

-- the normal forms of the frame's planes, in order of their four numbers
abbrev pub sorted_sides : List Form
sorted_sides =
    form (pos 0) (pos 0) (pos 1) (neg_ℤ (pos half_side))
    ∷ form (pos 0) (pos 0) (pos 1) (pos half_side)
    ∷ form (pos 0) (pos 1) (pos 0) (neg_ℤ (pos half_side))
    ∷ form (pos 0) (pos 1) (pos 0) (pos half_side)
    ∷ form (pos 1) (pos 0) (pos 0) (neg_ℤ (pos half_side))
    ∷ form (pos 1) (pos 0) (pos 0) (pos half_side)
    ∷ []
