-- A set with the points of a plane exchanged: where the set doesn't change, only the plane's directions are flat, so
-- what a plane cuts out of the set's volumes are facets of the new set.
use Rattle.nef_space.specs.Prelude.{true, Form, opposite_form, Set}

-- the set of the points of the plane h
abbrev pub plane_set : Form → Set
plane_set h = Set.both (Set.half h true) (Set.half (opposite_form h) true)

-- the set s with its points in the plane h exchanged
abbrev pub sliced : Set → Form → Set
sliced s h = Set.one_of s (plane_set h)
