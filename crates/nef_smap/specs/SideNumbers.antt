-- The numbers of a map's sides.
use Rattle.std.specs.Prelude.{ℕ, zero, suc, ◌+◌, ◌*◌, List, [], ◌∷◌, length, Option, Some, None}
use Rattle.nef_space.specs.declared.label.Label.{Label}
use Rattle.law_geometry.specs.sphere.Maps.{MapVertex, Map, items, Side, around_svertex, pos_item, neg_item, whole}
use Rattle.nef_smap.specs.Sides.{svertex_sides}

-- 1 for a label, 0 for none
abbrev pub one_if_label : Option Label → ℕ
one_if_label None = 0
one_if_label (Some l) = 1

-- the number of svertices among the first k with a label round the svertex
abbrev pub arounds_before : List MapVertex → ℕ → ℕ
arounds_before [] k = 0
arounds_before (v ∷ vs) zero = 0
arounds_before (v ∷ vs) (suc k) = one_if_label v.around + arounds_before vs k

-- the number of a side among the map's sides
abbrev pub side_number : Map → Side → ℕ
side_number M (around_svertex k) = arounds_before M.svertices k
side_number M (pos_item k) = length (svertex_sides 0 M.svertices) + 2 * k
side_number M (neg_item k) = length (svertex_sides 0 M.svertices) + (2 * k + 1)
side_number M whole = length (svertex_sides 0 M.svertices) + 2 * length (items M)
