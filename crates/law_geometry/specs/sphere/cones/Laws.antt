-- What is proved of the existence of least maps: each fact is one statement that a function's contract cites.
use Rattle.std.specs.Prelude.{◌≡◌, ◌↔◌}
use Rattle.nef_space.specs.Prelude.{SpacePoint, Vector, IsDirection, Set}
use Rattle.nef_space.specs.declared.label.Label.{Label}
use Rattle.law_geometry.specs.sphere.Prelude.{Map, MapLabel, Valid, Least, Ordered, Cone, ByOp}

-- every set has a least map at every point, with its lists in order
abbrev pub EveryPointHasMap : Type 0
EveryPointHasMap = (s : Set) (p : SpacePoint) → (M : Map) × Cone M s p × Least M × Ordered M

-- the result of an operation on two valid maps is the labels of a least map, which may have any mark
abbrev pub EveryOpHasMap : Type 0
EveryOpHasMap = (A B : Map) (op : Label → Label → Label) (mark : Label) → Valid A → Valid B
    → (M : Map) × Valid M × Least M × Ordered M × (M.mark ≡ mark) × ((d : Vector) (m : Label) → IsDirection d → MapLabel M d m ↔ ByOp A B op d m)
