-- Close directions as the program has them: their signs on forms, and the arcs over them.
use Rattle.std.specs.Prelude.{◌≡◌, ◌⊎◌}
use Rattle.nef_space.specs.Prelude.{Sign, minus, nought, plus, sign, Vector, dot, cross, triple, opposite, up}
use Rattle.nef_geo.specs.Shapes.{vector_of}
use Rattle.nef_geo.specs.declared.sign.Sign.{Sign as GeoSign}
use Rattle.nef_geo.specs.declared.sign.Sign.TheVariants.{Minus, Zero, Plus}
use Rattle.nef_smap.specs.declared.above.Close.{Close}
use Rattle.nef_smap.specs.declared.above.Lean.{Lean}
use Rattle.nef_smap.specs.declared.above.Lean.TheVariants.{Down, Up, Along}
use Rattle.law_geometry.specs.sphere.Maps.{dir_of}
use Rattle.nef_smap.specs.declared.map.SArc.{SArc}
use Rattle.nef_smap.specs.declared.map.SphereMap.{SphereMap}
use Rattle.nef_smap.specs.Maps.{map_of}
use Rattle.nef_smap.specs.Above.{over_forms, first_sign, Stands}

-- the program's sign for a sign of the theory
abbrev pub geo_sign : Sign → GeoSign
geo_sign minus = Minus
geo_sign nought = Zero
geo_sign plus = Plus

-- where the close directions lie, seen from the direction that all are close to
abbrev pub lean_direction : Lean → Vector → Vector
lean_direction Down a = opposite up
lean_direction Up a = up
lean_direction Along a = a

-- the second direction in which the close directions lie, among all directions with the same first one
abbrev pub then_toward : Lean → Vector → Vector
then_toward Down a = a
then_toward Up a = a
then_toward Along a = up

-- the sign on the close directions of a form that is nought on the direction that all are close to
abbrev pub beyond_sign : Vector → Lean → Vector → Sign
beyond_sign g l a = first_sign (sign (dot g (lean_direction l a))) (sign (dot g (then_toward l a)))

-- the sign of a form on the close directions
abbrev pub close_sign : Vector → Close → Sign
close_sign g w = first_sign (sign (dot g (vector_of w.at))) (beyond_sign g w.lean (vector_of w.aside))

-- d is one of the close directions
abbrev pub IsClose : SphereMap → Close → Vector → Type 0
IsClose m w d = Stands (over_forms (map_of m) up) (vector_of w.at) (lean_direction w.lean (vector_of w.aside)) (then_toward w.lean (vector_of w.aside)) d

-- an arc is passed, by the turn from its source to its target (plus for less than half a circle), whether the source is
-- passed before, whether the target comes after, and whether both are one
abbrev pub ArcPasses : Sign → Type 0 → Type 0 → Type 0 → Type 0
ArcPasses plus S T E = S × T
ArcPasses minus S T E = S ⊎ T
ArcPasses nought S T E = E ⊎ S

-- the way up from the close directions crosses the arc's circle on the arc
abbrev pub PassesArc : SphereMap → SArc → Close → Type 0
PassesArc m a w =
    let s = dir_of (map_of m).svertices a.source in
    let t = dir_of (map_of m).svertices a.target in
    ArcPasses (sign (triple (vector_of a.normal) s t)) (close_sign (cross up s) w ≡ plus) (close_sign (cross up t) w ≡ minus) (a.source ≡ a.target)
