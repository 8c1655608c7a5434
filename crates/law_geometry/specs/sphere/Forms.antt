-- The linear forms of a map, and vectors that have the same signs on them.
use Rattle.std.specs.Prelude.{◌≡◌, ◌-ℤ◌, ◌∷◌, ◌++◌}
use Rattle.nef_space.specs.Prelude.{pos, List, [], sign, Lies, Vector, cross, vector, dot}
use Rattle.law_geometry.specs.sphere.Maps.{Map, Item, arc_item, sloop_item, items, dir_of}

abbrev pub SameSigns : List Vector → Vector → Vector → Type 0
SameSigns gs d e = (g : Vector) → Lies gs g → sign (dot g e) ≡ sign (dot g d)

-- e has the sign of d on each form where the sign of d isn't nought
abbrev pub Keeps : List Vector → Vector → Vector → Type 0
Keeps gs d e = (g : Vector) → Lies gs g → (dot g d ≡ pos 0 → ⊥) → sign (dot g e) ≡ sign (dot g d)

abbrev pub axis_x : Vector
axis_x = vector (pos 1) (pos 0) (pos 0)

abbrev pub axis_y : Vector
axis_y = vector (pos 0) (pos 1) (pos 0)

abbrev pub axis_z : Vector
axis_z = vector (pos 0) (pos 0) (pos 1)

abbrev pub axes : List Vector
axes = axis_x ∷ axis_y ∷ axis_z ∷ []

-- the three forms of d that give the numbers of v x d
abbrev pub row_x : Vector → Vector
row_x v = vector (pos 0) (pos 0 -ℤ v.z) v.y

abbrev pub row_y : Vector → Vector
row_y v = vector v.z (pos 0) (pos 0 -ℤ v.x)

abbrev pub row_z : Vector → Vector
row_z v = vector (pos 0 -ℤ v.y) v.x (pos 0)

abbrev pub point_forms : Vector → List Vector
point_forms v = v ∷ row_x v ∷ row_y v ∷ row_z v ∷ []

abbrev pub arc_forms : Vector → Vector → Vector → List Vector
arc_forms n s t = n ∷ cross n s ∷ cross t n ∷ (axes ++ (point_forms s ++ point_forms t))

abbrev pub gather : {A B : Type 0} → (A → List B) → List A → List B
gather f [] = []
gather f (x ∷ xs) = f x ++ gather f xs

abbrev pub item_forms : Map → Item → List Vector
item_forms M (arc_item a) = arc_forms a.normal (dir_of M.svertices a.source) (dir_of M.svertices a.target)
item_forms M (sloop_item l) = l.normal ∷ axes

abbrev pub forms : Map → List Vector
forms M = axes ++ (gather (λ v. point_forms v.dir) M.svertices ++ gather (item_forms M) (items M))
