-- What lies over a direction: the item that the way from the direction to a fixed direction u first meets.
use Rattle.std.specs.Prelude.{◌≡◌, ◌<◌, ◌-ℤ◌, ◌≤ℤ◌, ◌<ℤ◌, ◌∷◌, ◌++◌, ℕ, pos, List, [], Option, Some, None}
use Rattle.nef_space.specs.Prelude.{Sign, minus, nought, plus, sign, Lies, Vector, dot, cross, IsAt}
use Rattle.law_geometry.specs.near.Cones.{combination}
use Rattle.law_geometry.specs.sphere.Maps.{Map, Item, items, item_normal, OnItem}
use Rattle.law_geometry.specs.sphere.Forms.{gather, forms}

-- where the way from d to u meets the plane of n, which parts d and u
abbrev pub rise : Vector → Vector → Vector → Vector
rise u n d = combination (dot n u) d (pos 0 -ℤ dot n d) u

-- the form that has on d the value of g on rise u n d
abbrev pub rise_form : Vector → Vector → Vector → Vector
rise_form u n g = combination (dot n u) g (pos 0 -ℤ dot g u) n

-- the way from d, below the item's plane, to u, above this plane, meets the item
pub record IsOver (M : Map) (u : Vector) (x : Item) (d : Vector) : Type 0 where
  pub below : dot (item_normal x) d <ℤ pos 0
  pub on : OnItem M x (rise u (item_normal x) d)

-- the way from d to u meets item k, and no other item sooner
pub record IsFirstItem (M : Map) (u d : Vector) (k : ℕ) : Type 0 where
  pub item : Item
  pub listed : IsAt (items M) k item
  pub over : IsOver M u item d
  pub first : (l : ℕ) (y : Item) → IsAt (items M) l y → IsOver M u y d → pos 0 ≤ℤ dot (item_normal item) (rise u (item_normal y) d)

-- the first item that the way from d to u meets, or none
abbrev pub IsFirst : Map → Vector → Vector → Option ℕ → Type 0
IsFirst M u d None = (k : ℕ) (x : Item) → IsAt (items M) k x → IsOver M u x d → ⊥
IsFirst M u d (Some k) = IsFirstItem M u d k

-- the first of the first n items that the way from d to u meets, or none
abbrev pub IsFirstOf : Map → Vector → Vector → ℕ → Option ℕ → Type 0
IsFirstOf M u d n None = (k : ℕ) (x : Item) → k < n → IsAt (items M) k x → IsOver M u x d → ⊥
IsFirstOf M u d n (Some k) = (x : Item) × IsAt (items M) k x × IsOver M u x d
    × ((l : ℕ) (y : Item) → l < n → IsAt (items M) l y → IsOver M u y d → pos 0 ≤ℤ dot (item_normal x) (rise u (item_normal y) d))

-- the forms whose signs tell what lies over a direction
abbrev pub rise_forms : Map → Vector → List Vector
rise_forms M u = gather (λ (x : Item). gather (λ (g : Vector). rise_form u (item_normal x) g ∷ []) (forms M)) (items M)

-- these forms, and the forms whose signs tell on which side of each svertex's meridian a direction lies
abbrev pub meridians : Map → Vector → List Vector
meridians M u = gather (λ v. cross u v.dir ∷ []) M.svertices ++ rise_forms M u

-- all forms that matter for what lies over a direction
abbrev pub over_forms : Map → Vector → List Vector
over_forms M u = forms M ++ meridians M u

-- the first sign that isn't nought
abbrev pub first_sign : Sign → Sign → Sign
first_sign minus s = minus
first_sign nought s = s
first_sign plus s = plus

-- on each form d has the sign of a, or b's sign where a's is nought, or c's sign where both are nought
abbrev pub Stands : List Vector → Vector → Vector → Vector → Vector → Type 0
Stands gs a b c d = (g : Vector) → Lies gs g → sign (dot g d) ≡ first_sign (sign (dot g a)) (first_sign (sign (dot g b)) (sign (dot g c)))
