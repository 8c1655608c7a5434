-- Raw maps, which stars at their axes give, and stars that show the labels of all directions.
use Rattle.std.specs.Prelude.{◌≡◌, ℕ, suc, pos, List, [], ◌∷◌, length, Option, Some, None, ◌⊎◌, true, false}
use Rattle.nef_space.specs.Vectors.{Vector, IsDirection, cross, dot, SameDirection, IsNormal}
use Rattle.nef_space.specs.declared.label.Label.{Label}
use Rattle.law_geometry.specs.sphere.cyclic.Arcs.{IsOnCircle}
use Rattle.law_geometry.specs.sphere.Vectors.{IsPrimitive, VectorBelow}
use Rattle.nef_space.specs.Lists.{IsAt}
use Rattle.law_geometry.specs.sphere.Maps.{MapSloop}
use Rattle.law_geometry.specs.sphere.Forms.{SameSigns}
use Rattle.law_geometry.specs.sphere.Least.{InOrder}
use Rattle.law_geometry.specs.sphere.Stars.{Ray, Star, LeavesAxis, StarLabel}
use Rattle.law_geometry.specs.sphere.Labelling.{Near, StraightAt, IsSmooth}
use Rattle.law_geometry.specs.sphere.Builds.{Proper}

-- stars at directions that may be svertices, a circle that no axis lies on, or the label of a ground alone
pub record RawMap : Type 0 where
  pub mark : Label
  pub stars : List Star
  pub sloop : Option MapSloop
  pub ground : Option Label

-- the relation of directions and labels that the function L gives
abbrev pub Of : (Vector → Label) → Vector → Label → Type 0
Of L d m = L d ≡ m

-- directions with the same signs on the forms gs have the same label by L
abbrev pub IsLabelling : List Vector → (Vector → Label) → Type 0
IsLabelling gs L = (d e : Vector) → IsDirection d → IsDirection e → SameSigns gs d e → L d ≡ L e

-- the number of sectors: one for each ray, and one if there is no ray
abbrev pub sector_count : List Ray → ℕ
sector_count [] = 1
sector_count (r ∷ rs) = length (r ∷ rs)

-- the order of rays by normal, and of two rays with one normal the ray ahead first
abbrev pub RayBelow : Ray → Ray → Type 0
RayBelow q r = VectorBelow q.normal r.normal ⊎ ((q.normal ≡ r.normal) × (q.ahead ≡ true) × (r.ahead ≡ false))

-- a star with rays off the axis, the least ray first, and one label in each direction; which labels is left open
pub record IsWellFormed (t : Star) : Type 0 where
  pub axis : IsDirection t.axis
  pub axis_lowest : IsPrimitive t.axis
  pub rays : (k : ℕ) (r : Ray) → IsAt t.rays k r → LeavesAxis t r
  pub rays_lowest : (k : ℕ) (r : Ray) → IsAt t.rays k r → IsPrimitive r.normal
  pub least_first : (k : ℕ) (q r : Ray) → IsAt t.rays 0 q → IsAt t.rays (suc k) r → RayBelow q r
  pub as_many : length t.sectors ≡ sector_count t.rays
  pub each : (e : Vector) → IsDirection (cross t.axis e) → (l : Label) × StarLabel t e l
  pub one : (e : Vector) (l m : Label) → IsDirection (cross t.axis e) → StarLabel t e l → StarLabel t e m → l ≡ m

-- the star's mark is L's label of the axis, and the star's labels are L's labels close to the axis
pub record ShowsLabels (t : Star) (L : Vector → Label) : Type 0 where
  pub star : IsWellFormed t
  pub mark : L t.axis ≡ t.mark
  pub labels : (e : Vector) (l : Label) → IsDirection (cross t.axis e) → StarLabel t e l → Near (Of L) t.axis e l

-- no star of ts has its axis on the circle of n
abbrev pub IsBare : List Star → Vector → Type 0
IsBare ts n = (k : ℕ) (t : Star) → IsAt ts k t → dot n t.axis ≡ pos 0 → ⊥

-- stars, circle and ground of R show L: L is plain or straight off the axes, and the circle has its labels all along
pub record IsRawOf (R : RawMap) (L : Vector → Label) : Type 0 where
  pub stars : (k : ℕ) (t : Star) → IsAt R.stars k t → ShowsLabels t L
  pub ordered : InOrder (λ t u. VectorBelow t.axis u.axis) R.stars
  pub smooth : (d : Vector) → IsDirection d → ((k : ℕ) (t : Star) → IsAt R.stars k t → SameDirection t.axis d → ⊥) → IsSmooth (Of L) d
  pub sloop_normal : (l : MapSloop) → R.sloop ≡ Some l → IsNormal l.normal
  pub sloop_lowest : (l : MapSloop) → R.sloop ≡ Some l → IsPrimitive l.normal
  pub sloop_bare : (l : MapSloop) → R.sloop ≡ Some l → IsBare R.stars l.normal
  pub sloop_labels : (l : MapSloop) (y : Vector) → R.sloop ≡ Some l → IsOnCircle l.normal y → StraightAt (Of L) l.normal l.pos l.mark l.neg y
  pub sloop_all : (n y : Vector) (a m b : Label) → IsNormal n → IsBare R.stars n → IsOnCircle n y → Proper a m b → StraightAt (Of L) n a m b y
      → (l : MapSloop) × (R.sloop ≡ Some l) × SameDirection n l.normal
  pub ground_alone : R.stars ≡ [] → R.sloop ≡ None → (m : Label) × (R.ground ≡ Some m)
  pub ground_not : (m : Label) → R.ground ≡ Some m → (R.stars ≡ []) × (R.sloop ≡ None)
  pub ground_label : (m : Label) (d : Vector) → R.ground ≡ Some m → IsDirection d → L d ≡ m
