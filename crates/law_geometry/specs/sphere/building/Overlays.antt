-- Overlaid stars: the axes of two maps together, and the stars and circle that hold op of both maps' labels.
use Rattle.std.specs.Prelude.{◌≡◌, ◌⊎◌, ℕ, Some, [], IsSome, MatchOption}
use Rattle.nef_space.specs.Vectors.{Vector, IsDirection, cross, opposite, SameDirection}
use Rattle.nef_space.specs.declared.label.Label.{Label}
use Rattle.law_geometry.specs.sphere.cyclic.Arcs.{IsOnCircle}
use Rattle.law_geometry.specs.sphere.Vectors.{IsPrimitive, VectorBelow}
use Rattle.law_geometry.specs.sphere.Prelude.{IsAt, MapVertex, MapSloop, Item, Map, items, item_normal, OnItem, NearLabel, InOrder, Star, StarLabel, ByOp, RawMap, IsWellFormed}

-- d is the direction of a svertex of M
abbrev pub OnSvertex : Map → Vector → Type 0
OnSvertex M d = (k : ℕ) × (v : MapVertex) × IsAt M.svertices k v × SameDirection v.dir d

-- an item of A and an item of B whose normals aren't parallel meet in the direction d
pub record IsItemCrossing (A B : Map) (d : Vector) : Type 0 where
  pub i : ℕ
  pub k : ℕ
  pub x : Item
  pub y : Item
  pub of_a : IsAt (items A) i x
  pub of_b : IsAt (items B) k y
  pub apart : IsDirection (cross (item_normal x) (item_normal y))
  pub on_x : OnItem A x d
  pub on_y : OnItem B y d

-- d is a svertex of A or of B, or a crossing of an item of A with an item of B
abbrev pub IsAxis : Map → Map → Vector → Type 0
IsAxis A B d = OnSvertex A d ⊎ OnSvertex B d ⊎ IsItemCrossing A B d

-- A and B have labels close to d toward e, and op makes m of the two
abbrev pub NearByOp : Map → Map → (Label → Label → Label) → Vector → Vector → Label → Type 0
NearByOp A B op d e m = (k : Label) × (l : Label) × NearLabel A d e k × NearLabel B d e l × (op k l ≡ m)

-- the star t has op of both maps' labels on its axis and close to it
pub record IsMerged (A B : Map) (op : Label → Label → Label) (t : Star) : Type 0 where
  pub star : IsWellFormed t
  pub axis : IsAxis A B t.axis
  pub mark : ByOp A B op t.axis t.mark
  pub labels : (e : Vector) (l : Label) → IsDirection (cross t.axis e) → StarLabel t e l → NearByOp A B op t.axis e l

-- l is the sloop of A or of B, and no axis lies on l
abbrev pub IsLoneSloop : Map → Map → MapSloop → Type 0
IsLoneSloop A B l = ((A.sloop ≡ Some l) ⊎ (B.sloop ≡ Some l)) × ((d : Vector) → IsOnCircle l.normal d → IsAxis A B d → ⊥)

-- the circle l has a lone sloop's normal, and op of both maps' labels on the circle and on each side
pub record IsMergedSloop (A B : Map) (op : Label → Label → Label) (l : MapSloop) : Type 0 where
  pub lone : MapSloop
  pub is_lone : IsLoneSloop A B lone
  pub normal : l.normal ≡ lone.normal
  pub lowest : IsPrimitive l.normal
  pub mark : (d : Vector) → IsOnCircle l.normal d → ByOp A B op d l.mark
  pub pos : (d : Vector) → IsOnCircle l.normal d → NearByOp A B op d l.normal l.pos
  pub neg : (d : Vector) → IsOnCircle l.normal d → NearByOp A B op d (opposite l.normal) l.neg

-- op makes m of the grounds of A and B
abbrev pub IsMergedGround : Map → Map → (Label → Label → Label) → Label → Type 0
IsMergedGround A B op m = (k : Label) × (l : Label) × (A.ground ≡ Some k) × (B.ground ≡ Some l) × (op k l ≡ m)

-- the map has a svertex or a sloop
abbrev pub HasSvertexOrSloop : Map → Type 0
HasSvertexOrSloop M = (M.svertices ≡ [] → ⊥) ⊎ IsSome M.sloop

-- R has a star for each svertex and crossing of A and B, in order, and the lone circle or ground, with op's labels
pub record Raw (R : RawMap) (A B : Map) (op : Label → Label → Label) : Type 0 where
  pub mark : R.mark ≡ op A.mark B.mark
  pub merged : (k : ℕ) (t : Star) → IsAt R.stars k t → IsMerged A B op t
  pub complete : (d : Vector) → IsAxis A B d → (k : ℕ) × (t : Star) × IsAt R.stars k t × SameDirection t.axis d
  pub ordered : InOrder (λ t u. VectorBelow t.axis u.axis) R.stars
  pub circle : MatchOption R.sloop ((l : MapSloop) → IsLoneSloop A B l → ⊥) (IsMergedSloop A B op)
  pub ground : MatchOption R.ground (HasSvertexOrSloop A ⊎ HasSvertexOrSloop B) (IsMergedGround A B op)
