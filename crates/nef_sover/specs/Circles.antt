-- Circles that no svertex of a map lies on and no item crosses.
use Rattle.std.specs.Prelude.{◌≡◌}
use Rattle.nef_geo.specs.Prelude.{ℕ, pos, List, Option, Some, normal_limit, Label, vector_of}
use Rattle.std.specs.List.{Contains}
use Rattle.nef_space.specs.Vectors.{Vector, IsAtMost, IsNormal, IsZero, cross, dot, opposite}
use Rattle.nef_geo.specs.declared.dir.Dir.{Dir}
use Rattle.law_geometry.specs.sphere.cyclic.Arcs.{IsOnCircle}
use Rattle.law_geometry.specs.sphere.Prelude.{IsAt, MapVertex, MapSloop, Item, Map, items, item_normal, OnItem, MapLabel, NearLabel, ByOp}
use Rattle.law_geometry.specs.sphere.building.Overlays.{IsLoneSloop, NearByOp}
use Rattle.nef_smap.specs.declared.map.SLoop.{SLoop}
use Rattle.nef_sover.specs.declared.axes.Axis.{Axis}

-- no axis lies on the circle of n
abbrev pub AreOff : List Axis → Vector → Type 0
AreOff xs n = (e : Axis) → Contains xs e → dot n (vector_of e.dir) ≡ pos 0 → ⊥

-- n is the normal of the sloop, on which no axis lies
abbrev pub IsBareNormal : Option SLoop → List Axis → Dir → Type 0
IsBareNormal o xs n = (l : SLoop) × (o ≡ Some l) × (l.normal ≡ n) × AreOff xs (vector_of n)

-- no svertex of the map lies on the circle of n, and no item crosses this circle
pub record IsUncrossed (M : Map) (n : Vector) : Type 0 where
  pub svertices : (k : ℕ) (v : MapVertex) → IsAt M.svertices k v → dot n v.dir ≡ pos 0 → ⊥
  pub items : (k : ℕ) (x : Item) (d : Vector) → IsAt (items M) k x → OnItem M x d → dot n d ≡ pos 0 → IsZero (cross n (item_normal x))

-- l has the normal n, and the map's labels all along the circle of n and on both its sides
pub record HasCircleLabels (M : Map) (n : Vector) (l : SLoop) : Type 0 where
  pub mark : (d : Vector) → IsOnCircle n d → MapLabel M d l.mark
  pub pos : (d : Vector) → IsOnCircle n d → NearLabel M d n l.pos
  pub neg : (d : Vector) → IsOnCircle n d → NearLabel M d (opposite n) l.neg

-- l has the operation's labels of both maps all along the circle of n and on both its sides
pub record HasOpLabels (A B : Map) (op : Label → Label → Label) (n : Vector) (l : SLoop) : Type 0 where
  pub mark : (d : Vector) → IsOnCircle n d → ByOp A B op d l.mark
  pub pos : (d : Vector) → IsOnCircle n d → NearByOp A B op d n l.pos
  pub neg : (d : Vector) → IsOnCircle n d → NearByOp A B op d (opposite n) l.neg

-- n is the normal of a sloop of A or B on which no axis lies
pub record IsLoneNormal (A B : Map) (n : Dir) : Type 0 where
  pub lone : MapSloop
  pub is_lone : IsLoneSloop A B lone
  pub is_normal : vector_of n ≡ lone.normal
  pub small : IsAtMost normal_limit (vector_of n)
  pub normal : IsNormal (vector_of n)
