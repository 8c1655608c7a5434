-- Sphere maps: svertices, arcs, sloops, sides and what a side sees, the labels of directions, and valid maps.
use Rattle.std.specs.Prelude.{◌≡◌, ℕ, zero, suc, ◌<◌, ◌≤◌, pos, ◌<ℤ◌, List, [], ◌∷◌, ◌⊎◌, Option, Some, None, slice_get}
use Rattle.nef_space.specs.Vectors.{Vector, IsDirection, vector, dot, SameDirection, IsOpposite, IsNormal, blend}
use Rattle.nef_space.specs.declared.label.Label.{Label}
use Rattle.nef_space.specs.Lists.{IsAt}
use Rattle.law_geometry.specs.sphere.cyclic.Arcs.{IsOnCircle, IsStrictlyOn}

-- ---- the parts of a map
pub record MapVertex : Type 0 where
  pub dir : Vector
  pub mark : Label
  pub around : Option Label

pub record Arc : Type 0 where
  pub normal : Vector
  pub source : ℕ
  pub target : ℕ
  pub pos : Label
  pub mark : Label
  pub neg : Label

pub record MapSloop : Type 0 where
  pub normal : Vector
  pub pos : Label
  pub mark : Label
  pub neg : Label

pub record Map : Type 0 where
  pub mark : Label
  pub svertices : List MapVertex
  pub arcs : List Arc
  pub sloop : Option MapSloop
  pub ground : Option Label

-- an item is an arc or a sloop
pub data Item : Type 0 where
  arc_item : Arc → Item
  sloop_item : MapSloop → Item

abbrev pub sloop_items : Option MapSloop → List Item
sloop_items None = []
sloop_items (Some l) = sloop_item l ∷ []

abbrev pub items_then : List Arc → Option MapSloop → List Item
items_then [] o = sloop_items o
items_then (a ∷ as') o = arc_item a ∷ items_then as' o

-- the items of a map by number: the arcs, then the sloop
abbrev pub items : Map → List Item
items M = items_then M.arcs M.sloop

abbrev pub item_normal : Item → Vector
item_normal (arc_item a) = a.normal
item_normal (sloop_item l) = l.normal

abbrev pub item_pos : Item → Label
item_pos (arc_item a) = a.pos
item_pos (sloop_item l) = l.pos

abbrev pub item_mark : Item → Label
item_mark (arc_item a) = a.mark
item_mark (sloop_item l) = l.mark

abbrev pub item_neg : Item → Label
item_neg (arc_item a) = a.neg
item_neg (sloop_item l) = l.neg

abbrev pub dir_of : List MapVertex → ℕ → Vector
dir_of [] k = vector (pos 0) (pos 0) (pos 0)
dir_of (v ∷ vs) zero = v.dir
dir_of (v ∷ vs) (suc k) = dir_of vs k

-- d lies strictly on the arc, or anywhere on the sloop
abbrev pub OnItem : Map → Item → Vector → Type 0
OnItem M (arc_item a) d = IsStrictlyOn a.normal (dir_of M.svertices a.source) (dir_of M.svertices a.target) d
OnItem M (sloop_item l) d = IsOnCircle l.normal d

-- d is a direction that lies on no svertex and on no item
pub record IsFree (M : Map) (d : Vector) : Type 0 where
  pub direction : IsDirection d
  pub off_svertices : (k : ℕ) (v : MapVertex) → IsAt M.svertices k v → SameDirection v.dir d → ⊥
  pub off_items : (k : ℕ) (x : Item) → IsAt (items M) k x → OnItem M x d → ⊥

-- ---- sides and sight
-- a side of a map: round the svertex, or on either side of the item, with this number, or the ground
pub data Side : Type 0 where
  around_svertex : ℕ → Side
  pos_item : ℕ → Side
  neg_item : ℕ → Side
  whole : Side

-- the map M has the side, and m is the side's label
abbrev pub HasSide : Map → Side → Label → Type 0
HasSide M (around_svertex k) m = (v : MapVertex) × IsAt M.svertices k v × (v.around ≡ Some m)
HasSide M (pos_item k) m = (x : Item) × IsAt (items M) k x × (item_pos x ≡ m)
HasSide M (neg_item k) m = (x : Item) × IsAt (items M) k x × (item_neg x ≡ m)
HasSide M whole m = M.ground ≡ Some m

-- all directions strictly between the free direction a and the direction b on the short way are free
pub record IsClear (M : Map) (a b : Vector) : Type 0 where
  pub start : IsFree M a
  pub direction : IsDirection b
  pub short : IsOpposite a b → ⊥
  pub between : (i j : ℕ) → 0 < i → 0 < j → IsFree M (blend i a j b)

-- y lies on the svertex or the item of the side, and a lies on this side of the item
abbrev pub Reaches : Map → Side → Vector → Vector → Type 0
Reaches M (around_svertex k) a y = (v : MapVertex) × IsAt M.svertices k v × SameDirection v.dir y
Reaches M (pos_item k) a y = (x : Item) × IsAt (items M) k x × OnItem M x y × (pos 0 <ℤ dot (item_normal x) a)
Reaches M (neg_item k) a y = (x : Item) × IsAt (items M) k x × OnItem M x y × (dot (item_normal x) a <ℤ pos 0)
Reaches M whole a y = Unit {0}

-- the side sees the free direction d on a short way from d to y, or on two short ways that turn at c
pub data Sees (M : Map) (o : Side) (d : Vector) : Type 0 where
  directly : (y : Vector) → IsClear M d y → Reaches M o d y → Sees M o d
  by_way_of : (c y : Vector) → IsClear M d c → IsClear M c y → Reaches M o c y → Sees M o d

-- some side of the map that sees d has the label m
pub record SeenAs (M : Map) (d : Vector) (m : Label) : Type 0 where
  pub side : Side
  pub has : HasSide M side m
  pub sees : Sees M side d

-- d has the label m: the mark of the svertex or item that d lies on, or the label of a side that sees d
pub data MapLabel (M : Map) (d : Vector) (m : Label) : Type 0 where
  at_svertex : (k : ℕ) (v : MapVertex) → IsAt M.svertices k v → SameDirection v.dir d → v.mark ≡ m → MapLabel M d m
  on_item : (k : ℕ) (x : Item) → IsAt (items M) k x → OnItem M x d → item_mark x ≡ m → MapLabel M d m
  seen : SeenAs M d m → MapLabel M d m

abbrev pub NearLabel : Map → Vector → Vector → Label → Type 0
NearLabel M d e m = (n : ℕ) × ((k : ℕ) → n ≤ k → MapLabel M (blend k d 1 e) m)

-- ---- validity
-- there is one direction that both sides see
abbrev pub SeeOne : Map → Side → Side → Type 0
SeeOne M o p = (d : Vector) × Sees M o d × Sees M p d

-- a chain of sides, of which each sees a direction that the next one sees too, so all bound one sface
pub data InOneSface (M : Map) : Side → Side → Type 0 where
  here : (o : Side) → InOneSface M o o
  link : (o p q : Side) (m : Label) → HasSide M p m → SeeOne M o p → InOneSface M p q → InOneSface M o q

abbrev pub HasArc : Map → ℕ → Type 0
HasArc M k = (i : ℕ) × (a : Arc) × IsAt M.arcs i a × ((a.source ≡ k) ⊎ (a.target ≡ k))

-- source and target of the arc are svertices, or one svertex, on the circle of the arc's normal
pub record ArcBetween (M : Map) (a : Arc) : Type 0 where
  pub source : MapVertex
  pub target : MapVertex
  pub has_source : IsAt M.svertices a.source source
  pub has_target : IsAt M.svertices a.target target
  pub level_source : dot a.normal source.dir ≡ pos 0
  pub level_target : dot a.normal target.dir ≡ pos 0

-- the parts of the map fit together; only labels, the orders of lists and the sizes of numbers are left open
pub record Shaped (M : Map) : Type 0 where
  pub svertex_dirs : (k : ℕ) (v : MapVertex) → IsAt M.svertices k v → IsDirection v.dir
  pub svertices_apart : (i k : ℕ) (u v : MapVertex) → IsAt M.svertices i u → IsAt M.svertices k v → SameDirection u.dir v.dir → i ≡ k
  pub normals : (k : ℕ) (x : Item) → IsAt (items M) k x → IsNormal (item_normal x)
  pub arcs_between : (k : ℕ) (a : Arc) → IsAt M.arcs k a → ArcBetween M a
  pub no_svertex_on_item : (i k : ℕ) (v : MapVertex) (x : Item) → IsAt M.svertices i v → IsAt (items M) k x → OnItem M x v.dir → ⊥
  pub no_items_meet : (i k : ℕ) (x y : Item) (d : Vector) → IsAt (items M) i x → IsAt (items M) k y → OnItem M x d → OnItem M y d → i ≡ k
  pub around_lone : (k : ℕ) (v : MapVertex) → IsAt M.svertices k v → (HasArc M k → ⊥) → (m : Label) × (v.around ≡ Some m)
  pub around_not : (k : ℕ) (v : MapVertex) → IsAt M.svertices k v → HasArc M k → v.around ≡ None
  pub ground_alone : M.svertices ≡ [] → M.sloop ≡ None → (m : Label) × (M.ground ≡ Some m)
  pub ground_not : (m : Label) → M.ground ≡ Some m → (M.svertices ≡ []) × (M.sloop ≡ None)

-- a map whose parts fit, with one label for each sface; orders of lists and sizes of numbers are left open
pub record Valid (M : Map) : Type 0 where
  pub shaped : Shaped M
  pub one_label : (o p : Side) (k l : Label) → HasSide M o k → HasSide M p l → InOneSface M o p → k ≡ l
