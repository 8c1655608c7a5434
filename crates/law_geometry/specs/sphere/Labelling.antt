-- Labellings, which the signs of finitely many forms determine, and maps that agree with a labelling piece by piece.
use Rattle.std.specs.Prelude.{◌≡◌, ◌≤◌}
use Rattle.nef_space.specs.Prelude.{ℕ, pos, List, Some, sign, Vector, IsDirection, cross, dot, blend, IsAt}
use Rattle.nef_space.specs.declared.label.Label.{Label}
use Rattle.law_geometry.specs.sphere.Maps.{MapVertex, Map, Item, items, item_normal, item_pos, item_mark, item_neg, OnItem, IsFree, MapLabel}
use Rattle.law_geometry.specs.sphere.Forms.{SameSigns}
use Rattle.law_geometry.specs.sphere.Least.{by_side}

-- each direction has one label by F, and the signs of the forms gs determine this label
pub record Labelling (gs : List Vector) (F : Vector → Label → Type 0) : Type 0 where
  pub exists : (d : Vector) → IsDirection d → (m : Label) × F d m
  pub one : (d : Vector) (m n : Label) → IsDirection d → F d m → F d n → m ≡ n
  pub cells : (d e : Vector) (m : Label) → IsDirection d → IsDirection e → SameSigns gs d e → F d m → F e m

abbrev pub Near : (Vector → Label → Type 0) → Vector → Vector → Label → Type 0
Near F d e m = (n : ℕ) × ((k : ℕ) → n ≤ k → F (blend k d 1 e) m)

-- F gives all directions close to d the label of d
abbrev pub Plain : (Vector → Label → Type 0) → Vector → Type 0
Plain F d = (m : Label) → F d m → (e : Vector) → IsDirection (cross d e) → Near F d e m

-- at each svertex, item and free direction of the map, and close to each, F gives the label that the map has there
pub record Agrees (M : Map) (F : Vector → Label → Type 0) : Type 0 where
  pub svertices : (k : ℕ) (v : MapVertex) → IsAt M.svertices k v → F v.dir v.mark
  pub marks : (k : ℕ) (x : Item) (d : Vector) → IsAt (items M) k x → OnItem M x d → F d (item_mark x)
  pub beside : (k : ℕ) (x : Item) (d e : Vector) → IsAt (items M) k x → OnItem M x d → IsDirection (cross d e) → Near F d e (by_side (item_pos x) (item_mark x) (item_neg x) (sign (dot (item_normal x) e)))
  pub lone : (k : ℕ) (v : MapVertex) (m : Label) (e : Vector) → IsAt M.svertices k v → v.around ≡ Some m → IsDirection (cross v.dir e) → Near F v.dir e m
  pub free : (d : Vector) → IsFree M d → Plain F d
  pub ground : (m : Label) (d : Vector) → M.ground ≡ Some m → IsDirection d → F d m

-- d has a label in A and a label in B, and op makes m of the two
abbrev pub ByOp : Map → Map → (Label → Label → Label) → Vector → Label → Type 0
ByOp A B op d m = (k : Label) × (l : Label) × MapLabel A d k × MapLabel B d l × (op k l ≡ m)

-- F gives d and all directions close to d the label m
pub record PlainAt (F : Vector → Label → Type 0) (d : Vector) (m : Label) : Type 0 where
  pub at_d : F d m
  pub near : (e : Vector) → Near F d e m

-- d lies in the plane of n, and close to d the labels above, in and below this plane are a, m and b
pub record StraightAt (F : Vector → Label → Type 0) (n : Vector) (a m b : Label) (d : Vector) : Type 0 where
  pub level : dot n d ≡ pos 0
  pub at_d : F d m
  pub near : (e : Vector) → Near F d e (by_side a m b (sign (dot n e)))

-- close to d, the labels by F are plain or straight
pub data IsSmooth (F : Vector → Label → Type 0) (d : Vector) : Type 0 where
  plain : (m : Label) → PlainAt F d m → IsSmooth F d
  straight : (n : Vector) (a m b : Label) → IsDirection n → StraightAt F n a m b d → IsSmooth F d
