-- Sphere maps that are the turned images of others.
use Rattle.std.specs.Prelude.{◌≡◌, ℕ, Bool, cond, Option, Some, None}
use Rattle.nef_space.specs.Vectors.{IsNormal}
use Rattle.law_geometry.specs.sphere.Prelude.{IsAt, MapVertex, Arc, MapSloop, Item, arc_item, sloop_item, Map, items, item_normal, InOrder, ArcBelow}
use Rattle.law_geometry.specs.turns.Turned.{turned_vector, differ, is_odd, signed}

abbrev pub turned_svertex : ℕ → MapVertex → MapVertex
turned_svertex k v = record { dir = turned_vector k v.dir; mark = v.mark; around = v.around }

-- b is the turned arc a: with the normal opposite by `flip`, the sides are swapped; with an odd turn or `flip`, not
-- both, the ends are. `vertex` gives the new numbers of svertices.
pub record IsTurnedArc (k : ℕ) (vertex : ℕ → ℕ) (flip : Bool) (a b : Arc) : Type 0 where
  pub normal : b.normal ≡ signed flip (turned_vector k a.normal)
  pub source : b.source ≡ vertex (cond (differ (is_odd k) flip) a.target a.source)
  pub target : b.target ≡ vertex (cond (differ (is_odd k) flip) a.source a.target)
  pub pos : b.pos ≡ cond flip a.neg a.pos
  pub mark : b.mark ≡ a.mark
  pub neg : b.neg ≡ cond flip a.pos a.neg

pub record IsTurnedSloop (k : ℕ) (flip : Bool) (l m : MapSloop) : Type 0 where
  pub normal : m.normal ≡ signed flip (turned_vector k l.normal)
  pub pos : m.pos ≡ cond flip l.neg l.pos
  pub mark : m.mark ≡ l.mark
  pub neg : m.neg ≡ cond flip l.pos l.neg

abbrev pub IsTurnedItem : ℕ → (ℕ → ℕ) → Bool → Item → Item → Type 0
IsTurnedItem k vertex flip (arc_item a) (arc_item b) = IsTurnedArc k vertex flip a b
IsTurnedItem k vertex flip (arc_item a) (sloop_item m) = ⊥
IsTurnedItem k vertex flip (sloop_item l) (arc_item b) = ⊥
IsTurnedItem k vertex flip (sloop_item l) (sloop_item m) = IsTurnedSloop k flip l m

-- N has the turned items of M, each once, in any order, with normals in normal form, and the mark and ground of M
pub record IsTurnedMap (k : ℕ) (M N : Map) : Type 0 where
  -- the number in N of each svertex and item of M, and the number in M of each svertex and item of N
  pub vertex : ℕ → ℕ
  pub vertex_back : ℕ → ℕ
  pub item : ℕ → ℕ
  pub item_back : ℕ → ℕ
  -- whether the normal of an item is opposite to its turned normal, by the item's number in M
  pub flip : ℕ → Bool
  pub svertices : (i : ℕ) (v : MapVertex) → IsAt M.svertices i v → IsAt N.svertices (vertex i) (turned_svertex k v)
  pub svertices_from : (j : ℕ) (u : MapVertex) → IsAt N.svertices j u → (v : MapVertex) × IsAt M.svertices (vertex_back j) v × (vertex (vertex_back j) ≡ j)
  pub items_there : (i : ℕ) (x : Item) → IsAt (items M) i x → (y : Item) × IsAt (items N) (item i) y × IsTurnedItem k vertex (flip i) x y
  pub items_from : (j : ℕ) (y : Item) → IsAt (items N) j y → (x : Item) × IsAt (items M) (item_back j) x × (item (item_back j) ≡ j)
  pub normals : (j : ℕ) (y : Item) → IsAt (items N) j y → IsNormal (item_normal y)
  pub mark : N.mark ≡ M.mark
  pub same_ground : N.ground ≡ M.ground

-- both are none, or both are sloops, m being the turned l
abbrev pub IsTurnedOption : ℕ → Option MapSloop → Option MapSloop → Type 0
IsTurnedOption k None None = Unit {0}
IsTurnedOption k None (Some m) = ⊥
IsTurnedOption k (Some l) None = ⊥
IsTurnedOption k (Some l) (Some m) = (flip : Bool) × IsTurnedSloop k flip l m

-- the lists of N have the turned items of M and no others, in order
pub record HasTurnedLists (k : ℕ) (M N : Map) : Type 0 where
  -- the number in N of each svertex of M
  pub vertex : ℕ → ℕ
  pub svertices : (i : ℕ) (v : MapVertex) → IsAt M.svertices i v → IsAt N.svertices (vertex i) (turned_svertex k v)
  pub svertices_from : (j : ℕ) (u : MapVertex) → IsAt N.svertices j u → (i : ℕ) × (v : MapVertex) × IsAt M.svertices i v × (vertex i ≡ j)
  pub arcs : (i : ℕ) (a : Arc) → IsAt M.arcs i a → (j : ℕ) × (b : Arc) × (flip : Bool) × IsAt N.arcs j b × IsTurnedArc k vertex flip a b
  pub arcs_from : (j : ℕ) (b : Arc) → IsAt N.arcs j b → (i : ℕ) × (a : Arc) × (flip : Bool) × IsAt M.arcs i a × IsTurnedArc k vertex flip a b
  pub sloop : IsTurnedOption k M.sloop N.sloop
  pub normals : (j : ℕ) (y : Item) → IsAt (items N) j y → IsNormal (item_normal y)
  pub arcs_ordered : InOrder ArcBelow N.arcs
  pub mark : N.mark ≡ M.mark
  pub same_ground : N.ground ≡ M.ground
