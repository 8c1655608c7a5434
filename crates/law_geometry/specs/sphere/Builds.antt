-- Maps that are built of a labelling: what a builder must show of the built map.
use Rattle.std.specs.Prelude.{◌≡◌, ℕ, ◌≤◌, pos, [], Some, None}
use Rattle.nef_space.specs.Vectors.{Vector, IsDirection, cross, dot, blend, SameDirection, IsNormal}
use Rattle.nef_space.specs.declared.label.Label.{Label}
use Rattle.nef_space.specs.Lists.{IsAt}
use Rattle.law_geometry.specs.sphere.Maps.{MapVertex, Arc, MapSloop, Map, Item, items, item_normal, dir_of, OnItem, ArcBetween, HasArc}
use Rattle.law_geometry.specs.sphere.Labelling.{Near, StraightAt, IsSmooth}

-- close after s on the circle of n, the labels above, on and below this circle are a, m and b
abbrev pub StraightAfter : (Vector → Label → Type 0) → Vector → Label → Label → Label → Vector → Type 0
StraightAfter F n a m b s = (k : ℕ) × ((i : ℕ) → k ≤ i → StraightAt F n a m b (blend i s 1 (cross n s)))

abbrev pub Proper : Label → Label → Label → Type 0
Proper a m b = a ≡ m → b ≡ m → ⊥

pub record IsBuilt (M : Map) (F : Vector → Label → Type 0) : Type 0 where
  -- the svertices are directions where the labels are neither plain nor straight
  pub svertex_dirs : (k : ℕ) (v : MapVertex) → IsAt M.svertices k v → IsDirection v.dir
  pub svertices_apart : (i k : ℕ) (u v : MapVertex) → IsAt M.svertices i u → IsAt M.svertices k v → SameDirection u.dir v.dir → i ≡ k
  pub svertex_marks : (k : ℕ) (v : MapVertex) → IsAt M.svertices k v → F v.dir v.mark
  pub smooth : (d : Vector) → IsDirection d → ((k : ℕ) (v : MapVertex) → IsAt M.svertices k v → SameDirection v.dir d → ⊥) → IsSmooth F d
  -- an arc leaves a svertex along each ray that goes ahead, and ends at the first svertex on its circle
  pub normals : (k : ℕ) (x : Item) → IsAt (items M) k x → IsNormal (item_normal x)
  pub arcs_between : (k : ℕ) (a : Arc) → IsAt M.arcs k a → ArcBetween M a
  pub no_svertex_on_item : (i k : ℕ) (v : MapVertex) (x : Item) → IsAt M.svertices i v → IsAt (items M) k x → OnItem M x v.dir → ⊥
  pub arc_labels : (k : ℕ) (a : Arc) → IsAt M.arcs k a → StraightAfter F a.normal a.pos a.mark a.neg (dir_of M.svertices a.source)
  pub arc_proper : (k : ℕ) (a : Arc) → IsAt M.arcs k a → Proper a.pos a.mark a.neg
  pub arcs_apart : (i k : ℕ) (a b : Arc) → IsAt M.arcs i a → IsAt M.arcs k b → SameDirection a.normal b.normal → a.source ≡ b.source → i ≡ k
  pub arcs_all : (k : ℕ) (v : MapVertex) (n : Vector) (a m b : Label) → IsAt M.svertices k v → IsNormal n → dot n v.dir ≡ pos 0 → Proper a m b → StraightAfter F n a m b v.dir
      → (i : ℕ) × (c : Arc) × IsAt M.arcs i c × (c.source ≡ k) × SameDirection n c.normal
  -- the sloop is the circle off all svertices on which, and beside which, the labels aren't all the same
  pub sloop_labels : (l : MapSloop) → M.sloop ≡ Some l → (y : Vector) × IsDirection y × StraightAt F l.normal l.pos l.mark l.neg y
  pub sloop_proper : (l : MapSloop) → M.sloop ≡ Some l → Proper l.pos l.mark l.neg
  pub sloop_all : (n y : Vector) (a m b : Label) → IsNormal n → IsDirection y → ((k : ℕ) (v : MapVertex) → IsAt M.svertices k v → dot n v.dir ≡ pos 0 → ⊥) → Proper a m b → StraightAt F n a m b y
      → (l : MapSloop) × (M.sloop ≡ Some l) × SameDirection n l.normal
  -- the labels round svertices without arcs, and the label of the ground, for a map without items
  pub around_lone : (k : ℕ) (v : MapVertex) → IsAt M.svertices k v → (HasArc M k → ⊥) → (m : Label) × (v.around ≡ Some m)
  pub around_not : (k : ℕ) (v : MapVertex) → IsAt M.svertices k v → HasArc M k → v.around ≡ None
  pub around_near : (k : ℕ) (v : MapVertex) (m : Label) (e : Vector) → IsAt M.svertices k v → v.around ≡ Some m → IsDirection (cross v.dir e) → Near F v.dir e m
  pub ground_alone : M.svertices ≡ [] → M.sloop ≡ None → (m : Label) × (M.ground ≡ Some m)
  pub ground_not : (m : Label) → M.ground ≡ Some m → (M.svertices ≡ []) × (M.sloop ≡ None)
  pub ground_label : (m : Label) (d : Vector) → M.ground ≡ Some m → IsDirection d → F d m

-- no svertex of M is a direction where F is plain or straight
abbrev pub NoneSmooth : Map → (Vector → Label → Type 0) → Type 0
NoneSmooth M F = (k : ℕ) (v : MapVertex) → IsAt M.svertices k v → IsSmooth F v.dir → ⊥
