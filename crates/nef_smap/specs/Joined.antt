-- What has to hold of the labels of a map's sides so that two sides that see one direction have one label.
use Rattle.std.specs.Prelude.{◌≡◌, ◌<ℤ◌}
use Rattle.nef_geo.specs.Prelude.{ℕ, pos, Option, Some, None, Vector, dot, cross, triple, opposite, Label, IsAt}
use Rattle.nef_space.specs.declared.label.Label.TheVariants.{Out}
use Rattle.law_geometry.specs.sphere.cyclic.Arcs.{IsOnCircle}
use Rattle.law_geometry.specs.sphere.Maps.{MapVertex, Arc, MapSloop, Map, sloop_item, items, dir_of, Side, around_svertex, pos_item, neg_item, whole}
use Rattle.nef_smap.specs.Above.{IsFirst, over_forms, Stands}

-- the label of what is met first: the label of an item's lower side, or the label of u
abbrev pub met : (Side → Label) → Label → Option ℕ → Label
met G top None = top
met G top (Some k) = G (neg_item k)

-- r is what lies over all directions close to a, toward b and there toward c
abbrev pub FirstNear : Map → Vector → Vector → Vector → Vector → Option ℕ → Type 0
FirstNear M u a b c r = (d : Vector) → Stands (over_forms M u) a b c d → IsFirst M u d r

-- what lies over the directions just below w, on both sides of w's meridian
pub record BelowFirsts (M : Map) (u w : Vector) : Type 0 where
  pub aside : Vector
  pub off : dot (cross u w) aside ≡ pos 0 → ⊥
  pub left : Option ℕ
  pub right : Option ℕ
  pub left_first : FirstNear M u w (opposite u) aside left
  pub right_first : FirstNear M u w (opposite u) (opposite aside) right

-- what lies over the directions just below w, on one side of w's meridian
pub record BelowFirst (M : Map) (u w : Vector) : Type 0 where
  pub aside : Vector
  pub off : dot (cross u w) aside ≡ pos 0 → ⊥
  pub first : Option ℕ
  pub is_first : FirstNear M u w (opposite u) aside first

-- what lies over the directions close to an arc's source, along the arc and then up
pub record ArcFirst (M : Map) (u : Vector) (a : Arc) : Type 0 where
  pub along : Vector
  pub level : dot a.normal along ≡ pos 0
  pub forward : pos 0 <ℤ triple a.normal (dir_of M.svertices a.source) along
  pub first : Option ℕ
  pub is_first : FirstNear M u (dir_of M.svertices a.source) along u first

-- what lies over a direction of a sloop
pub record SloopFirst (M : Map) (u : Vector) (l : MapSloop) : Type 0 where
  pub point : Vector
  pub on : IsOnCircle l.normal point
  pub aside : Vector
  pub off : dot (cross u point) aside ≡ pos 0 → ⊥
  pub first : Option ℕ
  pub is_first : FirstNear M u point u aside first

-- what the sides of a map are joined with
pub record Firsts (M : Map) (u : Vector) : Type 0 where
  pub svertices : (k : ℕ) (v : MapVertex) → IsAt M.svertices k v → BelowFirsts M u v.dir
  pub arounds : (k : ℕ) (v : MapVertex) (m : Label) → IsAt M.svertices k v → v.around ≡ Some m → BelowFirst M u v.dir
  pub arcs : (k : ℕ) (a : Arc) → IsAt M.arcs k a → ArcFirst M u a
  pub sloops : (k : ℕ) (l : MapSloop) → IsAt (items M) k (sloop_item l) → SloopFirst M u l

-- the labels agree at all joins: below each svertex, round a svertex, and above each item; and none is Out
pub record Joins (M : Map) (u : Vector) (G : Side → Label) (top : Label) (F : Firsts M u) : Type 0 where
  pub below : (k : ℕ) (v : MapVertex) (a : IsAt M.svertices k v) → (let j = F.svertices k v a in met G top j.left ≡ met G top j.right)
  pub around : (k : ℕ) (v : MapVertex) (m : Label) (a : IsAt M.svertices k v) (q : v.around ≡ Some m) → (let j = F.arounds k v m a q in met G top j.first ≡ G (around_svertex k))
  pub arcs : (k : ℕ) (a : Arc) (h : IsAt M.arcs k a) → (let j = F.arcs k a h in met G top j.first ≡ G (pos_item k))
  pub sloops : (k : ℕ) (l : MapSloop) (h : IsAt (items M) k (sloop_item l)) → (let j = F.sloops k l h in met G top j.first ≡ G (pos_item k))
  pub ground : (m : Label) → M.ground ≡ Some m → G whole ≡ top
  pub never_out : (o : Side) → G o ≡ Out → ⊥
