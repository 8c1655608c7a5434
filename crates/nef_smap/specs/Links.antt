-- Which sides of a map are joined, by what is met first at each join.
use Rattle.std.specs.Prelude.{◌≡◌}
use Rattle.nef_geo.specs.Prelude.{ℕ, length, Option, Some, None, Vector, Label, IsAt}
use Rattle.law_geometry.specs.sphere.Maps.{MapVertex, Arc, MapSloop, Map, sloop_item, items, around_svertex, pos_item, neg_item, whole}
use Rattle.nef_smap.specs.Sides.{sides_of}
use Rattle.nef_smap.specs.SideNumbers.{side_number}
use Rattle.nef_smap.specs.Joined.{BelowFirsts, BelowFirst, ArcFirst, SloopFirst}

-- the number of what is met first: of an item's lower side, or of u, whose number comes after all sides' numbers
abbrev pub met_number : Map → Option ℕ → ℕ
met_number M None = length (sides_of M)
met_number M (Some k) = side_number M (neg_item k)

-- the sides with numbers s and t are joined
pub data IsJoin (M : Map) (u : Vector) (s t : ℕ) : Type 0 where
  join_below : (k : ℕ) (v : MapVertex) → IsAt M.svertices k v → (j : BelowFirsts M u v.dir) → s ≡ met_number M j.left → t ≡ met_number M j.right → IsJoin M u s t
  join_around : (k : ℕ) (v : MapVertex) (m : Label) → IsAt M.svertices k v → v.around ≡ Some m
      → (j : BelowFirst M u v.dir) → s ≡ side_number M (around_svertex k) → t ≡ met_number M j.first → IsJoin M u s t
  join_arc : (k : ℕ) (a : Arc) → IsAt M.arcs k a → (j : ArcFirst M u a) → s ≡ side_number M (pos_item k) → t ≡ met_number M j.first → IsJoin M u s t
  join_sloop : (k : ℕ) (l : MapSloop) → IsAt (items M) k (sloop_item l) → (j : SloopFirst M u l) → s ≡ side_number M (pos_item k) → t ≡ met_number M j.first → IsJoin M u s t
  join_ground : (m : Label) → M.ground ≡ Some m → s ≡ side_number M whole → t ≡ length (sides_of M) → IsJoin M u s t

-- Linked has joins only, and a join for each svertex, each side round a svertex, each item and the ground
pub record AreJoins (M : Map) (u : Vector) (Linked : ℕ → ℕ → Type 0) : Type 0 where
  pub only : (s t : ℕ) → Linked s t → IsJoin M u s t
  pub svertices : (k : ℕ) (v : MapVertex) → IsAt M.svertices k v → (j : BelowFirsts M u v.dir) × Linked (met_number M j.left) (met_number M j.right)
  pub arounds : (k : ℕ) (v : MapVertex) (m : Label) → IsAt M.svertices k v → v.around ≡ Some m
      → (j : BelowFirst M u v.dir) × Linked (side_number M (around_svertex k)) (met_number M j.first)
  pub arcs : (k : ℕ) (a : Arc) → IsAt M.arcs k a → (j : ArcFirst M u a) × Linked (side_number M (pos_item k)) (met_number M j.first)
  pub sloops : (k : ℕ) (l : MapSloop) → IsAt (items M) k (sloop_item l) → (j : SloopFirst M u l) × Linked (side_number M (pos_item k)) (met_number M j.first)
  pub ground : (m : Label) → M.ground ≡ Some m → Linked (side_number M whole) (length (sides_of M))
