-- The rays of a svertex, each an end of an arc, and the sectors between neighbouring rays.
use Rattle.std.specs.Prelude.{◌≡◌, ℕ, ◌⊎◌}
use Rattle.std.proofs.Common.{inl, inr}
use Rattle.nef_space.specs.Vectors.{Vector, IsDirection, cross, opposite, SameDirection}
use Rattle.law_geometry.specs.sphere.cyclic.Arcs.{Passes}
use Rattle.nef_space.specs.Lists.{IsAt}
use Rattle.law_geometry.specs.sphere.Maps.{MapVertex, Arc, Map, Side, around_svertex, pos_item, neg_item, HasArc}

-- a ray of svertex k: an arc of M that begins or ends at this svertex
pub record ArcRay (M : Map) (k : ℕ) : Type 0 where
  pub number : ℕ
  pub arc : Arc
  pub listed : IsAt M.arcs number arc
  pub end : (arc.source ≡ k) ⊎ (arc.target ≡ k)

-- the vector to the left when an arc's end is left along the arc: the normal at the source, its opposite at the target
abbrev pub end_left : {A B : Type 0} → Arc → A ⊎ B → Vector
end_left a (inl e) = a.normal
end_left a (inr e) = opposite a.normal

abbrev pub end_side : {A B : Type 0} → ℕ → A ⊎ B → Side
end_side i (inl e) = pos_item i
end_side i (inr e) = neg_item i

-- the direction to the left of a ray, seen from the svertex, and the arc's side on that left
abbrev pub ray_left : {M : Map} {k : ℕ} → ArcRay M k → Vector
ray_left r = end_left r.arc r.end

abbrev pub ray_side : {M : Map} {k : ℕ} → ArcRay M k → Side
ray_side r = end_side r.number r.end

-- no ray of svertex k, whose direction is v, leaves the svertex toward w
abbrev pub Unrayed : Map → ℕ → Vector → Vector → Type 0
Unrayed M k v w = (r : ArcRay M k) → SameDirection (ray_left r) (cross v w) → ⊥

-- no ray of svertex k lies strictly between the ray q and w, counterclockwise about the direction v of the svertex
abbrev pub IsLastRay : (M : Map) (k : ℕ) → Vector → Vector → ArcRay M k → Type 0
IsLastRay M k v w q = (r : ArcRay M k) → Passes v (ray_left q) (ray_left r) (cross v w) → ⊥

-- o is the side after the last ray before w, counterclockwise about v, or round the svertex if no arc ends at svertex k
abbrev pub IsLastSide : Map → ℕ → Vector → Vector → Side → Type 0
IsLastSide M k v w o = ((HasArc M k → ⊥) × (o ≡ around_svertex k)) ⊎ (q : ArcRay M k) × IsLastRay M k v w q × (o ≡ ray_side q)

-- the direction w lies strictly in a sector of svertex k, and the side o bounds this sector
pub record BoundsSector (M : Map) (k : ℕ) (w : Vector) (o : Side) : Type 0 where
  pub svertex : MapVertex
  pub listed : IsAt M.svertices k svertex
  pub aside : IsDirection (cross svertex.dir w)
  pub unrayed : Unrayed M k svertex.dir w
  pub bounds : IsLastSide M k svertex.dir w o
