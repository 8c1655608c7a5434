-- Points at a side or at an item of a complex, and which of these points links join.
use Rattle.std.specs.Prelude.{◌<ℤ◌, ◌⊎◌}
use Rattle.nef_space.specs.Prelude.{ℕ, pos, Chained, SpacePoint, toward, SamePoint, IsBetween, Set, dot, up, FlatDim, Joined, IsAt}
use Rattle.nef_space.specs.declared.label.Label.{Label}
use Rattle.law_geometry.specs.sphere.Maps.{Item, item_normal, OnItem, HasSide, Sees}
use Rattle.law_geometry.specs.complex.Prelude.{Vertex, Complex, Corner, IsCorner, Shows, VertexSide, HasSideLabel}
use Rattle.law_geometry.specs.complex.links.Links.{FacetLink, VolumeLink}

-- the set has k independent flat directions at all points from p, which is left out, up to q
abbrev pub IsEvenAfter : Set → ℕ → SpacePoint → SpacePoint → Type 0
IsEvenAfter s k p q = (r : SpacePoint) → IsBetween p r q ⊎ SamePoint r q → FlatDim s r k

-- the point q is at the side x: from the vertex the side sees the way to q, on which three directions stay flat
pub record IsAtSide (s : Set) (C : Complex) (x : VertexSide) (q : SpacePoint) : Type 0 where
  pub vertex : Vertex
  pub is_vertex : IsAt C.vertices x.vertex vertex
  pub label : Label
  pub has : HasSide vertex.map x.side label
  pub sees : Sees vertex.map x.side (toward vertex.point q)
  pub even : IsEvenAfter s 3 vertex.point q

-- the point q is at the item k: the item holds the way from the vertex to q, on which two directions stay flat
pub record IsAtItem (s : Set) (C : Complex) (k : Corner) (q : SpacePoint) : Type 0 where
  pub vertex : Vertex
  pub item : Item
  pub corner : IsCorner C k vertex item
  pub on_item : OnItem vertex.map item (toward vertex.point q)
  pub even : IsEvenAfter s 2 vertex.point q

-- points at items of one class of links are joined
abbrev pub ItemsJoined : Type 0
ItemsJoined = (s : Set) (C : Complex) (j k : Corner) (p q : SpacePoint) → Shows s C → Chained (FacetLink C) j k → IsAtItem s C j p → IsAtItem s C k q → Joined s p q

-- the upward direction leads to the upper side of each item's plane
abbrev pub IsUpright : Complex → Type 0
IsUpright C = (k : Corner) (v : Vertex) (x : Item) → IsCorner C k v x → pos 0 <ℤ dot (item_normal x) up

-- points at sides of one class of links are joined if up is above each item: a ray down comes to a facet's upper side
abbrev pub SidesJoined : Type 0
SidesJoined = (s : Set) (C : Complex) (x y : VertexSide) (p q : SpacePoint) → Shows s C → IsUpright C → Chained (VolumeLink C) x y → IsAtSide s C x p → IsAtSide s C y q → Joined s p q

-- each side of a complex that shows a set has a point at it, and so has each item
abbrev pub SidesHavePoints : Type 0
SidesHavePoints = (s : Set) (C : Complex) (x : VertexSide) (l : Label) → Shows s C → HasSideLabel C x l → (q : SpacePoint) × IsAtSide s C x q

abbrev pub ItemsHavePoints : Type 0
ItemsHavePoints = (s : Set) (C : Complex) (k : Corner) (v : Vertex) (x : Item) → Shows s C → IsCorner C k v x → (q : SpacePoint) × IsAtItem s C k q
