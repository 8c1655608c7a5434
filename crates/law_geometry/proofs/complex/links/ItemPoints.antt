-- Each item has points at it, and all points at one item are joined.
use Rattle.law_geometry.proofs.complex.links.Prelude.{subst, SpacePoint, toward, Set, Vector, SameDirection, ahead, IsAt, Map, Item, items, OnItem, OnItem-by_signs, on-direction, is-at_one, item-point, Vertex, Complex, Corner, IsCorner, Shows, IsEvenAfter, IsAtItem, ItemsHavePoints, SameDirection-turned, dir-self, dir-signs}
use Rattle.law_geometry.proofs.complex.links.Ties.{ahead-toward, IsTied, tied-turned, tied-both, tied-ray, even-after}
use Rattle.law_geometry.proofs.complex.links.NearVertex.{facet-near, item-tied}

-- the same way lies on the item
pub on_item-way : (M : Map) (x : Item) (d e : Vector) → SameDirection d e → OnItem M x d → OnItem M x e
on_item-way M x d e w o = OnItem-by_signs M x d e (λ g l. dir-signs d e g (on-direction M x d o) w) o

module _ (s : Set) (C : Complex) (S : Shows s C) where
  pub at-item : (k : Corner) (v : Vertex) (x : Item) → IsCorner C k v x → (d : Vector) → OnItem v.map x d → IsAtItem s C k (ahead s v.point d)
  at-item k v x c d o = record {
    vertex = v;
    item = x;
    corner = c;
    on_item = on_item-way v.map x d (toward v.point (ahead s v.point d)) (SameDirection-turned (toward v.point (ahead s v.point d)) d (ahead-toward s v.point d (on-direction v.map x d o))) o;
    even = even-after s 2 v.point d (let f = facet-near s C S k v x c d o in f.dim);
  }

  pub item-has_point : (k : Corner) (v : Vertex) (x : Item) → IsCorner C k v x → (q : SpacePoint) × IsAtItem s C k q
  item-has_point k v x c = let o = item-point v.map (S.cones k.vertex v c.vertex).valid.shaped k.item x c.item in (ahead s v.point o.0, at-item k v x c o.0 o.1)

  -- a point at an item is tied to the points close to the vertex
  tied-close : (v : Vertex) (x : Item) (p : SpacePoint) → OnItem v.map x (toward v.point p) → IsEvenAfter s 2 v.point p → IsTied s p (ahead s v.point (toward v.point p))
  tied-close v x p o even = tied-ray s 2 v.point p (toward v.point p) (dir-self (toward v.point p) (on-direction v.map x (toward v.point p) o)) even

  pub one-item : (k : Corner) (p q : SpacePoint) → IsAtItem s C k p → IsAtItem s C k q → IsTied s p q
  one-item k p q a b =
      let v = a.vertex in
      let x = a.item in
      let e = is-at_one C.vertices k.vertex b.vertex v b.corner.vertex a.corner.vertex in
      let f = is-at_one (items v.map) k.item b.item x (subst (λ (u : Vertex). IsAt (items u.map) k.item b.item) e b.corner.item) a.corner.item in
      let o = subst (λ (r : Item). OnItem v.map r (toward v.point q)) f (subst (λ (u : Vertex). OnItem u.map b.item (toward u.point q)) e b.on_item) in
      let even = subst (λ (u : Vertex). IsEvenAfter s 2 u.point q) e b.even in
      let c = ahead s v.point (toward v.point p) in
      let d = ahead s v.point (toward v.point q) in
      tied-both s p c q (tied-close v x p a.on_item a.even)
      (tied-both s c d q (item-tied s C S k v x a.corner (toward v.point p) (toward v.point q) a.on_item o) (tied-turned s q d (tied-close v x q o even)))

pub items-have_points : ItemsHavePoints
items-have_points s C k v x S c = item-has_point s C S k v x c
