-- A facet point is a point at its item: all points between it and the vertex that it sees are facet points of the item too.
use Rattle.nef_conn.proofs.Prelude.{inl, inr, SpacePoint, toward, IsBetween, Set, between-inner, joined-itself, same-point_sym, Item, Vertex, Complex, Corner, IsCorner, Shows, IsFacetPoint, between-way, facet-point, facet-of, IsEvenAfter, on_item-way, PointsReachItems, SameDirection-turned}
use Rattle.law_geometry.proofs.near.Same.{dim-same}

-- a point between the vertex and a facet point is a facet point
facet-before : (C : Complex) (v : Vertex) (x : Item) (y r : SpacePoint) → IsFacetPoint C v x y → IsBetween v.point r y → IsFacetPoint C v x r
facet-before C v x y r F b = record {
  off_edges = F.clear r b;
  on_item = on_item-way v.map x (toward v.point y) (toward v.point r) (SameDirection-turned (toward v.point r) (toward v.point y) (between-way v.point r y b)) F.on_item;
  clear = λ q c. F.clear q (between-inner v.point r y q b c);
}

-- so from the vertex on two directions are flat, up to the facet point
pub facet-even : (s : Set) (C : Complex) → Shows s C → (k : Corner) (v : Vertex) (x : Item) (y : SpacePoint) → IsCorner C k v x → IsFacetPoint C v x y → IsEvenAfter s 2 v.point y
facet-even s C S k v x y c F r (inl b) = let f = facet-point s C S k v x r c (facet-before C v x y r F b) in f.dim
facet-even s C S k v x y c F r (inr e) = let f = facet-point s C S k v x y c F in dim-same s y r 2 (same-point_sym r y e) f.dim

-- POINTS IN FACETS REACH ITEMS
pub points-reach_items : PointsReachItems
points-reach_items s C p S f =
    let (k, v, x, c, F) = facet-of s C S p f in (
      k,
      p,
      record { vertex = v; item = x; corner = c; on_item = F.on_item; even = facet-even s C S k v x p c F },
      joined-itself s p,
    )
