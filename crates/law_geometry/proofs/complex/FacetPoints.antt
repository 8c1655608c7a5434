-- The points of a facet: from the item beside it on, two directions are flat, and the labels are those of the item.
use Rattle.law_geometry.proofs.complex.Prelude.{sign, HasLabel, Flat, FlatDim, SpacePoint, toward, IsBetween, Set, Vector, dot, IsDirection, SameDirection, SameGerms, Drop, even-germs, by_side, Item, item_normal, item_pos, item_mark, item_neg, OnItem, normal-is, on-direction, on-level, near-item, Vertex, Complex, Corner, IsCorner, Shows, IsFacetPoint, SameDirection-turned, SameDirection-trans, dir-self, level-way, direction-right}
use Rattle.law_geometry.proofs.complex.Cones.{FlatAre, near-germ}
use Rattle.law_geometry.proofs.complex.Ways.{between-outer}
use Rattle.law_geometry.proofs.complex.Edges.{near_point, near-between, near-germs, way-near}
use Rattle.law_geometry.proofs.complex.FacetSides.{IsSided, sided-carried, sided-label, sided-dim, sided-flats}
use Rattle.law_geometry.proofs.complex.FacetWays.{even-to, below-on}

-- y has two flat directions, those of the item's plane, and the item's labels
pub record IsInFacetOf (s : Set) (x : Item) (y : SpacePoint) : Type 0 where
  pub dim : FlatDim s y 2
  pub flat : FlatAre s y (item_normal x)
  pub label : HasLabel s y (item_mark x)
  pub sided : IsSided s y (item_normal x) (item_pos x) (item_mark x) (item_neg x)

module _ (s : Set) (C : Complex) (S : Shows s C) where
  -- what has the sides of an item has its flat directions
  pub in-facet : (k : Corner) (v : Vertex) (x : Item) → IsCorner C k v x → (y : SpacePoint) → IsSided s y (item_normal x) (item_pos x) (item_mark x) (item_neg x) → IsInFacetOf s x y
  in-facet k v x c y all =
      let i = normal-is (S.cones k.vertex v c.vertex).valid.shaped k.item x c.item in
      let o = (S.least k.vertex v c.vertex).items_differ k.item x c.item in
      record {
        dim = sided-dim s y (item_normal x) (item_pos x) (item_mark x) (item_neg x) all i o;
        flat = sided-flats s y (item_normal x) (item_pos x) (item_mark x) (item_neg x) all i o;
        label = sided-label s y (item_normal x) (item_pos x) (item_mark x) (item_neg x) all;
        sided = all;
      }

  module _ (k : Corner) (v : Vertex) (x : Item) (c : IsCorner C k v x) (d : Vector) (o : OnItem v.map x d) (y : SpacePoint) (w : SameDirection (toward v.point y) d) where
    -- close to the vertex, on the way to y
    pub beside-vertex : IsInFacetOf s x (near_point s v.point y)
    beside-vertex =
        let K = S.cones k.vertex v c.vertex in
        in-facet k v x c (near_point s v.point y) (λ e.
        let l = by_side (item_pos x) (item_mark x) (item_neg x) (sign (dot (item_normal x) e)) in
        (near-germs s v.point d y w e l).1 (near-germ v.map s v.point K d e l (near-item v.map K.valid d k.item x c.item o e)))

  module _ (k : Corner) (v : Vertex) (x : Item) (y : SpacePoint) (c : IsCorner C k v x) (F : IsFacetPoint C v x y) where
    abbrev p : SpacePoint
    p = v.point

    abbrev q : SpacePoint
    q = near_point s p y

    i : IsDirection (toward p y)
    i = on-direction v.map x (toward p y) F.on_item

    between : IsBetween p q y
    between = near-between s p y i

    close : IsInFacetOf s x q
    close = beside-vertex k v x c (toward p y) F.on_item y (dir-self (toward p y) i)

    flat-on : Flat s q (toward q y)
    flat-on =
        let w = SameDirection-trans (toward p y) (toward p q) (toward q y) (SameDirection-turned (toward p q) (toward p y) (way-near s p (toward p y) y (dir-self (toward p y) i))) between in
        (close.flat (toward q y)).1 (level-way (item_normal x) (toward p y) (toward q y) w (on-level v.map x (toward p y) F.on_item))

    clear : Drop s 2 q y → ⊥
    clear z = F.clear z.at_place (between-outer p q z.at_place y between z.between) (below-on s C S z.at_place z.drops)

    same : SameGerms s q y
    same = even-germs s 2 q y (even-to s 2 q y (direction-right (toward p q) (toward q y) between) close.dim flat-on clear (λ b. F.off_edges (below-on s C S y b)))

    pub facet-point : IsInFacetOf s x y
    facet-point = in-facet k v x c y (sided-carried s q y (item_normal x) (item_pos x) (item_mark x) (item_neg x) same close.sided)
