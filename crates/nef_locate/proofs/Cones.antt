-- The labels and the germs of a point by its place.
use Rattle.nef_locate.proofs.Prelude.{◌≡◌, pos, ap, sym, subst, ◌∙◌, sign, HasLabel, Germ, FlatDim, SpacePoint, toward, Set, Vector, IsDirection, dot, plane_axis, Label, flat-germ, span-3, IsPlaneOf, MapSloop, Item, item_normal, item_pos, item_mark, item_neg, Map, MapLabel, Valid, by_side, Cone, normal-direction, on-level, Vertex, Corner, IsCorner, Shows, item_plane, HasCorner, meets-on, through-at, facet-from_behind, weight-positive, normal-scaled, through-level, axis-in}
use Rattle.law_geometry.specs.complex.Complexes.{Complex}

-- where all directions are flat there is one label
pub cone-flat : (M : Map) (s : Set) (y : SpacePoint) (l : Label) → Valid M → M.mark ≡ l → ((d : Vector) → IsDirection d → MapLabel M d l) → HasLabel s y l → FlatDim s y 3 → Cone M s y
cone-flat M s y l valid mark all h f = record {
  valid = valid;
  mark = subst (HasLabel s y) (sym mark) h;
  labels = λ d i. (l, all d i, flat-germ s y d l (let g = f.0 in span-3 s y g.0 g.1 g.2 d g.3 g.4 g.5 g.6) h);
}

-- the item of the corner has the labels of the point
pub corner-labels : (s : Set) (C : Complex) → Shows s C → (y : SpacePoint) (k : Corner) (v : Vertex) (x : Item) → HasCorner C y k → IsCorner C k v x
    → HasLabel s y (item_mark x) × ((d : Vector) → Germ s y d (by_side (item_pos x) (item_mark x) (item_neg x) (sign (dot (item_normal x) d))))
corner-labels s C S y k v x H c =
    let n = item_normal H.item in
    let p = H.vertex.point in
    let N = (S.cones H.beside.vertex H.vertex H.is_beside.vertex).valid.shaped.normals H.beside.item H.item H.is_beside.item in
    let axis = axis-in n (normal-direction n N) in
    let r = H.named in
    (facet-from_behind s C S (item_plane H.vertex H.item) y (normal-scaled n (pos p.w) (weight-positive p) N) (through-at n p y ∙ on-level H.vertex.map H.item (toward p y) H.facet_point.on_item)
    (plane_axis n) axis.0 ((through-level n (plane_axis n) p).0 axis.1) (λ m e. H.facet_point.off_edges (meets-on s C S (item_plane H.vertex H.item) m y e)) r.0 k r.1 r.2).1 v x c

-- a map with the labels of the corner's item is one of the point
pub cone-of_corner : (M : Map) (s : Set) (C : Complex) → Shows s C → (y : SpacePoint) (k : Corner) (v : Vertex) (x : Item) → HasCorner C y k → IsCorner C k v x → (l : MapSloop) → IsPlaneOf x l
    → Valid M → M.mark ≡ l.mark → ((d : Vector) → IsDirection d → MapLabel M d (by_side l.pos l.mark l.neg (sign (dot l.normal d)))) → Cone M s y
cone-of_corner M s C S y k v x H c l P valid mark all =
    let g = corner-labels s C S y k v x H c in
    record {
      valid = valid;
      mark = subst (HasLabel s y) (P.mark ∙ sym mark) g.0;
      labels = λ d i. (by_side l.pos l.mark l.neg (sign (dot l.normal d)), all d i, subst (Germ s y d) (same d) (g.1 d));
    }
  where
    same : (d : Vector) → by_side (item_pos x) (item_mark x) (item_neg x) (sign (dot (item_normal x) d)) ≡ by_side l.pos l.mark l.neg (sign (dot l.normal d))
    same d =
        ap (λ r. by_side r (item_mark x) (item_neg x) (sign (dot (item_normal x) d))) P.pos
        ∙ ap (λ r. by_side l.pos r (item_neg x) (sign (dot (item_normal x) d))) P.mark
        ∙ ap (λ r. by_side l.pos l.mark r (sign (dot (item_normal x) d))) P.neg
        ∙ ap (λ r. by_side l.pos l.mark l.neg (sign (dot r d))) P.normal
