-- Across a facet: a point of it is tied to the points close to the corner that a ray within its plane names.
use Rattle.law_geometry.proofs.complex.links.Prelude.{◌≡◌, ℕ, pos, ◌<ℤ◌, arith, sym, ◌∙◌, ◌⊎◌, inl, inr, ⊎_elim, ◌∷◌, subst, [], ints, ring, at, num, ◌⊗◌, FlatDim, SpacePoint, Form, form_at, normal_of, slope, plane_through, SamePoint, toward, IsBetween, Set, Vector, opposite, dot, triple, IsDirection, SameDirection, plane_axis, plane_dir, carriers, Drop, ahead, same-point_sym, between-turned, even-until, start-close, reach_all, between-same, factor-same, IsAt, Item, arc_item, item_normal, dir_of, OnItem, same-plus, same-minus, normal-is, on-level, is-at_one, dir-at, turn-same, at-arc, level-same, Vertex, Edge, Complex, Corner, HasEnds, IsCorner, Shows, item_plane, IsVertexPoint, IsEdgePoint, PlaneMeet, meets_vertex, meets_edge, LiesIn, IsFirstInPlane, IsCornerAt, RayNames, HasCorner, IsFlatIn, between-way, between-start, between-outer, near_point, near-between, way-near, plane-ahead, end-meets, IsInFacetOf, beside-vertex, facet-point, ahead-back, ahead-same, through-level, axis-in, LinkAcross, SameDirection-turned, SameDirection-trans, dir-self, dot-opposite, level-way, direction-left, direction-right}
use Rattle.law_geometry.proofs.complex.FacetAngles.{through-at}
use Rattle.law_geometry.proofs.complex.links.Ties.{beside-close, beside-ahead, beside-cell, IsTied, tied-cell, tied-both, tied-ahead, tied-ray}
use Rattle.law_geometry.proofs.complex.links.EdgeEnds.{edge-ways, tied-low, EndsOnSide, close_way, on-close, tied-close_way, AreTiedItems}
use Rattle.law_geometry.proofs.near.Same.{dim-same}
use Rattle.nef_space.proofs.Elementary.{same-itself}

-- y is tied to a point close to a vertex on the item of the corner, whose plane has the normal n
pub record IsAcross (s : Set) (C : Complex) (n : Vector) (y : SpacePoint) (k : Corner) : Type 0 where
  pub vertex : Vertex
  pub item : Item
  pub corner : IsCorner C k vertex item
  pub dir : Vector
  pub on : OnItem vertex.map item dir
  pub same : SameDirection (item_normal item) n
  pub tied : IsTied s y (ahead s vertex.point dir)

module _ (s : Set) (C : Complex) (S : Shows s C) (h : Form) (y : SpacePoint) (on : form_at h y ≡ pos 0) (F : IsFlatIn s h y) (d : Vector) (level : slope h d ≡ pos 0) where
  abbrev n : Vector
  n = normal_of h

  level-back : dot n (opposite d) ≡ pos 0
  level-back = let r = dot-opposite n d in let z = level in omega (arith, ints)

  module _ (m : PlaneMeet) (k : Corner) (I : IsFirstInPlane C h y d m) where
    abbrev z : SpacePoint
    z = I.place

    -- up to what is met two directions are flat
    all : (r : SpacePoint) → IsBetween y r z → FlatDim s r 2
    all = ⊎_elim (λ f. f) (λ D. absurd (none D)) (even-until s 2 y z F.0 ((F.1 (toward y z)).1 (level-way n d (toward y z) (SameDirection-turned (toward y z) d I.ahead) level)))
      where
        none : Drop s 2 y z → ⊥
        none D =
            let t = D.at_place in
            let to-t = SameDirection-trans (toward y t) (toward y z) d (between-way y t z D.between) I.ahead in
            let e = end-meets s C S h y t (between-start y t z D.between) F.0 F.1 D.even_before (plane-ahead h y t d to-t level on) D.drops in
            I.first t e.0 D.between e.1

    -- a point at z, from which the way back to y is even
    even-back : (p : SpacePoint) → SamePoint p z → (r : SpacePoint) → IsBetween p r y ⊎ SamePoint r y → FlatDim s r 2
    even-back p e r (inl b) = all r (between-turned z y r (between-same p r y z r y e (same-itself r) (same-itself y) b))
    even-back p e r (inr f) = dim-same s y r 2 (same-point_sym r y f) F.0

    tied-back : (p : SpacePoint) → SamePoint p z → IsTied s y (ahead s p (opposite d))
    tied-back p e = tied-ray s 2 p y (opposite d) (ahead-back y p d (ahead-same y z p d e I.ahead)) (even-back p e)

    by-vertex : (i : ℕ) → IsVertexPoint C i z → IsCornerAt C h (opposite d) (meets_vertex i) k → IsAcross s C n y k
    by-vertex i (u, a, e) (v, x, f, c, r, o) =
        let same = is-at_one C.vertices i u v a (subst (λ (j : ℕ). IsAt C.vertices j v) f c.vertex) in
        record {
          vertex = v;
          item = x;
          corner = c;
          dir = opposite d;
          on = o;
          same = r;
          tied = tied-back v.point (subst (λ (w : Vertex). SamePoint w.point z) same e);
        }

    by-edge : (i : ℕ) → IsEdgePoint C i z × LiesIn C h i → IsCornerAt C h (opposite d) (meets_edge i) k → IsAcross s C n y k
    by-edge i ((g, u, w, b, G, t), lies) (e, v, c, a, f, l, o, r, side) =
        let same = is-at_one C.edges i g e b a in
        let G' = subst (λ (j : Edge). HasEnds C j u w) same G in
        let one = is-at_one C.vertices e.low u v G'.low l in
        along (subst (λ (j : Vertex). HasEnds C e j w) one G') (subst (λ (j : Vertex). IsBetween j.point z w.point) one t)
      where
        corner : IsCorner C k v (arc_item c)
        corner = record { vertex = subst (λ (j : ℕ). IsAt C.vertices j v) (sym f) l; item = at-arc v.map.arcs v.map.sloop k.item c o }

        along : HasEnds C e v w → IsBetween v.point z w.point → IsAcross s C n y k
        along H t =
            let W = edge-ways s C S i e v w a H in
            let q = opposite d in
            let back = ahead-back y z d I.ahead in
            let some = direction-right (toward z y) q back in
            let way : dir_of v.map.svertices e.low_svertex ≡ W.low.dir = dir-at v.map.svertices e.low_svertex W.low W.is_low in
            let turn = turn-same n c.normal W.low.dir W.low.dir q q (SameDirection-turned c.normal n r) (dir-self W.low.dir (direction-right (toward v.point w.point) W.low.dir W.onward)) (dir-self q some) in
            let flat = level-same n c.normal q q (SameDirection-turned c.normal n r) (dir-self q some) level-back in
            let ends : EndsOnSide e.low_svertex W.low.dir q c = ⊎_elim
            (λ x. inl (x.0, same-plus (triple n W.low.dir q) (triple c.normal W.low.dir q) turn (subst (λ (b : Vector). pos 0 <ℤ triple n b q) way x.1)))
            (λ x. inr (x.0, same-minus (triple n W.low.dir q) (triple c.normal W.low.dir q) turn (subst (λ (b : Vector). triple n b q <ℤ pos 0) way x.1))) side in
            let near = close_way s C S k v c corner e.low_svertex W.low W.is_low q in
            let beside = ahead s (ahead s v.point W.low.dir) q in
            record {
              vertex = v;
              item = arc_item c;
              corner = corner;
              dir = near;
              on = on-close s C S k v c corner e.low_svertex W.low W.is_low q flat ends;
              same = r;
              tied = tied-both s y (ahead s z q) (ahead s v.point near) (tied-back z (same-itself z))
                  (tied-both s (ahead s z q) beside (ahead s v.point near) (tied-ahead s z (ahead s v.point W.low.dir) q (tied-low s C S i e v w a H z t))
                  (tied-close_way s C S k v c corner e.low_svertex W.low W.is_low q));
            }

  across-met : (m : PlaneMeet) (k : Corner) → IsFirstInPlane C h y d m → IsCornerAt C h (opposite d) m k → IsAcross s C n y k
  across-met (meets_vertex i) k I c = by-vertex (meets_vertex i) k I i I.meets c
  across-met (meets_edge i) k I c = by-edge (meets_edge i) k I i I.meets c

  pub across : (k : Corner) → RayNames C h y d k → IsAcross s C n y k
  across k (m, I, c) = across-met m k I c

-- the normal of the plane through a point
pub through-same : (n : Vector) (p : SpacePoint) → IsDirection n → SameDirection n (normal_of (plane_through n p))
through-same n p i = factor-same n (normal_of (plane_through n p)) (record {
  k = p.w;
  l = 1;
  some_k = p.proper;
  some_l = omega arith;
  is_x = ring (n.x ∷ pos p.w ∷ []) (at 1 ⊗ at 0) (num (pos 1) ⊗ (at 0 ⊗ at 1)) tt;
  is_y = ring (n.y ∷ pos p.w ∷ []) (at 1 ⊗ at 0) (num (pos 1) ⊗ (at 0 ⊗ at 1)) tt;
  is_z = ring (n.z ∷ pos p.w ∷ []) (at 1 ⊗ at 0) (num (pos 1) ⊗ (at 0 ⊗ at 1)) tt;
  is_w = ring (pos p.w ∷ []) (at 0 ⊗ num (pos 0)) (num (pos 1) ⊗ num (pos 0)) tt;
}) i

-- ---- the link across a facet ties its items
module _ (s : Set) (C : Complex) (S : Shows s C) (j k : Corner) (L : LinkAcross C j k) where
  abbrev v : Vertex
  v = L.vertex

  abbrev x : Item
  x = L.item

  abbrev p : SpacePoint
  p = v.point

  abbrev d : Vector
  d = opposite (plane_dir (item_normal x))

  abbrev plane : Form
  plane = item_plane v x

  n-some : IsDirection (item_normal x)
  n-some = normal-is (S.cones j.vertex v L.corner.vertex).valid.shaped j.item x L.corner.item

  module _ (m : PlaneMeet) (I : IsFirstInPlane C plane p d m) (c : IsCornerAt C plane (opposite d) m k) where
    abbrev y : SpacePoint
    y = near_point s p I.place

    between : IsBetween p y I.place
    between = near-between s p I.place (direction-left (toward p I.place) d I.ahead)

    way : SameDirection (toward p y) d
    way = way-near s p d I.place I.ahead

    inside : IsInFacetOf s x y
    inside = beside-vertex s C S j v x L.corner d L.inward I.place I.ahead

    onward : IsFirstInPlane C plane y d m
    onward = record {
      place = I.place;
      ahead = SameDirection-trans (toward y I.place) (toward p y) d (SameDirection-turned (toward p y) (toward y I.place) between) way;
      meets = I.meets;
      first = λ q o b e. I.first q o (between-outer p y q I.place between b) e;
    }

    flat : IsFlatIn s plane y
    flat = (inside.dim, λ e. let l = through-level (item_normal x) e p in let f = inside.flat e in (λ g. l.0 (f.0 g), λ z. f.1 (l.1 z)))

    on : form_at plane y ≡ pos 0
    on = through-at (item_normal x) p y ∙ level-way (item_normal x) d (toward p y) (SameDirection-turned (toward p y) d way) (on-level v.map x d L.inward)

    there : IsAcross s C (normal_of plane) y k
    there = across s C S plane y on flat d ((through-level (item_normal x) d p).0 (on-level v.map x d L.inward)) k (m, onward, c)

    tied-items : AreTiedItems s C j k
    tied-items =
        let A = there in
        record {
          vertex = v;
          item = x;
          corner = L.corner;
          dir = d;
          on = L.inward;
          other_vertex = A.vertex;
          other_item = A.item;
          other_corner = A.corner;
          other_way = A.dir;
          other_on = A.on;
          one_normal = SameDirection-trans (item_normal x) (normal_of plane) (item_normal A.item) (through-same (item_normal x) p n-some) (SameDirection-turned (item_normal A.item) (normal_of plane) A.same);
          tied = tied-both s (ahead s p d) y (ahead s A.vertex.point A.dir)
              (tied-cell s (ahead s p d) y (beside-cell s p d (ahead s p d) y (beside-ahead s p d) (beside-close s p d y (start-close (reach_all (carriers s) p) p I.place) way))) A.tied;
        }

  pub across-tied : AreTiedItems s C j k
  across-tied = let N = L.named in tied-items N.0 N.1 N.2

-- ---- the corner of a facet point
-- a point is tied to the points close to the corner that it has
pub corner-across : (s : Set) (C : Complex) → Shows s C → (y : SpacePoint) (k : Corner) (H : HasCorner C y k) → IsAcross s C (normal_of (item_plane H.vertex H.item)) y k
corner-across s C S y k H =
    let n = item_normal H.item in
    let p = H.vertex.point in
    let F = facet-point s C S H.beside H.vertex H.item y H.is_beside H.facet_point in
    let plane = item_plane H.vertex H.item in
    let some = normal-is (S.cones H.beside.vertex H.vertex H.is_beside.vertex).valid.shaped H.beside.item H.item H.is_beside.item in
    let axis = axis-in n some in
    let flat : IsFlatIn s plane y = (F.dim, λ d. let a = through-level n d p in let b = F.flat d in (λ g. a.0 (b.0 g), λ o. b.1 (a.1 o))) in
    let on : form_at plane y ≡ pos 0 = through-at n p y ∙ on-level H.vertex.map H.item (toward p y) H.facet_point.on_item in
    across s C S plane y on flat (plane_axis n) ((through-level n (plane_axis n) p).0 axis.1) k H.named
