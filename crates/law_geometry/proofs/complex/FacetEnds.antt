-- What a ray within a facet first meets has an item of the facet's plane on the ray's side; and where such an item lies behind what is first met, the point lies in a facet.
use Rattle.law_geometry.proofs.complex.Prelude.{◌≡◌, ℕ, pos, arith, refl, sym, ◌∙◌, ⊎_elim, subst, ints, sign, HasLabel, Germ, Flat, FlatDim, SpacePoint, Form, form_at, normal_of, slope, SamePoint, toward, IsBetween, Set, Vector, opposite, dot, IsDirection, IsNormal, SameDirection, Drop, IsFlatBelow, SameGerms, even-germs, between-turned, between-inner, flat_way-end, even-until, between-same, by_side, IsAt, Item, arc_item, item_normal, item_pos, item_mark, item_neg, dir_of, is-at_one, at-arc, level-same, Vertex, Edge, Complex, Corner, HasEnds, IsCorner, Shows, IsVertexPoint, IsEdgePoint, PlaneMeet, meets_vertex, meets_edge, Meets, LiesIn, IsFirstInPlane, IsCornerAt, IsFlatIn, dot-comm, cross-turned, SameDirection-turned, SameDirection-trans, in-span, dot-opposite, level-way, direction-left, direction-right}
use Rattle.law_geometry.proofs.complex.Cones.{FlatAre, near-label}
use Rattle.law_geometry.proofs.complex.Planes.{plane-way}
use Rattle.law_geometry.proofs.complex.Ways.{between-way, between-start, between-ends}
use Rattle.law_geometry.proofs.complex.Edges.{near_point, near-between, near-germs, edge-way, corner-one}
use Rattle.law_geometry.proofs.complex.FacetSides.{sided-carried, flats-carried}
use Rattle.law_geometry.proofs.complex.FacetWays.{plane-ahead, even-by, even-to, two-off, meets-on, end-meets}
use Rattle.law_geometry.proofs.complex.FacetCorners.{ItemAt, item-at}
use Rattle.law_geometry.proofs.complex.FacetPoints.{IsInFacetOf, in-facet, beside-vertex}
use Rattle.law_geometry.proofs.complex.FacetEdges.{ahead-back, ahead-same, low-end, way-is, arc-beside, sided-beside}
use Rattle.nef_space.proofs.Elementary.{same-itself}

-- the lower end of an edge of a plane leads along the plane
low-level : (s : Set) (C : Complex) (S : Shows s C) (h : Form) (i : ℕ) (e : Edge) (v w : Vertex) (z : SpacePoint) → (a : IsAt C.edges i e) (H : HasEnds C e v w) (b : IsBetween v.point z w.point) → LiesIn C h i
    → dot (normal_of h) (low-end s C S i e v w z a H b).0.dir ≡ pos 0
low-level s C S h i e v w z a H b (g, x, y, c, G, p, q) =
    let same = is-at_one C.edges i e g a c in
    let f = is-at_one C.vertices e.low x v (subst (λ (r : Edge). IsAt C.vertices r.low x) (sym same) G.low) H.low in
    let k = is-at_one C.vertices e.high y w (subst (λ (r : Edge). IsAt C.vertices r.high y) (sym same) G.high) H.high in
    let on-v = subst (λ (r : Vertex). form_at h r.point ≡ pos 0) f p in
    let on-w = subst (λ (r : Vertex). form_at h r.point ≡ pos 0) k q in
    let way = edge-way s C i e v w S a H in
    let along = in-span (normal_of h) (toward v.point w.point) (dir_of v.map.svertices e.low_svertex) (between-ends v.point z w.point b) (cross-turned (dir_of v.map.svertices e.low_svertex) (toward v.point w.point) way) (plane-way h v.point w.point on-v on-w) in
    subst (λ (d : Vector). dot (normal_of h) d ≡ pos 0) (way-is s C S i e v w z a H b) along

-- a plane of the same normal has the same directions
pub level-normal : (n m v : Vector) → SameDirection n m → dot n v ≡ pos 0 → dot m v ≡ pos 0
level-normal n m v w z = dot-comm m v ∙ level-way v n m w (dot-comm v n ∙ z)

flats-normal : (s : Set) (q : SpacePoint) (n m : Vector) → SameDirection n m → FlatAre s q n → FlatAre s q m
flats-normal s q n m w flat v = (λ f. level-normal n m v w ((flat v).0 f), λ z. (flat v).1 (level-normal m n v (SameDirection-turned n m w) z))

module _ (s : Set) (C : Complex) (S : Shows s C) (h : Form) (y : SpacePoint) (normal : IsNormal (normal_of h)) (on : form_at h y ≡ pos 0) (d : Vector) (some : IsDirection d) (level : slope h d ≡ pos 0) where
  abbrev n : Vector
  n = normal_of h

  level-back : dot n (opposite d) ≡ pos 0
  level-back = let r = dot-opposite n d in let z = level in omega (arith, ints)

  -- ---- the corner behind what is met
  module _ (F : IsFlatIn s h y) (z : SpacePoint) (ahead : SameDirection (toward y z) d) (all : (r : SpacePoint) → IsBetween y r z → FlatDim s r 2) where
    -- a point between y and z has the cone of y
    same-until : (q : SpacePoint) → IsBetween y q z → SameGerms s y q
    same-until q b = even-germs s 2 y q (even-by s 2 y q F.0 (λ r c. all r (between-inner y q z r b c)) (all q b))

    -- the item of a vertex at z on which y lies
    pub item-seen : (i : ℕ) (v : Vertex) → IsAt C.vertices i v → SamePoint v.point z → ItemAt s v.map (opposite d) (near_point s v.point y) n
    item-seen i v a e =
        let p = v.point in
        let to-y = ahead-back y p d (ahead-same y z p d e ahead) in
        let q = near_point s p y in
        let b = between-same p q y z q y e (same-itself q) (same-itself y) (near-between s p y (direction-left (toward p y) (opposite d) to-y)) in
        let same = same-until q (between-turned z y q b) in
        let K = S.cones i v a in
        let back = direction-right (toward p y) (opposite d) to-y in
        item-at s v.map K.valid (S.least i v a) (opposite d) q (λ g l o. near-label v.map s p K (opposite d) g l back ((near-germs s p (opposite d) y to-y g l).0 o))
        back n normal (flats-carried s y q n same F.1) (all q (between-turned z y q b)) level-back

    corner-at : (m : PlaneMeet) → Meets C h m z → (k : Corner) × IsCornerAt C h (opposite d) m k
    corner-at (meets_vertex i) (v, a, e) = let x = item-seen i v a e in (record { vertex = i; item = x.number }, (v, x.item, refl, record { vertex = a; item = x.listed }, x.same, x.on))
    corner-at (meets_edge i) ((e, v, w, a, H, b), lies) =
        let to-y = ahead-back y z d ahead in
        let q = near_point s z y in
        let c = near-between s z y (direction-left (toward z y) (opposite d) to-y) in
        let same = same-until q (between-turned z y q c) in
        let x = arc-beside s C S i e v w z a H b (opposite d) y to-y n normal (low-level s C S h i e v w z a H b lies) level-back (all q (between-turned z y q c)) (flats-carried s y q n same F.1) in
        (record { vertex = e.low; item = x.0 }, (e, v, x.1, a, refl, H.low, x.2, x.3, x.4))

  pub facet-behind : IsFlatIn s h y → (m : PlaneMeet) × IsFirstInPlane C h y d m × ((k : Corner) × IsCornerAt C h (opposite d) m k)
  facet-behind F =
      let W = flat_way-end s 2 y d (omega arith) F.0 some ((F.1 d).1 level) in
      let z = W.at_place in
      let m = end-meets s C S h y z (direction-left (toward y z) d W.is_ahead) F.0 F.1 W.even_before (plane-ahead h y z d W.is_ahead level on) W.drops in
      (m.0, record { place = z; ahead = W.is_ahead; meets = m.1; first = λ q k b e. two-off s C S q (W.even_before q b) (meets-on s C S h k q e) }, corner-at F z W.is_ahead W.even_before m.0 m.1)

  -- ---- back from what is met to y
  module _ (off : (n : PlaneMeet) → Meets C h n y → ⊥) (m : PlaneMeet) (k : Corner) (I : IsFirstInPlane C h y d m) where
    abbrev z : SpacePoint
    z = I.place

    -- from a point of the way that has the sides of an item of the plane, y has them too
    module _ (v : Vertex) (x : Item) (c : IsCorner C k v x) (r : SameDirection (item_normal x) n) (q : SpacePoint) (b : IsBetween y q z) (at-q : IsInFacetOf s x q) where
      to-y : SameDirection (toward q y) (opposite d)
      to-y = ahead-back y q d (SameDirection-trans (toward y q) (toward y z) d (between-way y q z b) I.ahead)

      flat-on : Flat s q (toward q y)
      flat-on = (at-q.flat (toward q y)).1 (level-same n (item_normal x) (opposite d) (toward q y) (SameDirection-turned (item_normal x) n r) (SameDirection-turned (toward q y) (opposite d) to-y) level-back)

      clear : Drop s 2 q y → ⊥
      clear D =
          let t = D.at_place in
          let between = between-inner y q z t b (between-turned q y t D.between) in
          let on-t = plane-ahead h y t d (SameDirection-trans (toward y t) (toward y z) d (between-way y t z between) I.ahead) level on in
          let e = end-meets s C S h q t (between-start q t y D.between) at-q.dim (flats-normal s q (item_normal x) n r at-q.flat) D.even_before on-t D.drops in
          I.first t e.0 between e.1

      before-y : (t : SpacePoint) → IsBetween q t y → FlatDim s t 2
      before-y = ⊎_elim (λ all. all) (λ D. absurd (clear D)) (even-until s 2 q y at-q.dim flat-on)

      -- an edge through y would be flat up to q, and so lie in the plane
      last : IsFlatBelow s 2 y → ⊥
      last f =
          let e = end-meets s C S h q y (direction-left (toward q y) (opposite d) to-y) at-q.dim (flats-normal s q (item_normal x) n r at-q.flat) before-y on f in
          off e.0 e.1

      carried : IsInFacetOf s x y
      carried =
          let even = even-to s 2 q y (direction-left (toward q y) (opposite d) to-y) at-q.dim flat-on clear last in
          in-facet s C S k v x c y (sided-carried s q y (item_normal x) (item_pos x) (item_mark x) (item_neg x) (even-germs s 2 q y even) at-q.sided)

      -- what is claimed of y
      settled : IsFlatIn s h y × ((u : Vertex) (o : Item) → IsCorner C k u o → HasLabel s y (item_mark o) × ((e : Vector) → Germ s y e (by_side (item_pos o) (item_mark o) (item_neg o) (sign (dot (item_normal o) e)))))
      settled =
          let F = carried in (
            (F.dim, flats-normal s y (item_normal x) n r F.flat),
            λ u o e. subst (λ (o : Item). HasLabel s y (item_mark o) × ((e : Vector) → Germ s y e (by_side (item_pos o) (item_mark o) (item_neg o) (sign (dot (item_normal o) e)))))
                (corner-one C k v u x o c e) (F.label, F.sided),
          )

    by-vertex : (i : ℕ) → IsVertexPoint C i z → IsCornerAt C h (opposite d) (meets_vertex i) k
        → IsFlatIn s h y × ((u : Vertex) (o : Item) → IsCorner C k u o → HasLabel s y (item_mark o) × ((e : Vector) → Germ s y e (by_side (item_pos o) (item_mark o) (item_neg o) (sign (dot (item_normal o) e)))))
    by-vertex i (u, a, e) (v, x, f, c, r, o) =
        let same = is-at_one C.vertices i u v a (subst (λ (j : ℕ). IsAt C.vertices j v) f c.vertex) in
        let at-z = subst (λ (w : Vertex). SamePoint w.point z) same e in
        let p = v.point in
        let way = ahead-back y p d (ahead-same y z p d at-z I.ahead) in
        let q = near_point s p y in
        let b = between-same p q y z q y at-z (same-itself q) (same-itself y) (near-between s p y (direction-left (toward p y) (opposite d) way)) in
        settled v x c r q (between-turned z y q b) (beside-vertex s C S k v x c (opposite d) o y way)

    by-edge : (i : ℕ) → IsEdgePoint C i z × LiesIn C h i → IsCornerAt C h (opposite d) (meets_edge i) k
        → IsFlatIn s h y × ((u : Vertex) (o : Item) → IsCorner C k u o → HasLabel s y (item_mark o) × ((e : Vector) → Germ s y e (by_side (item_pos o) (item_mark o) (item_neg o) (sign (dot (item_normal o) e)))))
    by-edge i ((g, u, w, b, G, t), lies) (e, v, c, a, f, l, o, r, side) =
        let same = is-at_one C.edges i g e b a in
        let G' = subst (λ (j : Edge). HasEnds C j u w) same G in
        let one = is-at_one C.vertices e.low u v G'.low l in
        let H = subst (λ (j : Vertex). HasEnds C e j w) one G' in
        let t' = subst (λ (j : Vertex). IsBetween j.point z w.point) one t in
        let way = ahead-back y z d I.ahead in
        let q = near_point s z y in
        let m = near-between s z y (direction-left (toward z y) (opposite d) way) in
        let corner : IsCorner C k v (arc_item c) = record { vertex = subst (λ (j : ℕ). IsAt C.vertices j v) (sym f) l; item = at-arc v.map.arcs v.map.sloop k.item c o } in
        let all = sided-beside s C S i e v w z a H t' (opposite d) y way n normal (low-level s C S h i e v w z a H t' lies) level-back k.item c corner.item r side in
        settled v (arc_item c) corner r q (between-turned z y q m) (in-facet s C S k v (arc_item c) corner q all)

  pub facet-from_behind : (off : (n : PlaneMeet) → Meets C h n y → ⊥) (m : PlaneMeet) (k : Corner) → IsFirstInPlane C h y d m → IsCornerAt C h (opposite d) m k
      → IsFlatIn s h y × ((u : Vertex) (o : Item) → IsCorner C k u o → HasLabel s y (item_mark o) × ((e : Vector) → Germ s y e (by_side (item_pos o) (item_mark o) (item_neg o) (sign (dot (item_normal o) e)))))
  facet-from_behind off (meets_vertex i) k I c = by-vertex off (meets_vertex i) k I i I.meets c
  facet-from_behind off (meets_edge i) k I c = by-edge off (meets_edge i) k I i I.meets c
