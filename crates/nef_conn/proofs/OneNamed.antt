-- What a ray within a plane first meets, and the corner there, are one.
use Rattle.nef_conn.proofs.Prelude.{◌≡◌, ℕ, ◌<◌, pos, ◌<ℤ◌, ◌+ℤ◌, ◌*ℤ◌, arith, ap, sym, ◌∙◌, inl, inr, ◌⊎◌, ⊎_elim, ◌∷◌, subst, [], cases_order, ints, ring, at, num, ◌⊕◌, ◌⊗◌, SpacePoint, Form, normal_of, slope, toward, SamePoint, IsBetween, Set, Vector, dot, cross, opposite, blend, triple, IsDirection, IsZero, IsNormal, SameDirection, between-same, between-turned, between-inner, point_below-apart, same-point_sym, forms, IsAt, MapVertex, Arc, arc_item, items, OnItem, Map, dir_of, Shaped, at-arc, Ends, ends-of, normals-same, amount, is-at_one, dir-at, dot-comb, Vertex, Edge, Complex, Corner, HasEnds, IsEdge, IsEdgeBelow, Shows, IsEdgePoint, PlaneMeet, meets_vertex, meets_edge, Meets, IsFirstInPlane, IsArcOnSide, IsCornerAt, RayNames, edge-points, source-meets, target-meets, ahead-back, between-way, between-outer, same-point_trans, SameDirection-turned, SameDirection-trans, dir-self, parallel-trans, opposite-same, opposite-way, direction-right}
use Rattle.nef_space.specs.Numbers.{IsBelow}
use Rattle.nef_conn.proofs.SamePlanes.{side-turned}
use Rattle.nef_conn.proofs.SameRay.{on-ray}
use Rattle.law_geometry.proofs.complex.FacetEnds.{level-normal}
use Rattle.law_geometry.proofs.near.Normals.{toward-normal}
use Rattle.law_geometry.proofs.complex.Equal.{edges-equal, corners-equal}
use Rattle.nef_space.proofs.Elementary.{same-itself}

-- ---- arcs beside a svertex
-- of one plane one arc leaves a svertex on one side
module _ (M : Map) (V : Shaped M) (j : ℕ) (u : MapVertex) (b : IsAt M.svertices j u) (n f : Vector) (some : IsDirection f) (level : dot n f ≡ pos 0) where
  abbrev K : ℕ
  K = amount (forms M) f

  abbrev c : Vector
  c = blend K u.dir 1 f

  module _ (p : SpacePoint) (i : ℕ) (a : Arc) (l : IsAt M.arcs i a) (w : SameDirection a.normal n) where
    abbrev at_point : Vertex
    at_point = record { point = p; map = M }

    svertex-dir : dir_of M.svertices j ≡ u.dir
    svertex-dir = dir-at M.svertices j u b

    listed : IsAt (items M) i (arc_item a)
    listed = at-arc M.arcs M.sloop i a l

    arc-ends : Ends M a
    arc-ends = ends-of M V i a l

    level-close : dot a.normal u.dir ≡ pos 0 → dot a.normal c ≡ pos 0
    level-close z = dot-comb a.normal (pos K) u.dir (pos 1) f ∙ ap (λ r. pos K *ℤ r +ℤ pos 1 *ℤ dot a.normal f) z
        ∙ ap (λ r. pos K *ℤ pos 0 +ℤ pos 1 *ℤ r) (level-normal n a.normal f (SameDirection-turned a.normal n w) level) ∙ ring (pos K ∷ []) (at 0 ⊗ num (pos 0) ⊕ num (pos 1) ⊗ num (pos 0)) (num (pos 0)) tt

    turned : IsArcOnSide at_point j n f a → IsArcOnSide at_point j a.normal f a
    turned o = side-turned at_point j n a.normal f f a (SameDirection-turned a.normal n w) (dir-self f some) o

    met : IsArcOnSide at_point j n f a → OnItem M (arc_item a) c
    met o = ⊎_elim from to (turned o)
      where
        from : (a.source ≡ j) × (pos 0 <ℤ triple a.normal (dir_of M.svertices j) f) → OnItem M (arc_item a) c
        from (e, h) = source-meets M V j u b f K (omega arith) i a listed
            (level-close (subst (λ (r : Vector). dot a.normal r ≡ pos 0) svertex-dir (subst (λ (k : ℕ). dot a.normal (dir_of M.svertices k) ≡ pos 0) e arc-ends.source_level)))
            e (subst (λ (r : Vector). pos 0 <ℤ triple a.normal r f) svertex-dir h)

        to : (a.target ≡ j) × (triple a.normal (dir_of M.svertices j) f <ℤ pos 0) → OnItem M (arc_item a) c
        to (e, h) = target-meets M V j u b f K (omega arith) i a listed
            (level-close (subst (λ (r : Vector). dot a.normal r ≡ pos 0) svertex-dir (subst (λ (k : ℕ). dot a.normal (dir_of M.svertices k) ≡ pos 0) e arc-ends.target_level)))
            e (subst (λ (r : Vector). triple a.normal r f <ℤ pos 0) svertex-dir h)

  one-arc : (p : SpacePoint) (i k : ℕ) (a e : Arc) → IsAt M.arcs i a → IsAt M.arcs k e → SameDirection a.normal n → SameDirection e.normal n
      → IsArcOnSide (record { point = p; map = M }) j n f a → IsArcOnSide (record { point = p; map = M }) j n f e → i ≡ k
  one-arc p i k a e l m w r o q = V.no_items_meet i k (arc_item a) (arc_item e) c (at-arc M.arcs M.sloop i a l) (at-arc M.arcs M.sloop k e m) (met p i a l w o) (met p k e m r q)

-- no edge comes before itself in the order
never-below : (a b : ℕ) → IsBelow (pos a ∷ pos b ∷ []) (pos a ∷ pos b ∷ []) → ⊥
never-below a b (inl h) = omega (arith, ints)
never-below a b (inr (e, inl h)) = omega (arith, ints)
never-below a b (inr (e, inr (f, h))) = h

module _ (s : Set) (C : Complex) (S : Shows s C) where
  -- ---- vertices and edges
  pub one-vertex : (i k : ℕ) (v w : Vertex) → IsAt C.vertices i v → IsAt C.vertices k w → SamePoint v.point w.point → i ≡ k
  one-vertex i k v w a b e = ⊎_elim (λ z. z)
      (λ o. ⊎_elim (λ l. absurd (point_below-apart v.point w.point (S.ordered i k v w l a b) e)) (λ l. absurd (point_below-apart w.point v.point (S.ordered k i w v l b a) (same-point_sym v.point w.point e))) o)
      (cases_order i k)

  shaped : (k : ℕ) (v : Vertex) → IsAt C.vertices k v → Shaped v.map
  shaped k v a = (S.cones k v a).valid.shaped

  -- the way of an edge
  module _ (e : Edge) (E : IsEdge C.vertices e) where
    way-is : dir_of E.low_vertex.map.svertices e.low_svertex ≡ E.low_end.dir
    way-is = dir-at E.low_vertex.map.svertices e.low_svertex E.low_end E.leaves

    flat-on : IsZero (cross E.low_end.dir E.low_end.dir)
    flat-on = (dir-self E.low_end.dir ((shaped e.low E.low_vertex E.is_low).svertex_dirs e.low_svertex E.low_end E.leaves)).parallel

    upward : IsNormal (toward E.low_vertex.point E.high_vertex.point)
    upward = toward-normal E.low_vertex.point E.high_vertex.point (S.ordered e.low e.high E.low_vertex E.high_vertex E.upward E.is_low E.is_high)

  -- two edges that pass one point
  module _ (i k : ℕ) (e f : Edge) (E : IsEdge C.vertices e) (F : IsEdge C.vertices f) (z : SpacePoint) (a : IsAt C.edges i e) (c : IsAt C.edges k f)
      (b : IsBetween E.low_vertex.point z E.high_vertex.point) (d : IsBetween F.low_vertex.point z F.high_vertex.point) where
    abbrev low_e : SpacePoint
    low_e = E.low_vertex.point

    abbrev low_f : SpacePoint
    low_f = F.low_vertex.point

    abbrev high_e : SpacePoint
    high_e = E.high_vertex.point

    abbrev high_f : SpacePoint
    high_f = F.high_vertex.point

    abbrev way_e : Vector
    way_e = E.low_end.dir

    abbrev way_f : Vector
    way_f = F.low_end.dir

    to-e : SameDirection (toward low_e z) way_e
    to-e = SameDirection-trans (toward low_e z) (toward low_e high_e) way_e (between-way low_e z high_e b) E.ahead

    to-f : SameDirection (toward low_f z) way_f
    to-f = SameDirection-trans (toward low_f z) (toward low_f high_f) way_f (between-way low_f z high_f d) F.ahead

    ends-e : HasEnds C e E.low_vertex E.high_vertex
    ends-e = record { low = E.is_low; high = E.is_high }

    ends-f : HasEnds C f F.low_vertex F.high_vertex
    ends-f = record { low = F.is_low; high = F.is_high }

    ways : SameDirection way_e way_f
    ways =
        let flat = ((edge-points s C k f F.low_vertex F.high_vertex z S c ends-f d).1 (toward low_f high_f)).1
        (subst (λ (r : Vector). IsZero (cross r (toward low_f high_f))) (sym (way-is f F)) (SameDirection-turned (toward low_f high_f) way_f F.ahead).parallel) in
        let along = subst (λ (r : Vector). IsZero (cross r (toward low_f high_f))) (way-is e E) (((edge-points s C i e E.low_vertex E.high_vertex z S a ends-e b).1 (toward low_f high_f)).0 flat) in
        SameDirection-trans way_e (toward low_e high_e) way_f (SameDirection-turned (toward low_e high_e) way_e E.ahead)
        (SameDirection-trans (toward low_e high_e) (toward low_f high_f) way_f (normals-same (toward low_e high_e) (toward low_f high_f) (upward e E) (upward f F) (parallel-trans (toward low_e high_e) way_e (toward low_f high_f) (direction-right (toward low_e high_e) way_e E.ahead) E.ahead.parallel along)) F.ahead)

    -- from the point to the ends
    lows : SamePoint low_e low_f
    lows = ⊎_elim (λ t. absurd (F.first e.low E.low_vertex E.is_low (between-inner low_f z high_f low_e d (between-turned z low_f low_e t))))
        (λ o. ⊎_elim (λ m. m) (λ t. absurd (E.first f.low F.low_vertex F.is_low (between-inner low_e z high_e low_f b (between-turned z low_e low_f t)))) o)
        (on-ray z low_e low_f (SameDirection-trans (toward z low_e) (opposite way_e) (toward z low_f) (ahead-back low_e z way_e to-e)
        (SameDirection-turned (toward z low_f) (opposite way_e) (SameDirection-trans (toward z low_f) (opposite way_f) (opposite way_e) (ahead-back low_f z way_f to-f) (opposite-same way_f way_e (SameDirection-turned way_e way_f ways))))))

    highs : SamePoint high_e high_f
    highs = ⊎_elim (λ t. absurd (F.first e.high E.high_vertex E.is_high (between-outer low_f z high_e high_f d t)))
        (λ o. ⊎_elim (λ m. m) (λ t. absurd (E.first f.high F.high_vertex F.is_high (between-outer low_e z high_f high_e b t))) o)
        (on-ray z high_e high_f (SameDirection-trans (toward z high_e) (toward low_e z) (toward z high_f) (SameDirection-turned (toward low_e z) (toward z high_e) b)
        (SameDirection-trans (toward low_e z) way_e (toward z high_f) to-e (SameDirection-trans way_e way_f (toward z high_f) ways
        (SameDirection-trans way_f (toward low_f z) (toward z high_f) (SameDirection-turned (toward low_f z) way_f to-f) d)))))

    -- they are one
    pub one-edge_through : e ≡ f
    one-edge_through =
        let g = one-vertex e.low f.low E.low_vertex F.low_vertex E.is_low F.is_low lows in
        let h = one-vertex e.high f.high E.high_vertex F.high_vertex E.is_high F.is_high highs in
        let one = is-at_one C.vertices f.low E.low_vertex F.low_vertex (subst (λ (j : ℕ). IsAt C.vertices j E.low_vertex) g E.is_low) F.is_low in
        let other = is-at_one C.vertices f.high E.high_vertex F.high_vertex (subst (λ (j : ℕ). IsAt C.vertices j E.high_vertex) h E.is_high) F.is_high in
        let leaves = subst (λ (x : Vertex). IsAt x.map.svertices e.low_svertex E.low_end) one E.leaves in
        let arrives = subst (λ (x : Vertex). IsAt x.map.svertices e.high_svertex E.high_end) other E.arrives in
        let m = (shaped f.low F.low_vertex F.is_low).svertices_apart e.low_svertex f.low_svertex E.low_end F.low_end leaves F.leaves ways in
        let back = SameDirection-trans E.high_end.dir (opposite way_e) F.high_end.dir (SameDirection-turned (opposite way_e) E.high_end.dir (opposite-way way_e E.high_end.dir E.back))
        (SameDirection-trans (opposite way_e) (opposite way_f) F.high_end.dir (opposite-same way_e way_f ways) (opposite-way way_f F.high_end.dir F.back)) in
        let n = (shaped f.high F.high_vertex F.is_high).svertices_apart e.high_svertex f.high_svertex E.high_end F.high_end arrives F.arrives back in
        let start = is-at_one F.low_vertex.map.svertices f.low_svertex E.low_end F.low_end (subst (λ (j : ℕ). IsAt F.low_vertex.map.svertices j E.low_end) m leaves) F.leaves in
        edges-equal e f g m h n (E.mark ∙ ap (λ (x : MapVertex). x.mark) start ∙ sym F.mark)

  -- the point of an edge is between the ends that the edge has
  pub edge-inside : (k : ℕ) (z : SpacePoint) → IsEdgePoint C k z → (e : Edge) × (E : IsEdge C.vertices e) × IsAt C.edges k e × IsBetween E.low_vertex.point z E.high_vertex.point
  edge-inside k z (e, v, w, a, H, b) =
      let E = S.edges.edges k e a in
      let f = is-at_one C.vertices e.low v E.low_vertex H.low E.is_low in
      let g = is-at_one C.vertices e.high w E.high_vertex H.high E.is_high in
      (e, E, a, subst (λ (x : Vertex). IsBetween E.low_vertex.point z x.point) g (subst (λ (x : Vertex). IsBetween x.point z w.point) f b))

  -- two edges with one number stand in one place, so points lie on one edge where one point is common
  pub one-edge : (i k : ℕ) (z : SpacePoint) → IsEdgePoint C i z → IsEdgePoint C k z → i ≡ k
  one-edge i k z x y =
      let E = edge-inside i z x in
      let F = edge-inside k z y in
      one-place_of i k E.0 F.0 E.2 F.2 (one-edge_through i k E.0 F.0 E.1 F.1 z E.2 F.2 E.3 F.3)
    where
      apart : (i k : ℕ) (e f : Edge) → IsAt C.edges i e → IsAt C.edges k f → e ≡ f → i < k → ⊥
      apart i k e f a b same l = never-below e.low e.low_svertex (subst (λ (g : Edge). IsEdgeBelow e g) (sym same) (S.edges.ordered i k e f l a b))

      one-place_of : (i k : ℕ) (e f : Edge) → IsAt C.edges i e → IsAt C.edges k f → e ≡ f → i ≡ k
      one-place_of i k e f a b same = ⊎_elim (λ n. n) (λ o. ⊎_elim (λ l. absurd (apart i k e f a b same l)) (λ l. absurd (apart k i f e b a (sym same) l)) o) (cases_order i k)

  -- ---- what is first met
  module _ (h : Form) (f : Vector) (j : Corner) where
    -- two things at one point have one corner
    one-place : (m n : PlaneMeet) (x z : SpacePoint) → SamePoint x z → Meets C h m x → Meets C h n z → IsCornerAt C h f n j → IsCornerAt C h f m j
    one-place (meets_vertex i) (meets_vertex k) x z e (v, a, p) (w, b, q) c =
        let same = same-point_trans v.point z w.point (same-point_trans v.point x z p e) (same-point_sym w.point z q) in
        subst (λ (r : ℕ). IsCornerAt C h f (meets_vertex r) j) (sym (one-vertex i k v w a b same)) c
    one-place (meets_vertex i) (meets_edge k) x z e (v, a, p) (q, l) c =
        let E = edge-inside k z q in
        absurd (E.1.first i v a (between-same E.1.low_vertex.point z E.1.high_vertex.point E.1.low_vertex.point v.point E.1.high_vertex.point (same-itself E.1.low_vertex.point) (same-point_sym v.point z (same-point_trans v.point x z p e)) (same-itself E.1.high_vertex.point) E.3))
    one-place (meets_edge i) (meets_vertex k) x z e (p, l) (w, b, q) c =
        let E = edge-inside i x p in
        absurd (E.1.first k w b (between-same E.1.low_vertex.point x E.1.high_vertex.point E.1.low_vertex.point w.point E.1.high_vertex.point (same-itself E.1.low_vertex.point) (same-point_sym w.point x (same-point_trans w.point z x q (same-point_sym x z e))) (same-itself E.1.high_vertex.point) E.3))
    one-place (meets_edge i) (meets_edge k) x z e (p, l) (q, m) (g, u, a, t, l', b', t', w', o') =
        let E = edge-inside i x p in
        let F = edge-inside k z q in
        let b = between-same E.1.low_vertex.point x E.1.high_vertex.point E.1.low_vertex.point z E.1.high_vertex.point (same-itself E.1.low_vertex.point) e (same-itself E.1.high_vertex.point) E.3 in
        let one = one-edge_through i k E.0 F.0 E.1 F.1 z E.2 F.2 b F.3 in
        let is = is-at_one C.edges k F.0 g F.2 t in
        (g, u, a, subst (λ (r : Edge). IsAt C.edges i r) (one ∙ is) E.2, l', b', t', w', o')

    pub one-met : (y : SpacePoint) (d : Vector) (m n : PlaneMeet) → IsFirstInPlane C h y d m → IsFirstInPlane C h y d n → IsCornerAt C h f n j → IsCornerAt C h f m j
    one-met y d m n I J c = by (on-ray y I.place J.place (SameDirection-trans (toward y I.place) d (toward y J.place) I.ahead (SameDirection-turned (toward y J.place) d J.ahead)))
      where
        by : IsBetween y I.place J.place ⊎ (SamePoint I.place J.place ⊎ IsBetween y J.place I.place) → IsCornerAt C h f m j
        by (inl b) = absurd (J.first I.place m b I.meets)
        by (inr (inl e)) = one-place m n I.place J.place e I.meets J.meets c
        by (inr (inr b)) = absurd (I.first J.place n b J.meets)

  -- ---- the corner there
  module _ (h : Form) (d : Vector) (some : IsDirection d) (level : slope h d ≡ pos 0) (j k : Corner) where
    pub one-corner : (m : PlaneMeet) → IsCornerAt C h d m j → IsCornerAt C h d m k → j ≡ k
    one-corner (meets_vertex i) (v, x, e, c, r, o) (w, z, f, b, t, q) =
        let n = e ∙ sym f in
        let same = is-at_one C.vertices k.vertex v w (subst (λ (a : ℕ). IsAt C.vertices a v) n c.vertex) b.vertex in
        let item = subst (λ (u : Vertex). IsAt (items u.map) j.item x) same c.item in
        let on = subst (λ (u : Vertex). OnItem u.map x d) same o in
        corners-equal j k n ((shaped k.vertex w b.vertex).no_items_meet j.item k.item x z d item b.item on q)
    one-corner (meets_edge i) (e, v, a, l, p, b, t, r, o) (f, w, c, m, q, g, u, z, x) =
        let one = is-at_one C.edges i e f l m in
        let E = S.edges.edges i f m in
        let low = is-at_one C.vertices f.low v E.low_vertex (subst (λ (y : Edge). IsAt C.vertices y.low v) one b) E.is_low in
        let low' = is-at_one C.vertices f.low w E.low_vertex g E.is_low in
        let side = subst (λ (y : Vertex). IsArcOnSide y f.low_svertex (normal_of h) d a) low (subst (λ (y : Edge). IsArcOnSide v y.low_svertex (normal_of h) d a) one o) in
        let side' = subst (λ (y : Vertex). IsArcOnSide y f.low_svertex (normal_of h) d c) low' x in
        corners-equal j k (p ∙ ap (λ (y : Edge). y.low) one ∙ sym q)
        (one-arc E.low_vertex.map (shaped f.low E.low_vertex E.is_low) f.low_svertex E.low_end E.leaves (normal_of h) d some level E.low_vertex.point j.item k.item a c
        (subst (λ (y : Vertex). IsAt y.map.arcs j.item a) low t) (subst (λ (y : Vertex). IsAt y.map.arcs k.item c) low' u) r z side side')

  -- a ray names at most one corner
  pub one-named : (h : Form) (y : SpacePoint) (d : Vector) → IsDirection (opposite d) → slope h (opposite d) ≡ pos 0 → (j k : Corner) → RayNames C h y d j → RayNames C h y d k → j ≡ k
  one-named h y d some level j k (m, I, a) (n, J, b) = one-corner h (opposite d) some level j k m a (one-met h (opposite d) k y d m n I J b)
