-- The side above the point where a ray down ends is one, up to its sface.
use Rattle.nef_volumes.proofs.Prelude.{◌≡◌, ℕ, ◌+◌, pos, ◌⊎◌, inl, inr, arith, ap, sym, ◌∙◌, subst, SpacePoint, Form, form_at, normal_of, SamePoint, toward, IsBetween, Set, Vector, IsDirection, SameDirection, dot, cross, opposite, blend, plane_axis, up, Label, same-point_sym, between-same, IsAt, item_normal, pos_item, Side, dir_of, HasSide, Sees, InOneSface, here, link, BoundsSector, normals-same, on-level, normal-is, is-at_one, bounds-sees, Vertex, Edge, Complex, Corner, Shows, item_plane, IsVertexPoint, IsEdgePoint, Spot, at_vertex, on_edge, in_facet, IsSpot, HasCorner, VertexSide, HasSideLabel, IsAbove, RayDown, same-point_trans, facet-point, through-at, through-level, axis-in, LinkInSface, through-same, corner-same as corner-like, level-of_opposite, one-vertex, one-named, SameDirection-turned, SameDirection-trans}
use Rattle.law_geometry.proofs.sphere.cones.Smooth.{parallel-by}
use Rattle.nef_conn.proofs.WayInward.{names-same}
use Rattle.nef_locate.proofs.SameAxis.{axis-same}
use Rattle.nef_conn.proofs.OneNamed.{one-edge_through, edge-inside}
use Rattle.nef_conn.proofs.SameRay.{on-ray}
use Rattle.nef_space.proofs.Vectors.{square-cross, direction-opposite}
use Rattle.nef_space.proofs.Elementary.{same-itself}

module _ (s : Set) (C : Complex) (S : Shows s C) where
  -- ---- links in one sface
  pub linked : (x y : VertexSide) (v : Vertex) (l m : Label) → IsAt C.vertices x.vertex v → y.vertex ≡ x.vertex → HasSideLabel C x l → HasSideLabel C y m → (d : Vector) → Sees v.map x.side d → Sees v.map y.side d → LinkInSface C x y
  linked x y v l m a e (u, b, h) (w, c, i) d f g =
      let one = is-at_one C.vertices x.vertex u v b a in
      let other = is-at_one C.vertices x.vertex w v (subst (λ (n : ℕ). IsAt C.vertices n w) e c) a in
      let j = subst (λ (r : Vertex). HasSide r.map y.side m) other i in
      record {
        vertex = v;
        is_vertex = a;
        one_vertex = e;
        one = l;
        other = m;
        has = subst (λ (r : Vertex). HasSide r.map x.side l) one h;
        has_other = j;
        one_sface = link x.side y.side y.side m j (d, f, g) (here y.side);
      }

  linked-same : (x y : VertexSide) (l m : Label) → y.vertex ≡ x.vertex → x.side ≡ y.side → HasSideLabel C x l → HasSideLabel C y m → LinkInSface C x y
  linked-same x y l m e f (v, a, h) (w, c, i) =
      let other = is-at_one C.vertices x.vertex w v (subst (λ (n : ℕ). IsAt C.vertices n w) e c) a in
      record {
        vertex = v;
        is_vertex = a;
        one_vertex = e;
        one = l;
        other = m;
        has = h;
        has_other = subst (λ (r : Vertex). HasSide r.map y.side m) other i;
        one_sface = subst (λ (o : Side). InOneSface v.map x.side o) f (here x.side);
      }

  linked-sector : (e : Edge) (x y : VertexSide) (v w : Vertex) (l m : Label) → IsAt C.vertices e.low v → IsAt C.vertices e.low w → x.vertex ≡ e.low → y.vertex ≡ e.low → HasSideLabel C x l → HasSideLabel C y m
      → BoundsSector v.map e.low_svertex up x.side → BoundsSector w.map e.low_svertex up y.side → LinkInSface C x y
  linked-sector e x y v w l m a b f g h i o p =
      let one = is-at_one C.vertices e.low w v b a in
      let V = (S.cones e.low v a).valid.shaped in
      let s = bounds-sees v.map V e.low_svertex up x.side o in
      let t = bounds-sees v.map V e.low_svertex up y.side (subst (λ (r : Vertex). BoundsSector r.map e.low_svertex up y.side) one p) in
      let d = blend (s.0 + t.0) (dir_of v.map.svertices e.low_svertex) 1 up in
      linked x y v l m (subst (λ (r : ℕ). IsAt C.vertices r v) (sym f) a) (g ∙ sym f) h i d (s.1 (s.0 + t.0) (omega arith)) (t.1 (s.0 + t.0) (omega arith))

  -- ---- where two rays end
  one-end : (p : SpacePoint) (x y : VertexSide) (R : RayDown C p x) (Q : RayDown C p y) → SamePoint Q.place R.place
  one-end p x y R Q = by (on-ray p Q.place R.place (SameDirection-trans (toward p Q.place) (opposite up) (toward p R.place) Q.ahead (SameDirection-turned (toward p R.place) (opposite up) R.ahead)))
    where
      by : IsBetween p Q.place R.place ⊎ SamePoint Q.place R.place ⊎ IsBetween p R.place Q.place → SamePoint Q.place R.place
      by (inl b) = absurd (R.first Q.place b (Q.spot, Q.is_spot))
      by (inr (inl e)) = e
      by (inr (inr b)) = absurd (Q.first R.place b (R.spot, R.is_spot))

  no-vertex_on_edge : (k j : ℕ) (y z : SpacePoint) → SamePoint y z → IsVertexPoint C k y → IsEdgePoint C j z → ⊥
  no-vertex_on_edge k j y z e (v, a, p) q =
      let E = edge-inside s C S j z q in
      E.1.first k v a (between-same E.1.low_vertex.point z E.1.high_vertex.point E.1.low_vertex.point v.point E.1.high_vertex.point (same-itself E.1.low_vertex.point) (same-point_sym v.point z (same-point_trans v.point y z p e)) (same-itself E.1.high_vertex.point) E.3)

  edges-one : (i k : ℕ) (y z : SpacePoint) (e f : Edge) → SamePoint y z → IsEdgePoint C i y → IsEdgePoint C k z → IsAt C.edges i e → IsAt C.edges k f → e ≡ f
  edges-one i k y z e f o p q a b =
      let E = edge-inside s C S i y p in
      let F = edge-inside s C S k z q in
      let m = between-same E.1.low_vertex.point y E.1.high_vertex.point E.1.low_vertex.point z E.1.high_vertex.point (same-itself E.1.low_vertex.point) o (same-itself E.1.high_vertex.point) E.3 in
      is-at_one C.edges i e E.0 a E.2 ∙ one-edge_through s C S i k E.0 F.0 E.1 F.1 z E.2 F.2 m F.3 ∙ is-at_one C.edges k F.0 f F.2 b

  -- ---- the corner of a facet point is one
  module _ (z : SpacePoint) (j k : Corner) (H : HasCorner C z j) (K : HasCorner C z k) where
    some-n : IsDirection (item_normal H.item)
    some-n = normal-is (S.cones H.beside.vertex H.vertex H.is_beside.vertex).valid.shaped H.beside.item H.item H.is_beside.item

    some-m : IsDirection (item_normal K.item)
    some-m = normal-is (S.cones K.beside.vertex K.vertex K.is_beside.vertex).valid.shaped K.beside.item K.item K.is_beside.item

    level-too : (d : Vector) → dot (item_normal H.item) d ≡ pos 0 → dot (item_normal K.item) d ≡ pos 0
    level-too d e =
        let F = facet-point s C S H.beside H.vertex H.item z H.is_beside H.facet_point in
        let G = facet-point s C S K.beside K.vertex K.item z K.is_beside K.facet_point in
        (G.flat d).0 ((F.flat d).1 e)

    ways : SameDirection (item_normal H.item) (item_normal K.item)
    ways =
        let axis = axis-in (item_normal H.item) some-n in
        let d = plane_axis (item_normal H.item) in
        normals-same (item_normal H.item) (item_normal K.item) ((S.cones H.beside.vertex H.vertex H.is_beside.vertex).valid.shaped.normals H.beside.item H.item H.is_beside.item)
        ((S.cones K.beside.vertex K.vertex K.is_beside.vertex).valid.shaped.normals K.beside.item K.item K.is_beside.item)
        (parallel-by (item_normal H.item) d (item_normal K.item) axis.0 axis.1 (level-too d axis.1) (level-too (cross (item_normal H.item) d) (square-cross (item_normal H.item) d)))

    abbrev g : Form
    g = item_plane H.vertex H.item

    abbrev h : Form
    h = item_plane K.vertex K.item

    on-g : form_at (item_plane H.vertex H.item) z ≡ pos 0
    on-g = through-at (item_normal H.item) H.vertex.point z ∙ on-level H.vertex.map H.item (toward H.vertex.point z) H.facet_point.on_item

    on-h : form_at (item_plane K.vertex K.item) z ≡ pos 0
    on-h = through-at (item_normal K.item) K.vertex.point z ∙ on-level K.vertex.map K.item (toward K.vertex.point z) K.facet_point.on_item

    planes : SameDirection (normal_of (item_plane K.vertex K.item)) (normal_of (item_plane H.vertex H.item))
    planes = SameDirection-trans (normal_of h) (item_normal K.item) (normal_of g) (SameDirection-turned (item_normal K.item) (normal_of h) (through-same (item_normal K.item) K.vertex.point some-m))
        (SameDirection-trans (item_normal K.item) (item_normal H.item) (normal_of g) (SameDirection-turned (item_normal H.item) (item_normal K.item) ways) (through-same (item_normal H.item) H.vertex.point some-n))

    axes : SameDirection (plane_axis (item_normal K.item)) (plane_axis (item_normal H.item))
    axes = axis-same (item_normal K.item) (item_normal H.item) (SameDirection-turned (item_normal H.item) (item_normal K.item) ways)

    pub corner-one : j ≡ k
    corner-one =
        let d = plane_axis (item_normal H.item) in
        let f = plane_axis (item_normal K.item) in
        let axis = axis-in (item_normal H.item) some-n in
        let r = K.named in
        let level = (through-level (item_normal H.item) (opposite d) H.vertex.point).0 (level-of_opposite (item_normal H.item) d axis.1) in
        one-named s C S g z d (direction-opposite d axis.0) level j k H.named
        (names-same C h g z on-h on-g planes f d axes k r)

  -- ---- sides above one point are of one sface
  module _ (x y : VertexSide) (l m : Label) (has : HasSideLabel C x l) (has_other : HasSideLabel C y m) where
    off : (z : SpacePoint) (k : Corner) → HasCorner C z k → (i : ℕ) → IsVertexPoint C i z ⊎ IsEdgePoint C i z → ⊥
    off z k H i o = H.facet_point.off_edges (i, o)

    vertex-like : (p z : SpacePoint) (k : ℕ) → SamePoint p z → IsVertexPoint C k p → IsVertexPoint C k z
    vertex-like p z k e (v, a, f) = (v, a, same-point_trans v.point p z f e)

    edge-like : (p z : SpacePoint) (k : ℕ) → SamePoint p z → IsEdgePoint C k p → IsEdgePoint C k z
    edge-like p z k e (g, v, w, a, H, b) = (g, v, w, a, H, between-same v.point p w.point v.point z w.point (same-itself v.point) e (same-itself w.point) b)

    same-above : (q z : SpacePoint) → SamePoint q z → (t r : Spot) → IsSpot C t q → IsSpot C r z → IsAbove C q t x → IsAbove C z r y → LinkInSface C x y
    same-above q z o (at_vertex k) (at_vertex j) (v, a, e) (w, b, f) (u, c, g, sx) (t, d, n, sy) =
        let i = one-vertex s C S k j v w a b (same-point_trans v.point q w.point e (same-point_sym w.point q (same-point_trans w.point z q f (same-point_sym q z o)))) in
        linked x y u l m (subst (λ (r : ℕ). IsAt C.vertices r u) (sym g) c) (n ∙ sym i ∙ sym g) has has_other up sx
        (subst (λ (r : Vertex). Sees r.map y.side up) (is-at_one C.vertices k t u (subst (λ (r : ℕ). IsAt C.vertices r t) (sym i) d) c) sy)
    same-above q z o (at_vertex k) (on_edge j) p r a b = absurd (no-vertex_on_edge k j q z o p r)
    same-above q z o (at_vertex k) (in_facet j) p r a (c, H, e, f) = absurd (off z c H k (inl (vertex-like q z k o p)))
    same-above q z o (on_edge k) (at_vertex j) p r a b = absurd (no-vertex_on_edge j k z q (same-point_sym q z o) r p)
    same-above q z o (on_edge k) (on_edge j) p r (e, v, a, b, f, sx) (g, w, c, d, h, sy) =
        let i = edges-one k j q z e g o p r a c in
        linked-sector e x y v w l m b (subst (λ (n : Edge). IsAt C.vertices n.low w) (sym i) d) f (h ∙ ap (λ (n : Edge). n.low) (sym i)) has has_other sx
        (subst (λ (n : Edge). BoundsSector w.map n.low_svertex up y.side) (sym i) sy)
    same-above q z o (on_edge k) (in_facet j) p r a (c, H, e, f) = absurd (off z c H k (inr (edge-like q z k o p)))
    same-above q z o (in_facet k) (at_vertex j) p r (c, H, e, f) b = absurd (off q c H j (inl (vertex-like z q j (same-point_sym q z o) r)))
    same-above q z o (in_facet k) (on_edge j) p r (c, H, e, f) b = absurd (off q c H j (inr (edge-like z q j (same-point_sym q z o) r)))
    same-above q z o (in_facet k) (in_facet j) p r (c, H, e, f) (d, K, g, h) =
        let i = corner-one z c d (corner-like C q z o c H) K in
        linked-same x y l m (g ∙ ap (λ (n : Corner). n.vertex) (sym i) ∙ sym e) (f ∙ ap (λ (n : Corner). pos_item n.item) i ∙ sym h) has has_other

  -- TWO SIDES ABOVE THE POINT WHERE A RAY DOWN ENDS ARE OF ONE SFACE
  pub one-below : (p : SpacePoint) (x y : VertexSide) → RayDown C p x → RayDown C p y → LinkInSface C x y
  one-below p x y R Q = same-above x y R.label Q.label R.has Q.has R.place Q.place (same-point_sym Q.place R.place (one-end p x y R Q)) R.spot Q.spot R.is_spot Q.is_spot R.above Q.above
