-- From a facet point of y's line, with a clear way to z: its ray and z's come to one edge, or its ray comes to a vertex beside which z lies.
use Rattle.nef_conn.proofs.Prelude.{◌≡◌, ℕ, pos, ◌<ℤ◌, arith, ap, ◌∙◌, ◌⊎◌, inl, inr, ⊎_elim, subst, ints, sign, by_order, nought-is, Chained, Flat, FlatDim, SpacePoint, Form, form_at, normal_of, SamePoint, toward, IsBetween, Set, Vector, opposite, triple, SameDirection, Drop, FlatDim-one, between-turned, between-inner, even-until, span-1, same-point_sym, between-same, IsAt, is-at_one, Vertex, Edge, Complex, Corner, Shows, IsVertexPoint, IsEdgePoint, LiesIn, PlaneMeet, meets_vertex, meets_edge, IsFirstInPlane, IsCornerAt, RayNames, IsFlatIn, plane-way, between-way, between-start, between-outer, plane-ahead, end-meets, ahead-same, between-level, Cut, HalfEdge, edge-halves, plane-between, FacetLink, level-of_opposite, triple-turned, SameDirection-turned, SameDirection-trans, parallel-trans, parallel-in_plane, level-way, direction-left}
use Rattle.nef_space.proofs.Chains.{chain-here}
use Rattle.nef_conn.proofs.Sweep.{cut-of}
use Rattle.nef_conn.proofs.Triangles.{across-way}
use Rattle.nef_conn.proofs.OneNamed.{one-named}
use Rattle.nef_conn.proofs.FacetStrip.{Strip, m-some, level-m, strip, near-turn, beyond, short-of, angle-ahead, angle-over, On_far_line, at_start, ahead_of, behind_of, on-far_line, fan, not-at, not-behind}
use Rattle.nef_conn.proofs.Beside.{near, far, near-onward, Beside, beside-facet, vertex-not}
use Rattle.nef_conn.proofs.OverEdge.{first-on}
use Rattle.law_geometry.proofs.near.Same.{dim-same}
use Rattle.nef_space.proofs.Elementary.{same-itself}

module _ (s : Set) (C : Complex) (S : Shows s C) (h g : Form) (d : Vector) (y z : SpacePoint) (T : Strip s C h g d y z) where
  abbrev n : Vector
  n = normal_of h

  abbrev m : Vector
  m = normal_of g

  abbrev Near : Form
  Near = near s C S h g d y z T

  abbrev Far : Form
  Far = far s C S h g d y z T

  module _ (b : SpacePoint) (on-b : form_at h b ≡ pos 0) (near-b : form_at Near b ≡ pos 0) (F : IsFlatIn s h b) (clear : (r : SpacePoint) → IsBetween b r z → FlatDim s r 2) where
    off-edges : FlatDim s b 1 → ⊥
    off-edges f = let j = FlatDim-one s b 1 2 f F.0 in cc

    -- up to what its ray first meets two directions are flat
    until : (q : PlaneMeet) (I : IsFirstInPlane C h b d q) → (r : SpacePoint) → IsBetween b r I.place → FlatDim s r 2
    until q I = ⊎_elim (λ f. f) (λ D. absurd (none D)) (even-until s 2 b I.place F.0 ((F.1 (toward b I.place)).1 (level-way n d (toward b I.place) (SameDirection-turned (toward b I.place) d I.ahead) T.level)))
      where
        none : Drop s 2 b I.place → ⊥
        none D =
            let t = D.at_place in
            let to-t = SameDirection-trans (toward b t) (toward b I.place) d (between-way b t I.place D.between) I.ahead in
            let e = end-meets s C S h b t (between-start b t I.place D.between) F.0 F.1 D.even_before (plane-ahead h b t d to-t T.level on-b) D.drops in
            I.first t e.0 D.between e.1

    -- ---- it meets a vertex
    module _ (k : Corner) (i : ℕ) (I : IsFirstInPlane C h b d (meets_vertex i)) where
      at-vertex : IsVertexPoint C i I.place → IsCornerAt C h (opposite d) (meets_vertex i) k → (N : Beside s C S h g d y z T k) × SameDirection (toward b N.vertex.point) d
      at-vertex (u, a, e) (v, x, f, K, r, o) =
          let one = is-at_one C.vertices i u v a (subst (λ (j : ℕ). IsAt C.vertices j v) f K.vertex) in
          let same = subst (λ (t : Vertex). SamePoint t.point I.place) one e in
          let up = ahead-same b I.place v.point d same I.ahead in
          let on = plane-ahead h b v.point d up T.level on-b in
          let N = beside-facet s C S h g d y z T b on-b near-b F.0 clear k v x K r on up
          (λ t c. until (meets_vertex i) I t (between-same b t v.point b t I.place (same-itself b) (same-itself t) same c)) o in
          (N, subst (λ (t : Vertex). SameDirection (toward b t.point) d) (is-at_one C.vertices k.vertex v N.vertex K.vertex N.corner.vertex) up)

    -- ---- it meets an edge
    module _ (i : ℕ) (J : IsFirstInPlane C h b d (meets_edge i)) where
      abbrev x : SpacePoint
      x = J.place

      x-on : form_at h x ≡ pos 0
      x-on = plane-ahead h b x d J.ahead T.level on-b

      x-near : form_at Near x ≡ pos 0
      x-near = near-onward s C S h g d y z T b x J.ahead near-b

      reach : (r : SpacePoint) → IsBetween z r x → FlatDim s r 2
      reach = fan s C S h g d y z T b x on-b x-on near-b (let e = x-near in omega (arith, ints)) (let l = short-of s C S h g d y z T x x-near in omega (arith, ints)) (angle-ahead s C S h g d y z T b x near-b J.ahead) clear
          (inl (inl (off-edges, until (meets_edge i) J))) (λ j v t at-j e _ _. vertex-not s C S h g d y z T 2 j b v at-j e (omega (arith, ints)) F.0)

      -- the edge goes on to the right
      module _ (j : ℕ) (c : Vertex) (at-j : IsAt C.vertices j c) (on-c : form_at h c.point ≡ pos 0) (E : HalfEdge s x c.point) (right : pos 0 <ℤ form_at Near c.point)
          (points : (r : SpacePoint) → IsBetween x r c.point → IsEdgePoint C i r) (lies : LiesIn C h i) where
        X : Cut Far x c.point
        X = cut-of Far x c.point (inr (short-of s C S h g d y z T x x-near, strip s C S h g d y z T j c at-j on-c right))

        abbrev t : SpacePoint
        t = X.place

        t-on : form_at h t ≡ pos 0
        t-on = plane-between h x t c.point X.between x-on on-c

        edge : (r : SpacePoint) → IsBetween x r t ⊎ SamePoint r t → FlatDim s r 1
        edge r (inl o) = E.all r (between-inner x t c.point r X.between o)
        edge r (inr e) = dim-same s t r 1 (same-point_sym r t e) (E.all t X.between)

        along : Flat s x (toward x t)
        along = span-1 s x (toward x c.point) (toward x t) E.leads E.flat (let w = SameDirection-turned (toward x t) (toward x c.point) (between-way x t c.point X.between) in w.parallel)

        met : On_far_line s C S h g d y z T t → IsFirstInPlane C h z d (meets_edge i)
        met (at_start e) = absurd (not-at s C S h g d y z T x b t x-on on-b t-on x-near near-b J.ahead X.level clear edge e)
        met (behind_of w) = absurd (not-behind s C S h g d y z T x b t x-on on-b t-on x-near near-b J.ahead X.level clear edge w)
        met (ahead_of w) = first-on s C S h g d y z T t (meets_edge i) w (points t X.between, lies)
            (fan s C S h g d y z T x t x-on t-on x-near (let l = beyond s C S h g d y z T t (let e = X.level in omega (arith, ints)) in omega (arith, ints)) (let e = X.level in omega (arith, ints)) (angle-over s C S h g d y z T x t x-near w)
            (λ r o. reach r (between-turned x z r o)) (inl (inr (E.one, along, λ r o. edge r (inl o)))) (λ l v q at-l e _ _. vertex-not s C S h g d y z T 1 l x v at-l e (omega (arith, ints)) E.one))

        to-right : IsFirstInPlane C h z d (meets_edge i)
        to-right = met (on-far_line s C S h g d y z T t t-on X.level)

      -- it doesn't lie on y's line
      not-on_line : (c : SpacePoint) → form_at h c ≡ pos 0 → HalfEdge s x c → form_at Near c ≡ pos 0 → ⊥
      not-on_line c on E e =
          let flat = nought-is (triple m (toward b c) d) (near-turn s C S h g d y z T b c near-b ∙ ap sign e) in
          let turn : triple m d (toward b c) ≡ pos 0 = (let r = triple-turned m d (toward b c) in omega (arith, ints)) in
          let o = parallel-in_plane m d (toward b c) (m-some s C S h g d y z T) (level-m s C S h g d y z T) (plane-way g b c (T.too b on-b) (T.too c on)) turn in
          across-way s b x c (direction-left (toward b x) d J.ahead) (until (meets_edge i) J) E (parallel-trans (toward b x) d (toward b c) T.some J.ahead.parallel o)

      at-edge : IsEdgePoint C i x × LiesIn C h i → IsFirstInPlane C h z d (meets_edge i)
      at-edge ((e, v, w, a, H, o), (e', v', w', a', H', p, q)) =
          let one = is-at_one C.edges i e' e a' a in
          let low = is-at_one C.vertices e.low v' v (subst (λ (r : Edge). IsAt C.vertices r.low v') one H'.low) H.low in
          let high = is-at_one C.vertices e.high w' w (subst (λ (r : Edge). IsAt C.vertices r.high w') one H'.high) H.high in
          by (subst (λ (r : Vertex). form_at h r.point ≡ pos 0) low p) (subst (λ (r : Vertex). form_at h r.point ≡ pos 0) high q)
        where
          lies : LiesIn C h i
          lies = (e', v', w', a', H', p, q)

          by : form_at h v.point ≡ pos 0 → form_at h w.point ≡ pos 0 → IsFirstInPlane C h z d (meets_edge i)
          by on-v on-w =
              let half = edge-halves s C S i e v w x a H o in
              by_order (form_at Near v.point) (pos 0)
              (λ l. to-right e.high w H.high on-w half.1 (between-level Near v.point x w.point o x-near l) (λ r c. (e, v, w, a, H, between-outer v.point x r w.point o c)) lies)
              (λ f. absurd (not-on_line v.point on-v half.0 f))
              (λ l. to-right e.low v H.low on-v half.0 l (λ r c. (e, v, w, a, H, between-inner v.point x w.point r o (between-turned x v.point r c))) lies)

    -- ---- what its ray names is what z's ray names, or an item beside which z lies, of a vertex ahead
    pub from-facet : (k l : Corner) → RayNames C h b d k → RayNames C h z d l → Chained (FacetLink C) k l ⊎ ((N : Beside s C S h g d y z T k) × SameDirection (toward b N.vertex.point) d)
    from-facet k l (meets_vertex i, I, c) named = inr (at-vertex k i I I.meets c)
    from-facet k l (meets_edge i, I, c) named = inl (
        let one = one-named s C S h z d (λ q. T.some (let x = q.0 in omega (arith, ints), let x = q.1 in omega (arith, ints), let x = q.2 in omega (arith, ints))) (level-of_opposite n d T.level) k l (meets_edge i, at-edge i I I.meets, c) named in
        subst (λ (j : Corner). Chained (FacetLink C) k j) one (chain-here (FacetLink C) k)
        )
