-- What falls beside a vertex of a plane from which an edge runs down along up: it falls beside the edge.
use Rattle.nef_conn.proofs.Prelude.{◌≡◌, ℕ, ◌+◌, ℤ, pos, ◌<ℤ◌, arith, refl, ap, sym, inl, inr, ⊎_elim, subst, ints, Chained, FlatDim, IsVertex, SpacePoint, Form, form_at, normal_of, slope, SamePoint, InFrame, toward, IsBetween, IsPointBelow, Set, Vector, blend, dot, cross, opposite, IsZero, IsDirection, SameDirection, up, ahead, forms, IsAt, MapVertex, around_svertex, HasArc, Shaped, amount, is-at_one, sees-around, Vertex, Edge, Complex, HasEnds, Shows, VertexSide, RayDown, ahead-back, plane-ahead, svertex-edge, VolumeLink, around_ends, IsUpright, EdgeWays, edge-ways, AreLinkedWhereJoined, sliced, point_below-same, triple-dot, SameDirection-turned, SameDirection-trans, dir-self, opposite-turned, opposite-same, dot-opposite, level-way, opposite-way, opposite-twice, direction-left}
use Rattle.nef_space.proofs.Chains.{chain-trans, chain-turned, chain-link}
use Rattle.nef_conn.proofs.Claims.{Claim}
use Rattle.nef_conn.proofs.Downs.{along-up}
use Rattle.nef_conn.proofs.Fall.{lam-zero}
use Rattle.nef_conn.proofs.Leaves.{toward-same}
use Rattle.nef_conn.proofs.Near.{Wedge, wedge-way, wedge-on}
use Rattle.nef_conn.proofs.NearOver.{blend-rises}
use Rattle.nef_conn.proofs.RaysEnd.{free-toward}
use Rattle.nef_conn.proofs.SliceStrip.{lam, Clear}
use Rattle.nef_conn.proofs.Touch.{Seer, bound, Touch, vertex-frame, meet, touched, turn-touch, no-way}
use Rattle.nef_conn.proofs.Upright.{lone-along, aside-any, up-square, beside-edge}
use Rattle.law_geometry.proofs.near.Normals.{toward-normal, normal-kept}

module _ (s : Set) (C : Complex) (S : Shows s C) (upright : IsUpright C) (linked : AreLinkedWhereJoined s C) where
  module _ (h : Form) (hn : IsDirection (normal_of h)) (level : slope h up ≡ pos 0) where
    abbrev n : Vector
    n = normal_of h

    -- ---- a vertex from which an edge runs down
    module _ (y : SpacePoint) (on-y : form_at h y ≡ pos 0) (i : ℕ) (v : Vertex) (a : IsAt C.vertices i v) (same : SamePoint v.point y) (j : ℕ) (u : MapVertex) (b : IsAt v.map.svertices j u) (runs : SameDirection u.dir (opposite up))
        (claims : (p : SpacePoint) → form_at h p ≡ pos 0 → IsPointBelow p y → IsVertex s p → FlatDim (sliced s h) p 0 → Claim s C S upright linked h hn level p) where
      u-along : IsZero (cross u.dir up)
      u-along = along-up u.dir (let o = runs in o.parallel)

      V' : Shaped v.map
      V' = (S.cones i v a).valid.shaped

      lone-high : HasArc v.map j → ⊥
      lone-high = lone-along s C S upright linked i j v u a b u-along

      module _ (c : SpacePoint) (x z : VertexSide) (on-c : form_at h c ≡ pos 0) (side : pos 0 <ℤ lam (normal_of h) y c) (clear : Clear (sliced s h) h hn level y c) (first : (r : SpacePoint) → IsBetween y r c → FlatDim s r 3) (three : FlatDim s c 3) (inside : InFrame c)
          (T : Touch s C y (vertex-frame s C i v y a same) x (toward y c)) (R : RayDown C c z) (wedge-three : Wedge s 3 y (toward y c) (opposite up)) (wedge-two : Wedge (sliced s h) 2 y (toward y c) (opposite up)) where
        abbrev f : Vector
        f = toward y c

        some-f : IsDirection f
        some-f g = let l = lam-zero n y c g in let k = side in omega (arith, ints)

        free-f : FlatDim s (ahead s y f) 3
        free-f = free-toward s y c some-f first three

        u-some : IsDirection u.dir
        u-some = direction-left u.dir (opposite up) runs

        u-level : dot (cross n up) u.dir ≡ pos 0
        u-level = level-way (cross n up) (opposite up) u.dir (SameDirection-turned u.dir (opposite up) runs) (let g = dot-opposite (cross n up) up in let k = up-square n in omega (arith, ints))

        wedge-u : Wedge s 3 y f u.dir
        wedge-u = wedge-way s 3 y f f (opposite up) u.dir (dir-self f some-f) (SameDirection-turned u.dir (opposite up) runs)
            (λ p q sp sq. blend-rises (cross n up) f u.dir p q sp (subst (λ (k : ℤ). pos 0 <ℤ k) (triple-dot n up f) side) (let l = u-level in omega (arith, ints))) wedge-three

        abbrev N : ℕ
        N = amount (forms v.map) f + 1

        close : FlatDim s (ahead s y (blend N u.dir 1 f)) 3 × Wedge s 3 y f (blend N u.dir 1 f)
        close = wedge-on s 3 y f u.dir N (omega arith) wedge-u

        abbrev high : VertexSide
        high = record { vertex = i; side = around_svertex j }

        -- what touches toward c is linked with the side around the svertex
        to-around : Chained (VolumeLink C) x high
        to-around =
            let o = touched s C S y (vertex-frame s C i v y a same) (blend N u.dir 1 f) close.0 in
            let p = subst (λ (g : Vector). Seer i v o.0 g) (no-way o.1.steps (blend N u.dir 1 f)) o.1.seer in
            let r = V'.around_lone j u b lone-high in
            chain-trans (VolumeLink C) x o.0 high (turn-touch s C S y (vertex-frame s C i v y a same) f (blend N u.dir 1 f) free-f close.0 close.1 x o.0 T o.1)
            (meet s C S i v a o.0 high (blend N u.dir 1 f) p (record { here = refl; label = r.0; has = (u, b, r.1); sees = sees-around v.map V' j u b lone-high f N (omega arith) (aside-any s C S upright linked h hn level u.dir u-some u-along y c side) }))

        -- by the edge
        module _ (k : ℕ) (e : Edge) (l w : Vertex) (d : IsAt C.edges k e) (H : HasEnds C e l w) (at-high : e.high ≡ i) (at-svertex : e.high_svertex ≡ j) where
          abbrev W : EdgeWays e l w
          W = edge-ways s C S k e l w d H

          one : w ≡ v
          one = is-at_one C.vertices i w v (subst (λ (q : ℕ). IsAt C.vertices q w) at-high H.high) a

          high-is : W.high ≡ u
          high-is = is-at_one v.map.svertices j W.high u (subst (λ (q : ℕ). IsAt v.map.svertices q W.high) at-svertex (subst (λ (q : Vertex). IsAt q.map.svertices e.high_svertex W.high) one W.is_high)) b

          along : SameDirection W.low.dir up
          along =
              let g = subst (λ (q : MapVertex). SameDirection q.dir (opposite up)) (sym high-is) runs in
              let p = opposite-same W.high.dir (opposite up) g in
              let q = opposite-way W.high.dir W.low.dir (opposite-turned W.low.dir W.high.dir W.back) in
              subst (λ (r : Vector). SameDirection W.low.dir r) (opposite-twice up) (SameDirection-trans W.low.dir (opposite W.high.dir) (opposite (opposite up)) (SameDirection-turned (opposite W.high.dir) W.low.dir q) p)

          top : SamePoint w.point y
          top = subst (λ (q : Vertex). SamePoint q.point y) (sym one) same

          V'' : Shaped l.map
          V'' = (S.cones e.low l H.low).valid.shaped

          lone-there : HasArc l.map e.low_svertex → ⊥
          lone-there = lone-along s C S upright linked e.low e.low_svertex l W.low H.low W.is_low (let o = along in o.parallel)

          abbrev low : VertexSide
          low = record { vertex = e.low; side = around_svertex e.low_svertex }

          lower : IsPointBelow l.point y
          lower = point_below-same l.point w.point y (S.ordered e.low e.high l w (let E = S.edges.edges k e d in E.upward) H.low H.high) top

          on-l : form_at h l.point ≡ pos 0
          on-l = plane-ahead h y l.point (opposite up) (below-y) (let g = dot-opposite n up in let q = level in omega (arith, ints)) on-y
            where
              from-w : SameDirection (toward w.point l.point) (opposite up)
              from-w = ahead-back l.point w.point up (SameDirection-trans (toward l.point w.point) W.low.dir up W.onward along)

              below-y : SameDirection (toward y l.point) (opposite up)
              below-y = SameDirection-trans (toward y l.point) (toward w.point l.point) (opposite up) (SameDirection-turned (toward w.point l.point) (toward y l.point) (toward-same w.point y l.point top (direction-left (toward w.point l.point) (opposite up) from-w))) from-w

          by-edge : Chained (VolumeLink C) x z
          by-edge =
              let r = V''.around_lone e.low_svertex W.low W.is_low lone-there in
              let r2 = V'.around_lone j u b lone-high in
              let K = bound s l f in
              let link = chain-link (VolumeLink C) low high (inr (inl (record {
                number = k;
                edge = e;
                is_edge = d;
                low_side = around_svertex e.low_svertex;
                high_side = around_svertex e.high_svertex;
                is_low = (r.0, refl, refl, (l, H.low, (W.low, W.is_low, r.1)));
                is_high = (r2.0, sym at-high, ap around_svertex (sym at-svertex), (v, a, (u, b, r2.1)));
                along = around_ends refl refl;
              }))) in
              let seer : Seer e.low l low (blend K W.low.dir 1 f) = record { here = refl; label = r.0; has = (W.low, W.is_low, r.1); sees = sees-around l.map V'' e.low_svertex W.low W.is_low lone-there f K (omega arith) (aside-any s C S upright linked h hn level W.low.dir (direction-left W.low.dir up along) (let o = along in o.parallel) y c side) } in
              let rest = beside-edge s C S upright linked h hn level k e l w d H along y on-y top c x z on-c side clear first three inside R wedge-three wedge-two K (omega arith) low seer (λ g. claims l.point on-l lower (S.vertices e.low l H.low) g) in
              chain-trans (VolumeLink C) x high z to-around (chain-trans (VolumeLink C) high low z (chain-turned (VolumeLink C) low high link) rest)

        -- an edge that begins there goes up
        not-low : (k : ℕ) (e : Edge) (l w : Vertex) (d : IsAt C.edges k e) (H : HasEnds C e l w) → e.low ≡ i → e.low_svertex ≡ j → ⊥
        not-low k e l w d H at-low at-svertex =
            let W = edge-ways s C S k e l w d H in
            let one = is-at_one C.vertices i l v (subst (λ (q : ℕ). IsAt C.vertices q l) at-low H.low) a in
            let is = is-at_one v.map.svertices j W.low u (subst (λ (q : ℕ). IsAt v.map.svertices q W.low) at-svertex (subst (λ (q : Vertex). IsAt q.map.svertices e.low_svertex W.low) one W.is_low)) b in
            let g = subst (λ (q : MapVertex). SameDirection q.dir (opposite up)) (sym is) runs in
            let m = normal-kept (toward l.point w.point) (opposite up) (SameDirection-trans (toward l.point w.point) W.low.dir (opposite up) W.onward g)
            (toward-normal l.point w.point (S.ordered e.low e.high l w (let E = S.edges.edges k e d in E.upward) H.low H.high)) in
            let q = m.first in
            absurd (omega (arith, ints))

        pub down-edge : Chained (VolumeLink C) x z
        down-edge =
            let E = svertex-edge s C S i j v u a b in
            let X = S.edges.edges E.0 E.1 E.2 in
            let H : HasEnds C E.1 X.low_vertex X.high_vertex = record { low = X.is_low; high = X.is_high } in
            ⊎_elim (λ q. absurd (not-low E.0 E.1 X.low_vertex X.high_vertex E.2 H q.0 q.1)) (λ q. by-edge E.0 E.1 X.low_vertex X.high_vertex E.2 H q.0 q.1) E.3
