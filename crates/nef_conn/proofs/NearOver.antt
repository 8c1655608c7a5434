-- Sides above the two ends' views of an edge are linked; so what lies above a vertex or an edge is linked with what lies above the edge or facet that leaves it in the first direction, down from up, that isn't free.
use Rattle.nef_conn.proofs.Prelude.{◌≡◌, ℕ, zero, suc, ◌<◌, ℤ, pos, ◌<ℤ◌, ◌≤ℤ◌, arith, refl, sym, ◌∙◌, inl, inr, ⊎_elim, subst, ints, mul_pos, mul_nonneg, Chained, Flat, FlatDim, SpacePoint, plane_through, toward, IsBetween, Set, Vector, blend, dot, cross, IsZero, IsDirection, SameDirection, up, Drop, IsFlatBelow, FlatDim-one, FlatDim-by_germs, dir-at, Decided, decided-or, ahead, near-ahead, even-until, flat-nearby, flat-toward, span-1, Flat-from_cone, FlatCone-from_flat, near-of_flat, toward-point, IsAt, MapVertex, Arc, arc_item, around_svertex, HasArc, Shaped, dir_of, at-arc, search_list, dot-comb, normal-is, same-plus, sees-around, Vertex, Edge, Complex, HasEnds, IsCorner, Shows, VertexSide, edge-points, through-at, between-plus, between-start, VolumeLink, around_ends, IsUpright, EdgeWays, edge-ways, tied-low, tied-high, end-level, close_way, on-close, tied-close_way, corner_of_numbers, facet-near, level-opposite, ahead-close, ahead-toward, tied-turned, tied-both, tied-ahead, AreLinkedWhereJoined, EndsAt, dot-zero, SameDirection-turned, dir-self, dir-signs, in-span, opposite-turned, parallel-trans, level-way, direction-left, direction-right, eq-decided}
use Rattle.nef_conn.proofs.Onward.{side-of}
use Rattle.nef_conn.proofs.FirstMet.{all-flat}
use Rattle.nef_space.proofs.Chains.{chain-trans, chain-turned, chain-link}
use Rattle.nef_conn.proofs.Fans.{IsOff, off-ahead, off-between, off-dim}
use Rattle.nef_conn.proofs.Hits.{items-above, above}
use Rattle.nef_conn.proofs.Near.{Wedge, wedge-way, wedge-of, slot, to-slot}
use Rattle.nef_conn.proofs.RaysEnd.{tied-dim}
use Rattle.nef_conn.proofs.Touch.{Frame, Touch, edge-frame, tied-frame, same-seers}
use Rattle.law_geometry.proofs.near.Same.{dim-same}

pub up-some : IsDirection up
up-some z = let e = z.2 in omega (arith, ints)

-- a blend of what isn't below a plane and of what is above it
pub blend-rises : (n f g : Vector) (i j : ℕ) → 0 < i → pos 0 <ℤ dot n f → pos 0 ≤ℤ dot n g → IsDirection (blend i f j g)
blend-rises n f g i j si a b z =
    let e = sym (dot-comb n (pos i) f (pos j) g) ∙ dot-zero n (blend i f j g) z in
    let p = mul_pos (pos i) (dot n f) (omega (arith, ints)) a in
    let q = mul_nonneg (pos j) (dot n g) (omega (arith, ints)) b in
    omega (arith, ints)

module _ (s : Set) (C : Complex) (S : Shows s C) (upright : IsUpright C) (linked : AreLinkedWhereJoined s C) where
  -- ---- the two views of an edge
  module _ (k : ℕ) (e : Edge) (v w : Vertex) (a : IsAt C.edges k e) (H : HasEnds C e v w) (z : SpacePoint) (b : IsBetween v.point z w.point) (free : FlatDim s (ahead s z up) 3) where
    abbrev W : EdgeWays e v w
    W = edge-ways s C S k e v w a H

    abbrev D : Vector
    D = W.low.dir

    abbrev low-frame : Frame s C z
    low-frame = edge-frame s C S k e v w z a H b

    abbrev pub high-frame : Frame s C z
    high-frame = tied-frame s C e.high w z (edge-ways s C S k e v w a H).high.dir H.high (tied-high s C S k e v w a H z b)

    d-some : IsDirection D
    d-some = direction-right (toward v.point w.point) D W.onward

    flat-d : Flat s z D
    flat-d = let E = edge-points s C k e v w z S a H b in (E.1 D).1 (same-parallel W.is_low)
      where
        same-parallel : IsAt v.map.svertices e.low_svertex W.low → IsZero (cross (dir_of v.map.svertices e.low_svertex) D)
        same-parallel h = subst (λ (r : Vector). IsZero (cross r D)) (sym (dir-at v.map.svertices e.low_svertex W.low h)) (let o = dir-self D d-some in o.parallel)

    module _ (x y : VertexSide) (T : Touch s C z low-frame x up) (U : Touch s C z high-frame y up) where
      -- by the first direction in which a facet leaves the edge
      by-first : (g : Vector) → FlatDim s (ahead s z g) 2 → Wedge s 3 z up g → Chained (VolumeLink C) x y
      by-first g two all =
          let L = slot s C S upright z low-frame g two in
          let R = slot s C S upright z high-frame g two in
          chain-trans (VolumeLink C) x (above L.corner) y (to-slot s C S upright z low-frame g two up (λ p q. refl) free all x T)
          (chain-trans (VolumeLink C) (above L.corner) (above R.corner) y (items-above s C S linked (ahead s z g) L.corner R.corner L.item R.item)
          (chain-turned (VolumeLink C) y (above R.corner) (to-slot s C S upright z high-frame g two up (λ p q. refl) free all y U)))

      module _ (n h : Vector) (along : dot n D ≡ pos 0) (level : dot n h ≡ pos 0) (high : pos 0 <ℤ dot n up) (some : IsDirection h) (two : FlatDim s (ahead s z h) 2) where
        abbrev P : SpacePoint
        P = ahead s z up

        abbrev Q : SpacePoint
        Q = ahead s z h

        to-P : SameDirection (toward z P) up
        to-P = ahead-toward s z up up-some

        to-Q : SameDirection (toward z Q) h
        to-Q = ahead-toward s z h some

        apart : IsDirection (toward P Q)
        apart o = let e = FlatDim-one s Q 3 2 (dim-same s P Q 3 (toward-point P Q o) free) two in absurd (omega arith)

        level-Q : dot n (toward z Q) ≡ pos 0
        level-Q = level-way n h (toward z Q) (SameDirection-turned (toward z Q) h to-Q) level

        high-P : pos 0 <ℤ dot n (toward z P)
        high-P = same-plus (dot n up) (dot n (toward z P)) (dir-signs up (toward z P) n up-some (SameDirection-turned (toward z P) up to-P)) high

        from : (q : SpacePoint) → IsOff s z q → IsDirection (toward z q) → pos 0 ≤ℤ dot n (toward z q) → IsDirection (toward P q) → ((r : SpacePoint) → IsBetween P r q → FlatDim s r 3) → FlatDim s (ahead s z (toward z q)) 2 → Chained (VolumeLink C) x y
        from q off i l j all dim = by-first (toward z q) dim
            (wedge-way s 3 z (toward z P) up (toward z q) (toward z q) to-P (dir-self (toward z q) i) (λ c d sc sd. blend-rises n up (toward z q) c d sc high l)
            (wedge-of s 3 z P q (off-ahead s z up) off j all))

        dropped : Drop s 3 P Q → Chained (VolumeLink C) x y
        dropped X =
            let q = X.at_place in
            let off = off-between s z P q Q (off-ahead s z up) (off-ahead s z h) X.between in
            from q off (rises-some q (risen q X.between)) (let l = risen q X.between in omega (arith, ints)) (between-start P q Q X.between) X.even_before (dim q off (risen q X.between) X.drops)
          where
            risen : (q : SpacePoint) → IsBetween P q Q → pos 0 <ℤ dot n (toward z q)
            risen q c = subst (λ (r : ℤ). pos 0 <ℤ r) (through-at n z q) (between-plus (plane_through n z) P q Q c (subst (λ (r : ℤ). pos 0 <ℤ r) (sym (through-at n z P)) high-P) (let g = through-at n z Q in let l = level-Q in omega (arith, ints)))

            rises-some : (q : SpacePoint) → pos 0 <ℤ dot n (toward z q) → IsDirection (toward z q)
            rises-some q l o = let g = dot-zero n (toward z q) o in omega (arith, ints)

            dim : (q : SpacePoint) → IsOff s z q → pos 0 <ℤ dot n (toward z q) → IsFlatBelow s 3 q → FlatDim s (ahead s z (toward z q)) 2
            dim q off l (j, m, f) = by j m (off-dim s z q j off f)
              where
                way : Flat s (ahead s z (toward z q)) (toward z (ahead s z (toward z q)))
                way = Flat-from_cone s (ahead s z (toward z q)) (toward z (ahead s z (toward z q))) (flat-toward s z (ahead s z (toward z q)) (ahead-close s z (toward z q)))

                also : Flat s (ahead s z (toward z q)) D
                also = Flat-from_cone s (ahead s z (toward z q)) D (flat-nearby s z (ahead s z (toward z q)) (ahead-close s z (toward z q)) D (FlatCone-from_flat s z D flat-d))

                to-t : SameDirection (toward z (ahead s z (toward z q))) (toward z q)
                to-t = ahead-toward s z (toward z q) (rises-some q l)

                off-line : IsDirection (cross D (toward z (ahead s z (toward z q))))
                off-line o =
                    let g = in-span n D (toward z (ahead s z (toward z q))) d-some o along in
                    let c = level-way n (toward z (ahead s z (toward z q))) (toward z q) to-t g in
                    omega (arith, ints)

                by : (j : ℕ) → j < 3 → FlatDim s (ahead s z (toward z q)) j → FlatDim s (ahead s z (toward z q)) 2
                by zero m f = absurd (f.1 (D, d-some, also))
                by (suc zero) m f = absurd (f.1 (D, toward z (ahead s z (toward z q)), off-line, also, way))
                by (suc (suc zero)) m f = f
                by (suc (suc (suc j))) m f = absurd (omega arith)

        pub by-facet : Chained (VolumeLink C) x y
        by-facet = ⊎_elim
            (λ all. from Q (off-ahead s z h) (direction-left (toward z Q) h to-Q) (let l = level-Q in omega (arith, ints)) apart all (off-dim s z Q 2 (off-ahead s z h) two))
            dropped
            (even-until s 3 P Q free (all-flat s P free (toward P Q)))

      -- by an arc at one end
      low-arc : (i : ℕ) (c : Arc) → IsAt v.map.arcs i c → EndsAt c e.low_svertex → Chained (VolumeLink C) x y
      low-arc i c h o =
          let j = corner_of_numbers e.low i in
          let K : IsCorner C j v (arc_item c) = record { vertex = H.low; item = at-arc v.map.arcs v.map.sloop i c h } in
          let some = normal-is (S.cones e.low v H.low).valid.shaped i (arc_item c) K.item in
          let level = end-level s C S j v c K e.low_svertex W.low W.is_low o in
          let F = side-of c e.low_svertex D some d-some level o in
          let G = facet-near s C S j v (arc_item c) K (close_way s C S j v c K e.low_svertex W.low W.is_low F.dir) (on-close s C S j v c K e.low_svertex W.low W.is_low F.dir F.level F.ends) in
          let t = tied-both s (ahead s z F.dir) (ahead s (ahead s v.point D) F.dir) (ahead s v.point (close_way s C S j v c K e.low_svertex W.low W.is_low F.dir))
          (tied-ahead s z (ahead s v.point D) F.dir (tied-low s C S k e v w a H z b)) (tied-close_way s C S j v c K e.low_svertex W.low W.is_low F.dir) in
          by-facet c.normal F.dir level F.level (upright j v (arc_item c) K) F.some
          (tied-dim s (ahead s v.point (close_way s C S j v c K e.low_svertex W.low W.is_low F.dir)) (ahead s z F.dir) 2 (tied-turned s (ahead s z F.dir) (ahead s v.point (close_way s C S j v c K e.low_svertex W.low W.is_low F.dir)) t) G.dim)

      high-arc : (i : ℕ) (c : Arc) → IsAt w.map.arcs i c → EndsAt c e.high_svertex → Chained (VolumeLink C) x y
      high-arc i c h o =
          let j = corner_of_numbers e.high i in
          let K : IsCorner C j w (arc_item c) = record { vertex = H.high; item = at-arc w.map.arcs w.map.sloop i c h } in
          let some = normal-is (S.cones e.high w H.high).valid.shaped i (arc_item c) K.item in
          let level = end-level s C S j w c K e.high_svertex W.high W.is_high o in
          let F = side-of c e.high_svertex W.high.dir some ((S.cones e.high w H.high).valid.shaped.svertex_dirs e.high_svertex W.high W.is_high) level o in
          let G = facet-near s C S j w (arc_item c) K (close_way s C S j w c K e.high_svertex W.high W.is_high F.dir) (on-close s C S j w c K e.high_svertex W.high W.is_high F.dir F.level F.ends) in
          let t = tied-both s (ahead s z F.dir) (ahead s (ahead s w.point W.high.dir) F.dir) (ahead s w.point (close_way s C S j w c K e.high_svertex W.high W.is_high F.dir))
          (tied-ahead s z (ahead s w.point W.high.dir) F.dir (tied-high s C S k e v w a H z b)) (tied-close_way s C S j w c K e.high_svertex W.high W.is_high F.dir) in
          by-facet c.normal F.dir (level-opposite c.normal W.high.dir D (opposite-turned D W.high.dir W.back) level) F.level (upright j w (arc_item c) K) F.some
          (tied-dim s (ahead s w.point (close_way s C S j w c K e.high_svertex W.high W.is_high F.dir)) (ahead s z F.dir) 2 (tied-turned s (ahead s z F.dir) (ahead s w.point (close_way s C S j w c K e.high_svertex W.high W.is_high F.dir)) t) G.dim)

      -- or without arcs
      module _ (lone : HasArc v.map e.low_svertex → ⊥) (lone' : HasArc w.map e.high_svertex → ⊥) where
        V : Shaped v.map
        V = (S.cones e.low v H.low).valid.shaped

        V' : Shaped w.map
        V' = (S.cones e.high w H.high).valid.shaped

        abbrev here : VertexSide
        here = record { vertex = e.low; side = around_svertex e.low_svertex }

        abbrev there : VertexSide
        there = record { vertex = e.high; side = around_svertex e.high_svertex }

        off-line : (u : Vertex) (f : MapVertex) → IsDirection (cross f.dir up) → IsDirection (cross f.dir up)
        off-line u f i = i

        not-along : IsDirection (cross D up)
        not-along o =
            let E = edge-points s C k e v w z S a H b in
            let f = span-1 s z D up d-some flat-d o in
            let m = FlatDim-one s (ahead s z up) 1 3 (along-dim E.0 f) free in absurd (omega arith)
          where
            along-dim : FlatDim s z 1 → Flat s z up → FlatDim s (ahead s z up) 1
            along-dim one f = FlatDim-by_germs s s z (ahead s z up) (λ d l. let g = near-of_flat s z up (FlatCone-from_flat s z up f) d l in let h = near-ahead s z up d l in (λ m. h.1 (g.0 m), λ m. g.1 (h.0 m))) 1 one

        not-along' : IsDirection (cross W.high.dir up)
        not-along' o = not-along (parallel-trans D W.high.dir up (V'.svertex_dirs e.high_svertex W.high W.is_high) W.back.parallel o)

        by-around : Chained (VolumeLink C) x y
        by-around =
            let r = V.around_lone e.low_svertex W.low W.is_low lone in
            let q = V'.around_lone e.high_svertex W.high W.is_high lone' in
            let c = same-seers s C S e.low v H.low x here (blend T.steps D 1 up) (blend T.steps D 1 up) T.seer
            (record { here = refl; label = r.0; has = (W.low, W.is_low, r.1); sees = sees-around v.map V e.low_svertex W.low W.is_low lone up T.steps (let l = T.large in omega arith) not-along }) (λ g l. refl) in
            let d = same-seers s C S e.high w H.high y there (blend U.steps W.high.dir 1 up) (blend U.steps W.high.dir 1 up) U.seer
            (record { here = refl; label = q.0; has = (W.high, W.is_high, q.1); sees = sees-around w.map V' e.high_svertex W.high W.is_high lone' up U.steps (let l = U.large in omega arith) not-along' }) (λ g l. refl) in
            let m = chain-link (VolumeLink C) here there (inr (inl (record {
              number = k;
              edge = e;
              is_edge = a;
              low_side = around_svertex e.low_svertex;
              high_side = around_svertex e.high_svertex;
              is_low = (r.0, refl, refl, (v, H.low, (W.low, W.is_low, r.1)));
              is_high = (q.0, refl, refl, (w, H.high, (W.high, W.is_high, q.1)));
              along = around_ends refl refl;
            }))) in
            chain-trans (VolumeLink C) x here y c (chain-trans (VolumeLink C) here there y m (chain-turned (VolumeLink C) y there d))

      ends-at : (i : ℕ) (c : Arc) (j : ℕ) → Decided (EndsAt c j)
      ends-at i c j = decided-or (eq-decided c.source j) (eq-decided c.target j)

      pub two-views : Chained (VolumeLink C) x y
      two-views = ⊎_elim (λ f. low-arc f.number f.element f.listed f.holds)
          (λ none. ⊎_elim (λ f. high-arc f.number f.element f.listed f.holds)
          (λ none'. by-around (λ h. none h.0 h.1 h.2 h.3) (λ h. none' h.0 h.1 h.2 h.3))
          (search_list w.map.arcs (λ i c. EndsAt c e.high_svertex) (λ i c. ends-at i c e.high_svertex)))
          (search_list v.map.arcs (λ i c. EndsAt c e.low_svertex) (λ i c. ends-at i c e.low_svertex))
