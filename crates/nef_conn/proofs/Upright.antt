-- Where an edge runs down from a vertex of a plane, along up, nothing else is at that svertex, nor at the lower end of the edge; what falls beside the vertex falls beside the edge to its lower end.
use Rattle.nef_conn.proofs.Prelude.{◌≡◌, ℕ, ◌+◌, ◌<◌, ◌≤◌, ℤ, pos, ◌-ℤ◌, ◌*ℤ◌, ◌<ℤ◌, ◌≤ℤ◌, arith, refl, ap, sym, ◌∙◌, ◌⊎◌, inl, inr, ◌∷◌, subst, [], ints, sign, ring, at, num, ◌⊕◌, ◌⊖◌, ◌⊗◌, by_order, nought-is, sign-scaled, sign-plus, plus-is, turn-last, same-plus, same-minus, plane-way, Chained, FlatDim, SpacePoint, Form, form_at, normal_of, slope, plane_through, SamePoint, InFrame, toward, IsBetween, Set, Vector, blend, dot, cross, opposite, IsZero, IsDirection, SameDirection, up, carriers, germs-by_cell, between-turned, between-inner, ahead, start-close, even-germs, joined-germs, signs-same, same-point_sym, reach_all, slope-toward, point-toward, between-same, forms, SameSigns, IsAt, MapVertex, arc_item, HasArc, Shaped, at-arc, amount, free-close, Vertex, Edge, Complex, HasEnds, IsCorner, Shows, VertexSide, RayDown, IsFlatIn, near_point, near-between, through-at, through-slope, between-plus, ahead-back, plane-between, plane-ahead, between-way, between-outer, VolumeLink, IsUpright, IsEvenAfter, EdgeWays, edge-ways, ends-tied, tied-turn, end-level, corner_of_numbers, free-dim, even-fan, dim-cell, ahead-cells, tied-cell, tied-both, tied-ahead, tied-ray, tied-turned, AreLinkedWhereJoined, sliced, triple-dot, cross-turned, SameDirection-turned, SameDirection-trans, dir-self, in-span, parallel-trans, opposite-same, dot-opposite, level-way, opposite-way, opposite-twice, direction-left, direction-right}
use Rattle.nef_space.proofs.Chains.{chain-trans}
use Rattle.nef_conn.proofs.Claims.{Claim}
use Rattle.nef_conn.proofs.EdgeFalls.{ways-toward, vertex-slice, edge-slice}
use Rattle.nef_conn.proofs.Fall.{corner-wedge, lam-down, lam-zero}
use Rattle.nef_conn.proofs.Fans.{mixed, mixed-between, mixed-toward}
use Rattle.nef_conn.proofs.Land.{side-on, clear-on}
use Rattle.nef_conn.proofs.Leaves.{turn-beside, toward-same}
use Rattle.nef_conn.proofs.Near.{Wedge, wedge-way, wedge-on}
use Rattle.nef_conn.proofs.NearOver.{up-some, blend-rises}
use Rattle.nef_conn.proofs.RaysEnd.{tied-dim, free-toward}
use Rattle.nef_conn.proofs.Silhouettes.{germs-inside, toward-end, sliced-ahead, two-of, frame-along, three-along}
use Rattle.nef_conn.proofs.SliceStrip.{lam, up_line, lam-at, Clear, along-start, lam-plus}
use Rattle.nef_conn.proofs.Touch.{Seer, bound, Touch, edge-frame, vertex-frame, same-seers, touched, no-way}
use Rattle.law_geometry.proofs.near.Same.{dim-same}
use Rattle.nef_space.proofs.Elementary.{same-itself}
use Rattle.law_geometry.proofs.complex.Edges.{inner-dim}

pub up-square : (m : Vector) → dot (cross m up) up ≡ pos 0
up-square m = ring (m.x ∷ m.y ∷ m.z ∷ up.x ∷ up.y ∷ up.z ∷ []) ((at 1 ⊗ at 5 ⊖ at 2 ⊗ at 4) ⊗ at 3 ⊕ (at 2 ⊗ at 3 ⊖ at 0 ⊗ at 5) ⊗ at 4 ⊕ (at 0 ⊗ at 4 ⊖ at 1 ⊗ at 3) ⊗ at 5) (num (pos 0)) tt

module _ (s : Set) (C : Complex) (S : Shows s C) (upright : IsUpright C) (linked : AreLinkedWhereJoined s C) where
  -- no arc ends at a svertex along up
  pub lone-along : (i j : ℕ) (v : Vertex) (u : MapVertex) → IsAt C.vertices i v → IsAt v.map.svertices j u → IsZero (cross u.dir up) → HasArc v.map j → ⊥
  lone-along i j v u a b z (k, c, l, o) =
      let K : IsCorner C (corner_of_numbers i k) v (arc_item c) = record { vertex = a; item = at-arc v.map.arcs v.map.sloop k c l } in
      let e = end-level s C S (corner_of_numbers i k) v c K j u b o in
      let f = in-span c.normal u.dir up ((S.cones i v a).valid.shaped.svertex_dirs j u b) z e in
      let g = upright (corner_of_numbers i k) v (arc_item c) K in
      omega (arith, ints)

  module _ (h : Form) (hn : IsDirection (normal_of h)) (level : slope h up ≡ pos 0) where
    abbrev n : Vector
    n = normal_of h

    -- what lies aside of y doesn't lie along up
    pub aside-any : (d : Vector) → IsDirection d → IsZero (cross d up) → (y b : SpacePoint) → pos 0 <ℤ lam (normal_of h) y b → IsDirection (cross d (toward y b))
    aside-any d i z y b l g =
        let p = cross-turned d (toward y b) g in
        let q = parallel-trans (toward y b) d up i p z in
        let c = in-span (cross n up) up (toward y b) up-some (cross-turned (toward y b) up q) (up-square n) in
        let e = triple-dot n up (toward y b) in
        omega (arith, ints)

    -- y is the higher end w of the edge, which runs along up
    module _ (k : ℕ) (e : Edge) (v w : Vertex) (a : IsAt C.edges k e) (H : HasEnds C e v w) (along : SameDirection (edge-ways s C S k e v w a H).low.dir up) (y : SpacePoint) (on-y : form_at h y ≡ pos 0) (top : SamePoint w.point y) where
      abbrev W : EdgeWays e v w
      W = edge-ways s C S k e v w a H

      to-w : SameDirection (toward v.point w.point) up
      to-w = SameDirection-trans (toward v.point w.point) W.low.dir up W.onward along

      from-w : SameDirection (toward w.point v.point) (opposite up)
      from-w = ahead-back v.point w.point up to-w

      down : SameDirection (toward y v.point) (opposite up)
      down = SameDirection-trans (toward y v.point) (toward w.point v.point) (opposite up) (SameDirection-turned (toward w.point v.point) (toward y v.point) (toward-same w.point y v.point top (direction-left (toward w.point v.point) (opposite up) from-w))) from-w

      -- a point between y and v lies on the edge
      on-edge : (r : SpacePoint) → IsBetween y r v.point → IsBetween v.point r w.point
      on-edge r c = between-turned w.point v.point r (between-same y r v.point w.point r v.point (same-point_sym w.point y top) (same-itself r) (same-itself v.point) c)

      on-v : form_at h v.point ≡ pos 0
      on-v = plane-ahead h y v.point (opposite up) down (let f = dot-opposite n up in let l = level in omega (arith, ints)) on-y

      edge-dim : (r : SpacePoint) → IsBetween v.point r w.point → FlatDim s r 1
      edge-dim = inner-dim s C k e v w S a H

      V : Shaped v.map
      V = (S.cones e.low v H.low).valid.shaped

      lone-low : HasArc v.map e.low_svertex → ⊥
      lone-low = lone-along e.low e.low_svertex v W.low H.low W.is_low (let o = along in o.parallel)

      -- directions that aren't along up are free beside the edge
      free-beside : (f : Vector) → IsDirection (cross W.low.dir f) → (K : ℕ) → amount (forms v.map) f ≤ K → FlatDim s (ahead s v.point (blend K W.low.dir 1 f)) 3
      free-beside f i K large = free-dim v.map s v.point (S.cones e.low v H.low) (blend K W.low.dir 1 f) (free-close v.map V e.low_svertex W.low W.is_low lone-low f K large i)

      module _ (b : SpacePoint) (x z : VertexSide) (on-b : form_at h b ≡ pos 0) (side : pos 0 <ℤ lam (normal_of h) y b) (clear : Clear (sliced s h) h hn level y b) (first : (r : SpacePoint) → IsBetween y r b → FlatDim s r 3) (three : FlatDim s b 3) (inside : InFrame b)
          (R : RayDown C b z) (wedge-three : Wedge s 3 y (toward y b) (opposite up)) (wedge-two : Wedge (sliced s h) 2 y (toward y b) (opposite up))
          (K1 : ℕ) (large : bound s v (toward y b) ≤ K1) (o : VertexSide) (low : Seer e.low v o (blend K1 (edge-ways s C S k e v w a H).low.dir 1 (toward y b))) (claim : FlatDim (sliced s h) v.point 0 → Claim s C S upright linked h hn level v.point) where
        abbrev f : Vector
        f = toward y b

        some-b : IsDirection f
        some-b z = let g = lam-zero n y b z in let l = side in omega (arith, ints)

        not-along : IsDirection (cross W.low.dir f)
        not-along = aside-any W.low.dir (direction-left W.low.dir up along) (let c = along in c.parallel) y b side

        -- a point of the way from y to b, b counted
        abbrev Part : SpacePoint → Type 0
        Part u = IsBetween y u b ⊎ SamePoint u b

        part-on : (u : SpacePoint) → Part u → form_at h u ≡ pos 0
        part-on u (inl c) = plane-between h y u b c on-y on-b
        part-on u (inr g) = nought-is (form_at h u) (signs-same (h ∷ []) u b g h (inl refl) ∙ ap sign on-b)

        part-three : (u : SpacePoint) → Part u → FlatDim s u 3
        part-three u (inl c) = first u c
        part-three u (inr g) = dim-same s b u 3 (same-point_sym u b g) three

        part-before : (u : SpacePoint) → Part u → (r : SpacePoint) → IsBetween y r u → IsBetween y r b
        part-before u (inl c) r m = between-inner y u b r c m
        part-before u (inr g) r m = between-same y r u y r b (same-itself y) (same-itself r) g m

        part-inside : (u : SpacePoint) → Part u → InFrame u
        part-inside u (inl c) = frame-along s y b first three inside u c
        part-inside u (inr g) = germs-inside s b u (germs-by_cell s b u (signs-same (carriers s) b u (same-point_sym u b g))) inside

        part-side : (u : SpacePoint) → Part u → pos 0 <ℤ lam (normal_of h) y u
        part-side u (inl c) = same-plus (lam n y b) (lam n y u) (turn-last n up f (toward y u) (SameDirection-turned (toward y u) f (between-way y u b c))) side
        part-side u (inr g) =
            let p = lam-at n y b in
            let q = lam-at n y u in
            let m = plus-is (form_at (up_line n y) u) (signs-same (up_line n y ∷ []) u b g (up_line n y) (inl refl) ∙ sign-plus (form_at (up_line n y) b) (let l = side in omega (arith, ints))) in
            omega (arith, ints)

        part-clear : (u : SpacePoint) → Part u → Clear (sliced s h) h hn level y u
        part-clear u (inl c) r vertex on l m = clear r vertex on l (let q = lam-past r u b m (past c) in omega (arith, ints))
          where
            past : IsBetween y u b → pos 0 <ℤ lam (normal_of h) u b
            past c = same-plus (lam n y u) (lam n u b) (turn-last n up (toward y u) (toward u b) c) (part-side u (inl c))

            lam-past : (p q r : SpacePoint) → pos 0 ≤ℤ lam (normal_of h) p q → pos 0 <ℤ lam (normal_of h) q r → pos 0 <ℤ lam (normal_of h) p r
            lam-past p q r l m = lam-plus n p q r l m
        part-clear u (inr g) r vertex on l m = clear r vertex on l (at-least (form_at (up_line n r) u) (form_at (up_line n r) b) (signs-same (up_line n r ∷ []) u b g (up_line n r) (inl refl)) (lam-at n r u) (lam-at n r b) m)
          where
            at-least : (p q : ℤ) → sign p ≡ sign q → p ≡ lam (normal_of h) r u → q ≡ lam (normal_of h) r b → pos 0 ≤ℤ lam (normal_of h) r u → pos 0 ≤ℤ lam (normal_of h) r b
            at-least p q g c d l = by_order q (pos 0) (λ k'. absurd (let k2 = same-minus q p g k' in omega (arith, ints))) (λ k'. omega (arith, ints)) (λ k'. omega (arith, ints))

        -- ---- the edge, for the slice
        inside-y : InFrame (ahead s y f)
        inside-y = germs-inside s b (ahead s y f) (joined-germs s b (ahead s y f) (tied-ray s 3 y b f (dir-self f some-b) even).0) inside
          where
            even : IsEvenAfter s 3 y b
            even r c = part-three r c

        free-y : FlatDim s (ahead s y f) 3
        free-y = free-toward s y b some-b first three

        to-high : SameDirection (opposite up) W.high.dir
        to-high = SameDirection-trans (opposite up) (opposite W.low.dir) W.high.dir (opposite-same up W.low.dir (SameDirection-turned W.low.dir up along)) (opposite-way W.low.dir W.high.dir W.back)

        high-level : dot (cross n up) W.high.dir ≡ pos 0
        high-level = level-way (cross n up) (opposite up) W.high.dir to-high (let g = dot-opposite (cross n up) up in let c = up-square n in omega (arith, ints))

        wedge-high : Wedge s 3 y f W.high.dir
        wedge-high = wedge-way s 3 y f f (opposite up) W.high.dir (dir-self f some-b) to-high
            (λ i j si sj. blend-rises (cross n up) f W.high.dir i j si (subst (λ (c : ℤ). pos 0 <ℤ c) (triple-dot n up f) side) (let l = high-level in omega (arith, ints))) wedge-three

        abbrev N : ℕ
        N = bound s v f + bound s w f + 1

        -- the points beside the edge lie in the frame
        inside-low : InFrame (ahead s v.point (blend N W.low.dir 1 f))
        inside-low =
            let g = wedge-on s 3 y f W.high.dir N (omega arith) wedge-high in
            let even = even-fan s y f (blend N W.high.dir 1 f) 3 free-y g.0 g.1 in
            let p = ahead s y (blend N W.high.dir 1 f) in
            let i = germs-inside s (ahead s y f) p (even-germs s 3 (ahead s y f) p even) inside-y in
            let t1 = tied-cell s p (ahead s w.point (blend N W.high.dir 1 f)) (ahead-cells s y w.point (blend N W.high.dir 1 f) (signs-same (carriers s) y w.point (same-point_sym w.point y top))) in
            let t2 = tied-turned s (ahead s (ahead s w.point W.high.dir) f) (ahead s w.point (blend N W.high.dir 1 f)) (tied-turn s w.point W.high.dir f N (omega arith)) in
            let t3 = tied-ahead s (ahead s w.point W.high.dir) (ahead s v.point W.low.dir) f (tied-turned s (ahead s v.point W.low.dir) (ahead s w.point W.high.dir) (ends-tied s C S k e v w a H)) in
            let t4 = tied-turn s v.point W.low.dir f N (omega arith) in
            let t = tied-both s p (ahead s w.point (blend N W.high.dir 1 f)) (ahead s v.point (blend N W.low.dir 1 f)) t1
            (tied-both s (ahead s w.point (blend N W.high.dir 1 f)) (ahead s (ahead s w.point W.high.dir) f) (ahead s v.point (blend N W.low.dir 1 f)) t2
            (tied-both s (ahead s (ahead s w.point W.high.dir) f) (ahead s (ahead s v.point W.low.dir) f) (ahead s v.point (blend N W.low.dir 1 f)) t3 t4)) in
            germs-inside s p (ahead s v.point (blend N W.low.dir 1 f)) (joined-germs s p (ahead s v.point (blend N W.low.dir 1 f)) t.0) i

        edge-t : (r : SpacePoint) → IsBetween y r v.point → FlatDim (sliced s h) r 1
        edge-t r c =
            let d = on-edge r c in
            let F = edge-frame s C S k e v w r a H d in
            let u = ahead s v.point (blend N W.low.dir 1 f) in
            let t = tied-turned s (ahead s r f) u (F.tied f N (omega arith)) in
            let same = sliced-ahead s h r f in
            edge-slice s h hn level f some-b (plane-way h y b on-y on-b) r v.point (plane-between h y r v.point c on-y on-v) on-v (direction-right (toward y r) (toward r v.point) c) (edge-dim r d)
            (λ q m. edge-dim q (on-edge q (between-outer y r q v.point c m)))
            (dim-cell s (ahead s r f) (ahead (sliced s h) r f) 3 (λ g l. sym (same g l)) (tied-dim s u (ahead s r f) 3 t (free-beside f not-along N (omega arith))))
            (germs-inside s (ahead s r f) (ahead (sliced s h) r f) (germs-by_cell s (ahead s r f) (ahead (sliced s h) r f) (λ g l. sym (same g l))) (germs-inside s u (ahead s r f) (joined-germs s u (ahead s r f) t.0) inside-low))

        -- ---- the ways from v to the points between y and b
        module _ (u : SpacePoint) (p : Part u) where
          way-u : SameDirection f (toward y u)
          way-u = by p
            where
              by : Part u → SameDirection f (toward y u)
              by (inl c) = SameDirection-turned (toward y u) f (between-way y u b c)
              by (inr g) = SameDirection-turned (toward y u) f (toward-end y u b g some-b)

          F : IsFlatIn (sliced s h) h u
          F = two-of s h hn u (part-on u p) (part-three u p) (part-inside u p)

          first-two : (r : SpacePoint) → IsBetween y r u → FlatDim (sliced s h) r 2
          first-two r m = let c = inl (part-before u p r m) in let g = two-of s h hn r (part-on r c) (part-three r c) (part-inside r c) in g.0

          corner : (q : SpacePoint) → IsBetween u q v.point → ((r : SpacePoint) → IsBetween q r y → FlatDim (sliced s h) r 1) → ⊥
          corner q m edge = corner-wedge (sliced s h) y q off edge u v.point m
              (wedge-way (sliced s h) 2 y f (toward y u) (opposite up) (toward y v.point) way-u (SameDirection-turned (toward y v.point) (opposite up) down)
              (λ i j si sj. blend-rises (cross n up) (toward y u) (toward y v.point) i j si (subst (λ (c : ℤ). pos 0 <ℤ c) (triple-dot n up (toward y u)) (part-side u p))
              (let g = triple-dot n up (toward y v.point) in let l = lam-down n y v.point down in omega (arith, ints))) wedge-two)
            where
              off : SamePoint y q → ⊥
              off g =
                  let c = between-plus (up_line n y) u q v.point m (let i = lam-at n y u in let l = part-side u p in omega (arith, ints)) (let i = lam-at n y v.point in let l = lam-down n y v.point down in omega (arith, ints)) in
                  let i = lam-at n y q in
                  let l = lam-zero n y q (point-toward y q g) in
                  omega (arith, ints)

          way-two : (r : SpacePoint) → IsBetween u r v.point → FlatDim (sliced s h) r 2
          way-two = along-start (sliced s h) h hn level y u v.point on-y (part-on u p) on-v down (part-side u p) (part-clear u p) first-two (inr edge-t) F corner

          way-three : (r : SpacePoint) → IsBetween v.point r u → FlatDim s r 3
          way-three = three-along s h hn v.point u on-v (part-on u p) F.0 way-two (part-three u p)

          some-u : IsDirection (toward v.point u)
          some-u g = let l = side-on (sliced s h) h hn level y v.point u (lam-down n y v.point down) (part-side u p) in let c = lam-zero n v.point u g in omega (arith, ints)

          free-to : FlatDim s (ahead s v.point (toward v.point u)) 3
          free-to = free-toward s v.point u some-u way-three (part-three u p)

        at-b : Part b
        at-b = inr (same-itself b)

        vertex-v : FlatDim (sliced s h) v.point 0
        vertex-v = vertex-slice s h hn level v.point (near_point (sliced s h) v.point b) on-v (S.vertices e.low v H.low) (start-close (reach_all (carriers (sliced s h)) v.point) v.point b)
            (two-of s h hn q (plane-between h v.point q b c on-v on-b) (way-three b at-b q c) (frame-along s v.point b (way-three b at-b) three inside q c))
          where
            q : SpacePoint
            q = near_point (sliced s h) v.point b

            c : IsBetween v.point (near_point (sliced s h) v.point b) b
            c = near-between (sliced s h) v.point b (some-u b at-b)

        -- ---- what touches the edge toward b touches v close to the edge
        M-some : 0 < bound s v (toward v.point b) + 1
        M-some = omega arith

        abbrev r' : SpacePoint
        r' = mixed (bound s v (toward v.point b) + 1) y 1 b M-some

        amid-r' : IsBetween y r' b
        amid-r' = mixed-between (bound s v (toward v.point b) + 1) y 1 b M-some (omega arith) some-b

        abbrev a' : Vector
        a' = toward v.point r'

        alike : (p : Vector) → dot p (toward v.point y) ≡ pos 0 → sign (dot p (toward v.point b)) ≡ sign (dot p (toward y b))
        alike p g =
            let P = plane_through p v.point in
            let e1 = slope-toward P y b in
            let e2 = through-at p v.point y ∙ g in
            let e3 = through-at p v.point b in
            let e4 = through-slope p v.point (toward y b) in
            plain (slope P (toward y b)) (form_at P b) (form_at P y) (dot p (toward v.point b)) (dot p (toward y b)) e1 e2 e3 e4
          where
            plain : (m q r c u : ℤ) → m ≡ pos y.w *ℤ q -ℤ pos b.w *ℤ r → r ≡ pos 0 → q ≡ c → m ≡ pos v.point.w *ℤ u → sign c ≡ sign u
            plain m q r c u e1 e2 e3 e4 =
                sym (sign-scaled (pos y.w) c (let l = y.proper in omega (arith, ints)))
                ∙ ap sign (sym (e1 ∙ ap (λ x. pos y.w *ℤ q -ℤ pos b.w *ℤ x) e2 ∙ ap (λ x. pos y.w *ℤ x -ℤ pos b.w *ℤ pos 0) e3 ∙ ring (pos y.w ∷ pos b.w ∷ c ∷ []) (at 0 ⊗ at 2 ⊖ at 1 ⊗ num (pos 0)) (at 0 ⊗ at 2) tt))
                ∙ ap sign e4 ∙ sign-scaled (pos v.point.w) u (let l = v.point.proper in omega (arith, ints))

        touch-a : (o1 : VertexSide) × Touch s C v.point (vertex-frame s C e.low v v.point H.low (same-itself v.point)) o1 a'
        touch-a = touched s C S v.point (vertex-frame s C e.low v v.point H.low (same-itself v.point)) a' (free-to r' (inl amid-r'))

        up-way : SameDirection W.low.dir (toward v.point y)
        up-way = SameDirection-trans W.low.dir up (toward v.point y) along (SameDirection-turned (toward v.point y) up (subst (λ (g : Vector). SameDirection (toward v.point y) g) (opposite-twice up) (ahead-back y v.point (opposite up) down)))

        first-link : Chained (VolumeLink C) o touch-a.0
        first-link =
            let U = touch-a.1 in
            let q = subst (λ (g : Vector). Seer e.low v touch-a.0 g) (no-way U.steps a') U.seer in
            same-seers s C S e.low v H.low o touch-a.0 (blend K1 W.low.dir 1 f) a' low q
            (subst (λ (g : Vector). SameSigns (forms v.map) (blend K1 W.low.dir 1 f) g) (sym (mixed-toward v.point (bound s v (toward v.point b) + 1) y 1 b M-some))
            (ways-toward (forms v.map) W.low.dir (toward v.point y) f (toward v.point b) K1 (bound s v (toward v.point b) + 1) up-way alike (let l = large in omega arith) (omega arith)))

        wedge-v : Wedge s 3 v.point a' (toward v.point b)
        wedge-v i j si sj =
            let u = mixed i r' j b si in
            let c = mixed-between i r' j b si sj (direction-right (toward y r') (toward r' b) amid-r') in
            subst (λ (g : Vector). FlatDim s (ahead s v.point g) 3) (mixed-toward v.point i r' j b si) (free-to u (inl (between-outer y r' u b amid-r' c)))

        pub beside-edge : Chained (VolumeLink C) o z
        beside-edge =
            let T = turn-beside s C S upright linked v.point a' (toward v.point b) touch-a.0 (free-to r' (inl amid-r')) (free-to b at-b) wedge-v (inl (e.low, v, H.low, same-itself v.point, touch-a.1)) in
            let l = claim vertex-v b T.0 z on-b (side-on (sliced s h) h hn level y v.point b (lam-down n y v.point down) side) (clear-on (sliced s h) h hn level y v.point b (lam-down n y v.point down) clear)
            (λ r c. way-three b at-b r c) three inside T.1 R in
            chain-trans (VolumeLink C) o touch-a.0 z first-link (chain-trans (VolumeLink C) touch-a.0 T.0 z T.2 l)
