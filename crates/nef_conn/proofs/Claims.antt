-- Where the fall from y ends at y', what falls from b beside it names a side of the class of what lies above y', if that is known for y' where it is a vertex of the plane; and so what falls from b beside a vertex of the plane names a side of the class of what touches it, if that is known of what lies below it, and of what touches it downward and what the ray down from it names.
use Rattle.nef_conn.proofs.Prelude.{◌≡◌, ℕ, zero, suc, ◌<◌, ℤ, pos, ◌-ℤ◌, ◌*ℤ◌, ◌<ℤ◌, neg_ℤ, arith, ap, sym, ◌∙◌, ◌⊎◌, inl, inr, ⊎_elim, ◌∷◌, subst, [], ints, sign, by_order, sign-plus, sign-minus, sign-scaled, ring, at, num, neg, ◌⊕◌, ◌⊖◌, ◌⊗◌, same-nought, same-plus, same-minus, Chained, Flat, FlatDim, SpacePoint, Form, form_at, normal_of, slope, plane_through, SamePoint, InFrame, toward, IsBetween, Set, Vector, blend, opposite, dot, cross, IsZero, IsDirection, SameDirection, up, carriers, SameGerms, FlatDim-one, FlatDim-by_germs, germs-by_cell, between-turned, between-inner, ray-cell, ahead, near-ahead, start-close, start-toward, flat_dim-of, near-of_flat, FlatCone-from_flat, same-point_sym, flat_dim-nearby, flat-plane, reach_all, slope-toward, Complex, Shows, VertexSide, RayDown, IsFlatIn, near_point, near-between, through-at, through-slope, ahead-back, plane-between, plane-ahead, even-by, between-way, between-outer, VolumeLink, IsUpright, ahead-close, ahead-toward, tied-ray, AreLinkedWhereJoined, sliced, dot-comm, zero-decided, triple-dot, triple-turned, SameDirection-turned, SameDirection-trans, dir-self, dir-signs, in-span, dot-opposite, level-way, opposite-twice, direction-left, blend-turned}
use Rattle.nef_space.proofs.Chains.{chain-trans}
use Rattle.nef_conn.proofs.Fall.{corner-two, corner-wedge, lam-down, lam-zero}
use Rattle.nef_conn.proofs.Fans.{off-close}
use Rattle.nef_conn.proofs.Hits.{Over, ray-over}
use Rattle.nef_conn.proofs.Land.{Landing, landed, side', clear', to-b, q0, r0, on-q0, on-r0, two-q0, two-r0, apart, even-fan}
use Rattle.nef_conn.proofs.Leaves.{Beside-point, beside-over, turn-beside}
use Rattle.nef_conn.proofs.Near.{Above, Wedge, wedge-of, wedge-way}
use Rattle.nef_conn.proofs.NearOver.{up-some, blend-rises}
use Rattle.nef_conn.proofs.OneOver.{over-one, facet-dim, edge-dim, vertex-dim}
use Rattle.nef_conn.proofs.RaysEnd.{tied-dim, free-toward}
use Rattle.nef_conn.proofs.Silhouettes.{sliced-off, resliced, two-of, germs-of, three-of, no-vertices, some-flat, even-hit, flatness, two-along}
use Rattle.nef_conn.proofs.SliceStrip.{lam, Clear}
use Rattle.nef_space.proofs.Vectors.{neg-zero}
use Rattle.law_geometry.proofs.near.Same.{dim-same}
use Rattle.nef_space.proofs.Elementary.{same-itself}

module _ (s : Set) (C : Complex) (S : Shows s C) (upright : IsUpright C) (linked : AreLinkedWhereJoined s C) (h : Form) (hn : IsDirection (normal_of h)) (level : slope h up ≡ pos 0) where
  abbrev n : Vector
  n = normal_of h

  abbrev t : Set
  t = sliced s h

  -- what falls from a point that y sees, beside no vertex of the plane, names a side of the class of each that touches y toward it
  abbrev pub Claim : SpacePoint → Type 0
  Claim y = (b : SpacePoint) (x z : VertexSide) → form_at h b ≡ pos 0 → pos 0 <ℤ lam (normal_of h) y b → Clear (sliced s h) h hn level y b → ((r : SpacePoint) → IsBetween y r b → FlatDim s r 3) → FlatDim s b 3 → InFrame b
      → Beside-point s C S upright linked y (toward y b) x → RayDown C b z → Chained (VolumeLink C) x z

  -- a start: within a facet of the slice, or with free directions toward b and downward
  abbrev pub IsStart : SpacePoint → SpacePoint → Type 0
  IsStart y b = FlatDim (sliced s h) y 2 ⊎ Wedge (sliced s h) 2 y (toward y b) (opposite up)

  pub down-some : IsDirection (opposite up)
  down-some z = let e = z.2 in omega (arith, ints)

  -- the way from b to c below it, and to c, has up on one side
  pub up-side : (y b c : SpacePoint) (g : Vector) → SameDirection (toward y c) g → SameDirection (toward b c) (opposite up) → Above s C S upright g (toward y b)
  up-side y b c g to below m z =
      let at-c : form_at (plane_through m y) c ≡ pos 0 = through-at m y c ∙ level-way m g (toward y c) (SameDirection-turned (toward y c) g to) z in
      let at-b = through-at m y b in
      let e = slope-toward (plane_through m y) b c in
      let w = dir-signs (opposite up) (toward b c) (normal_of (plane_through m y)) down-some (SameDirection-turned (toward b c) (opposite up) below) in
      let u = through-slope m y (opposite up) in
      let d = dot-opposite m up in
      plain (dot m (toward y b)) (dot m up) (slope (plane_through m y) (toward b c)) (slope (plane_through m y) (opposite up)) (form_at (plane_through m y) c) (form_at (plane_through m y) b) (dot m (opposite up)) e at-c at-b w u d
    where
      plain : (f v a o c' b' p : ℤ) → a ≡ pos b.w *ℤ c' -ℤ pos c.w *ℤ b' → c' ≡ pos 0 → b' ≡ f → sign a ≡ sign o → o ≡ pos y.w *ℤ p → p ≡ neg_ℤ v → sign f ≡ sign v
      plain f v a o c' b' p e z q w u d =
          let left : sign a ≡ sign (neg_ℤ f) =
          ap sign (e ∙ ap (λ r. pos b.w *ℤ r -ℤ pos c.w *ℤ b') z ∙ ap (λ r. pos b.w *ℤ pos 0 -ℤ pos c.w *ℤ r) q ∙ ring (pos b.w ∷ pos c.w ∷ f ∷ []) (at 0 ⊗ num (pos 0) ⊖ at 1 ⊗ at 2) (at 1 ⊗ neg (at 2)) tt) ∙ sign-scaled (pos c.w) (neg_ℤ f) (let k = c.proper in omega (arith, ints)) in
          let right : sign o ≡ sign (neg_ℤ v) = ap sign (u ∙ ap (λ r. pos y.w *ℤ r) d) ∙ sign-scaled (pos y.w) (neg_ℤ v) (let k = y.proper in omega (arith, ints)) in
          let m : sign (neg_ℤ f) ≡ sign (neg_ℤ v) = sym left ∙ w ∙ right in
          by_order f (pos 0)
          (λ l. sign-minus f l ∙ sym (sign-minus v (let k = same-plus (neg_ℤ f) (neg_ℤ v) (sym m) (omega (arith, ints)) in omega (arith, ints))))
          (λ l. ap sign l ∙ sym (ap sign (let k = same-nought (neg_ℤ f) (neg_ℤ v) (sym m) (omega (arith, ints)) in neg-zero v k)))
          (λ l. sign-plus f l ∙ sym (sign-plus v (let k = same-minus (neg_ℤ f) (neg_ℤ v) (sym m) (omega (arith, ints)) in omega (arith, ints))))

  -- at a vertex of the plane no direction of the plane is flat for the set
  pub not-flat : (y : SpacePoint) (d : Vector) → form_at h y ≡ pos 0 → slope h d ≡ pos 0 → IsDirection d → FlatDim (sliced s h) y 0 → Flat s y d → ⊥
  not-flat y d on-y along i zero-flat f =
      no-vertices (sliced s h) y (ahead s y d) to-q-some (FlatDim-by_germs (sliced s h) (sliced s h) y (near_point (sliced s h) y (ahead s y d)) (resliced s h y (near_point (sliced s h) y (ahead s y d)) on-y on-w same) 0 zero-flat)
    where
      to-q : SameDirection (toward y (ahead s y d)) d
      to-q = ahead-toward s y d i

      to-q-some : IsDirection (toward y (ahead s y d))
      to-q-some = direction-left (toward y (ahead s y d)) d to-q

      on-q : form_at h (ahead s y d) ≡ pos 0
      on-q = plane-ahead h y (ahead s y d) d to-q along on-y

      amid : IsBetween y (near_point (sliced s h) y (ahead s y d)) (ahead s y d)
      amid = near-between (sliced s h) y (ahead s y d) to-q-some

      on-w : form_at h (near_point (sliced s h) y (ahead s y d)) ≡ pos 0
      on-w = plane-between h y (near_point (sliced s h) y (ahead s y d)) (ahead s y d) amid on-y on-q

      same : SameGerms s y (near_point (sliced s h) y (ahead s y d))
      same v l =
          let a = near-of_flat s y d (FlatCone-from_flat s y d f) v l in
          let b = near-ahead s y d v l in
          let c = germs-by_cell s (ahead s y d) (near_point (sliced s h) y (ahead s y d)) (ray-cell (carriers s) y (ahead s y d) (near_point (sliced s h) y (ahead s y d)) (ahead-close s y d) amid) v l in
          (λ g. c.0 (b.1 (a.0 g)), λ g. a.1 (b.0 (c.1 g)))

  over-three : (y : SpacePoint) (x : VertexSide) → Over s C S y x → FlatDim s y 3 → ⊥
  over-three y x (inl A) f = let e = FlatDim-one s y 0 3 (vertex-dim s C S y x A) f in absurd (omega arith)
  over-three y x (inr (inl A)) f = let e = FlatDim-one s y 1 3 (edge-dim s C S y x A) f in absurd (omega arith)
  over-three y x (inr (inr A)) f = let e = FlatDim-one s y 2 3 (facet-dim s C S y x A) f in absurd (omega arith)

  -- a facet of the set has a direction of the plane, so a vertex of the plane lies in none
  pub not-facet : (y : SpacePoint) → form_at h y ≡ pos 0 → FlatDim (sliced s h) y 0 → FlatDim s y 2 → ⊥
  not-facet y on-y zero-flat two =
      let P = flat-plane s y two in
      ⊎_elim (λ o. not-flat y up on-y level up-some zero-flat ((P.2 up).1 (in-plane P.0 o)))
      (λ c. not-flat y (cross n P.0) on-y (square-first P.0) c zero-flat ((P.2 (cross n P.0)).1 (square-second P.0)))
      (zero-decided (cross n P.0))
    where
      in-plane : (m : Vector) → IsZero (cross n m) → dot m up ≡ pos 0
      in-plane m o = let e = in-span up n m hn o (dot-comm up n ∙ level) in dot-comm m up ∙ e

      square-first : (m : Vector) → dot n (cross n m) ≡ pos 0
      square-first m = ring (n.x ∷ n.y ∷ n.z ∷ m.x ∷ m.y ∷ m.z ∷ []) (at 0 ⊗ (at 1 ⊗ at 5 ⊖ at 2 ⊗ at 4) ⊕ at 1 ⊗ (at 2 ⊗ at 3 ⊖ at 0 ⊗ at 5) ⊕ at 2 ⊗ (at 0 ⊗ at 4 ⊖ at 1 ⊗ at 3)) (num (pos 0)) tt

      square-second : (m : Vector) → dot m (cross n m) ≡ pos 0
      square-second m = ring (n.x ∷ n.y ∷ n.z ∷ m.x ∷ m.y ∷ m.z ∷ []) (at 3 ⊗ (at 1 ⊗ at 5 ⊖ at 2 ⊗ at 4) ⊕ at 4 ⊗ (at 2 ⊗ at 3 ⊖ at 0 ⊗ at 5) ⊕ at 5 ⊗ (at 0 ⊗ at 4 ⊖ at 1 ⊗ at 3)) (num (pos 0)) tt

  -- ---- beside a fall from y to y'
  module _ (y y' b : SpacePoint) (on-y : form_at h y ≡ pos 0) (on-y' : form_at h y' ≡ pos 0) (on-b : form_at h b ≡ pos 0) (down : SameDirection (toward y y') (opposite up)) (side : pos 0 <ℤ lam (normal_of h) y b) (clear : Clear (sliced s h) h hn level y b)
      (first : (r : SpacePoint) → IsBetween y r b → FlatDim s r 3) (second : (r : SpacePoint) → IsBetween y r y' → FlatDim s r 3 × InFrame r) (three : FlatDim s b 3) (inside : InFrame b) (start : IsStart y b)
      (x z : VertexSide) (A : Over s C S y' x) (R : RayDown C b z) (claim : FlatDim (sliced s h) y' 0 → Claim y') where
    F : IsFlatIn (sliced s h) h b
    F = two-of s h hn b on-b three inside

    first-two : (r : SpacePoint) → IsBetween y r b → FlatDim (sliced s h) r 2
    first-two = two-along s h hn y b on-y on-b first three inside

    second-two : (r : SpacePoint) → IsBetween y r y' → FlatDim (sliced s h) r 2
    second-two r m = let f = second r m in let g = two-of s h hn r (plane-between h y r y' m on-y on-y') f.0 f.1 in g.0

    corner : (u : SpacePoint) → (SamePoint y u → ⊥) → ((r : SpacePoint) → IsBetween u r y → FlatDim (sliced s h) r 1) → (c : SpacePoint) → SameDirection (toward y c) (opposite up) → IsBetween b u c → ⊥
    corner u off edge c way m = ⊎_elim (λ two. corner-two (sliced s h) y u off edge two)
        (λ w. corner-wedge (sliced s h) y u off edge b c m (wedge-way (sliced s h) 2 y (toward y b) (toward y b) (opposite up) (toward y c) (dir-self (toward y b) some-b) (SameDirection-turned (toward y c) (opposite up) way)
        (λ i j si sj. blend-rises (cross n up) (toward y b) (toward y c) i j si (subst (λ (v : ℤ). pos 0 <ℤ v) (triple-dot n up (toward y b)) side) (let e = triple-dot n up (toward y c) in let l = lam-down n y c way in omega (arith, ints))) w)) start
      where
        some-b : IsDirection (toward y b)
        some-b z = let e = lam-zero n y b z in let l = side in omega (arith, ints)

    abbrev q : SpacePoint
    q = q0 (sliced s h) h hn level y y' b on-y on-y' on-b down side clear first-two second-two F corner

    abbrev r : SpacePoint
    r = r0 (sliced s h) h hn level y y' b on-y on-y' on-b down side clear first-two second-two F corner

    on-q : form_at h q ≡ pos 0
    on-q = on-q0 (sliced s h) h hn level y y' b on-y on-y' on-b down side clear first-two second-two F corner

    on-r : form_at h r ≡ pos 0
    on-r = on-r0 (sliced s h) h hn level y y' b on-y on-y' on-b down side clear first-two second-two F corner

    free-b : (u : SpacePoint) → IsBetween b u y' → FlatDim s u 3
    free-b u m = three-of s h hn 2 b u on-b (plane-between h b u y' m on-b on-y') (even-by (sliced s h) 2 b u F.0 (λ v k. to-b (sliced s h) h hn level y y' b on-y on-y' on-b down side clear first-two second-two F corner v (between-inner b u y' v m k))
        (to-b (sliced s h) h hn level y y' b on-y on-y' on-b down side clear first-two second-two F corner u m)) three

    -- above y' the directions to b are free
    some-y' : IsDirection (toward y' b)
    some-y' z = let e = lam-zero n y' b z in let l = side' (sliced s h) h hn level y y' b on-y on-y' on-b down side clear first-two second-two F corner in omega (arith, ints)

    amid-q : IsBetween b (near_point (sliced s h) y' b) y'
    amid-q = between-turned y' b (near_point (sliced s h) y' b) (near-between (sliced s h) y' b some-y')

    three-q : FlatDim s q 3
    three-q = free-b (near_point (sliced s h) y' b) amid-q

    fan-three : (u : SpacePoint) → IsBetween r u q → FlatDim s u 3
    fan-three u m = three-of s h hn 2 q u on-q (plane-between h r u q m on-r on-q)
        (even-by (sliced s h) 2 q u (two-q0 (sliced s h) h hn level y y' b on-y on-y' on-b down side clear first-two second-two F corner)
        (λ v k. even-fan (sliced s h) h hn level y y' b on-y on-y' on-b down side clear first-two second-two F corner v (between-inner q u r v (between-turned r q u m) k))
        (even-fan (sliced s h) h hn level y y' b on-y on-y' on-b down side clear first-two second-two F corner u (between-turned r q u m))) three-q

    back : SameDirection (toward y' y) up
    back = subst (λ (v : Vector). SameDirection (toward y' y) v) (opposite-twice up) (ahead-back y y' (opposite up) down)

    up-wedge : Wedge s 3 y' up (toward y' b)
    up-wedge = wedge-way s 3 y' (toward y' y) up (toward y' b) (toward y' b) back (dir-self (toward y' b) some-y')
        (λ i j si sj. turned-some i j si sj)
        (subst (λ (v : Vector). Wedge s 3 y' v (toward y' b)) (start-toward (reach_all (carriers (sliced s h)) y') y' y)
        (subst (λ (v : Vector). Wedge s 3 y' (toward y' r) v) (start-toward (reach_all (carriers (sliced s h)) y') y' b)
        (wedge-of s 3 y' r q (sliced-off s h y' r (off-close (sliced s h) y' r (start-close (reach_all (carriers (sliced s h)) y') y' y))) (sliced-off s h y' q (off-close (sliced s h) y' q (start-close (reach_all (carriers (sliced s h)) y') y' b)))
        (apart (sliced s h) h hn level y y' b on-y on-y' on-b down side clear first-two second-two F corner) fan-three)))
      where
        turned-some : (i j : ℕ) → 0 < i → 0 < j → IsDirection (blend i up j (toward y' b))
        turned-some i j si sj = subst IsDirection (blend-turned j i (toward y' b) up) (blend-rises (cross n up) (toward y' b) up j i sj
            (subst (λ (v : ℤ). pos 0 <ℤ v) (triple-dot n up (toward y' b)) (side' (sliced s h) h hn level y y' b on-y on-y' on-b down side clear first-two second-two F corner))
            (let e = triple-dot n up up in let f = triple-turned n up up in omega (arith, ints)))

    free-up : FlatDim s (ahead s y' up) 3
    free-up = tied-dim s q' (ahead s y' up) 3 (tied-ray s 3 y' q' up near-way (λ u o. by-part u o)) (second q' amid-r).0
      where
        q' : SpacePoint
        q' = near_point (sliced s h) y' y

        some-back : IsDirection (toward y' y)
        some-back = direction-left (toward y' y) up back

        on-line : IsBetween y' (near_point (sliced s h) y' y) y
        on-line = near-between (sliced s h) y' y some-back

        amid-r : IsBetween y (near_point (sliced s h) y' y) y'
        amid-r = between-turned y' y (near_point (sliced s h) y' y) on-line

        near-way : SameDirection (toward y' (near_point (sliced s h) y' y)) up
        near-way = SameDirection-trans (toward y' (near_point (sliced s h) y' y)) (toward y' y) up (between-way y' (near_point (sliced s h) y' y) y on-line) back

        by-part : (u : SpacePoint) → IsBetween y' u (near_point (sliced s h) y' y) ⊎ SamePoint u (near_point (sliced s h) y' y) → FlatDim s u 3
        by-part u (inl m) = (second u (between-turned y' y u (between-inner y' (near_point (sliced s h) y' y) y u on-line m))).0
        by-part u (inr e) = dim-same s (near_point (sliced s h) y' y) u 3 (same-point_sym u (near_point (sliced s h) y' y) e) (second (near_point (sliced s h) y' y) amid-r).0

    free-way : FlatDim s (ahead s y' (toward y' b)) 3
    free-way = free-toward s y' b some-y' (λ u m. free-b u (between-turned y' b u m)) three

    -- at a vertex of the plane
    by-vertex : FlatDim (sliced s h) y' 0 → Chained (VolumeLink C) x z
    by-vertex v =
        let B = beside-over s C S upright linked y' x (λ two. not-facet y' on-y' v two) A in
        let T = turn-beside s C S upright linked y' up (toward y' b) x free-up free-way up-wedge B in
        chain-trans (VolumeLink C) x T.0 z T.2
        (claim v b T.0 z on-b (side' (sliced s h) h hn level y y' b on-y on-y' on-b down side clear first-two second-two F corner) (clear' (sliced s h) h hn level y y' b on-y on-y' on-b down side clear first-two second-two F corner)
        (λ u m. free-b u (between-turned y' b u m)) three inside T.1 R)

    -- on an edge of the plane
    by-edge : FlatDim (sliced s h) y' 1 → Chained (VolumeLink C) x z
    by-edge one = by (landed (sliced s h) h hn level y y' b on-y on-y' on-b down side clear first-two second-two F corner one)
      where
        by : (g : Vector) × Landing (sliced s h) h hn level y' b on-y' on-b (side' (sliced s h) h hn level y y' b on-y on-y' on-b down side clear first-two second-two F corner)
            (clear' (sliced s h) h hn level y y' b on-y on-y' on-b down side clear first-two second-two F corner) (to-b (sliced s h) h hn level y y' b on-y on-y' on-b down side clear first-two second-two F corner) F g → Chained (VolumeLink C) x z
        by (g, L) =
            let S' = side' (sliced s h) h hn level y y' b on-y on-y' on-b down side clear first-two second-two F corner in
            let C' = clear' (sliced s h) h hn level y y' b on-y on-y' on-b down side clear first-two second-two F corner in
            let T' = to-b (sliced s h) h hn level y y' b on-y on-y' on-b down side clear first-two second-two F corner in
            let k = flatness s C S upright linked h hn level y' b on-y' on-b S' C' T' F three inside g L z R in
            let E = even-hit s C S upright linked h hn level y' b on-y' on-b S' C' T' F three inside g L z R in
            let same = germs-of s h hn 1 y' L.place on-y' L.on (even-by (sliced s h) 1 y' L.place one L.edge L.here) in
            let at-y' = FlatDim-by_germs s s L.place y' (λ d l. let i = same d l in (i.1, i.0)) k (flat_dim-of s L.place).1 in
            over-one s C S linked k y' R.place x z (even-by s k y' R.place at-y' (λ u m. E u (inl m)) (E R.place (inr (same-itself R.place))))
            (λ e. let p = some-flat s C S upright linked h hn level y' b on-y' on-b S' C' T' F three inside g L z R in absurd (omega arith)) A (ray-over s C S b z R)

    -- elsewhere nothing ends
    by-facet : FlatDim (sliced s h) y' 2 → Chained (VolumeLink C) x z
    by-facet two = absurd (over-three y' x A (three-of s h hn 2 r y' on-r on-y' (even-by (sliced s h) 2 r y' (two-r0 (sliced s h) h hn level y y' b on-y on-y' on-b down side clear first-two second-two F corner)
        (λ u m. second-two u (between-outer y r u y' amid-r m)) two) (second r amid-r).0))
      where
        some-back : IsDirection (toward y' y)
        some-back = direction-left (toward y' y) up back

        amid-r : IsBetween y (near_point (sliced s h) y' y) y'
        amid-r = between-turned y' y (near_point (sliced s h) y' y) (near-between (sliced s h) y' y some-back)

    -- what falls from b names a side of the class of what lies above y'
    pub beside-fall : Chained (VolumeLink C) x z
    beside-fall = by (flat_dim-of (sliced s h) y')
      where
        by-dim : (k : ℕ) → FlatDim (sliced s h) y' k → Chained (VolumeLink C) x z
        by-dim zero f = by-vertex f
        by-dim (suc zero) f = by-edge f
        by-dim (suc (suc zero)) f = by-facet f
        by-dim (suc (suc (suc zero))) f =
            let l = flat_dim-nearby (sliced s h) y' r (start-close (reach_all (carriers (sliced s h)) y') y' y) 2 3 f (two-r0 (sliced s h) h hn level y y' b on-y on-y' on-b down side clear first-two second-two F corner) in absurd (omega arith)
        by-dim (suc (suc (suc (suc k)))) f = absurd f.0

        by : (k : ℕ) × FlatDim (sliced s h) y' k → Chained (VolumeLink C) x z
        by (k, f) = by-dim k f
