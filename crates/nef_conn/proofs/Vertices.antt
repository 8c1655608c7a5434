-- What falls from a point beside a vertex of a plane names a side of the class of what touches the vertex toward it: by what leaves the vertex first, or, where nothing does, by what lies below.
use Rattle.nef_conn.proofs.Prelude.{◌≡◌, ℤ, pos, ◌<ℤ◌, arith, sym, ◌⊎◌, inr, ⊎_elim, subst, ints, Chained, FlatDim, IsEven, SpacePoint, Form, form_at, normal_of, slope, SamePoint, InFrame, toward, IsBetween, Set, Vector, opposite, cross, IsDirection, SameDirection, up, carriers, SameGerms, FlatDim-by_germs, germs-by_cell, between-turned, between-inner, ray-cell, ahead, even-germs, signs-same, same-point_sym, Complex, Shows, VertexSide, RayDown, IsFlatIn, facet-of, plane-between, plane-ahead, even-by, plane-way, skeleton-not_flat, skeleton-or_flat, between-way, between-cases, between-start, VolumeLink, IsUpright, ahead-close, dim-cell, facet-at, AreLinkedWhereJoined, sliced, triple-dot, triple-turned, SameDirection-turned, SameDirection-trans, dir-self, dot-opposite, level-way, direction-left}
use Rattle.nef_space.proofs.Chains.{chain-trans}
use Rattle.nef_conn.proofs.Fall.{lam-zero}
use Rattle.nef_conn.proofs.Fans.{off-between}
use Rattle.nef_conn.proofs.Hits.{ray-over}
use Rattle.nef_conn.proofs.Land.{Landing, search, Blocked, near-b, near-down, on-near, two-near, even-near, on-down, to-down, apart-down, off-near, off-down, way-near}
use Rattle.nef_conn.proofs.Leaves.{Beside-point, turn-beside, near-over}
use Rattle.nef_conn.proofs.Near.{Wedge, wedge-of, wedge-way}
use Rattle.nef_conn.proofs.NearOver.{blend-rises}
use Rattle.nef_conn.proofs.RaysEnd.{free-above, ray-down, free-toward}
use Rattle.nef_conn.proofs.Silhouettes.{sliced-signs, sliced-off, sliced-ahead, germs-inside, toward-end, two-of, germs-of, three-of, lands, some-flat, even-hit, flatness, two-along}
use Rattle.nef_conn.proofs.Claims.{Claim, up-side, not-flat, beside-fall}
use Rattle.nef_conn.proofs.SliceStrip.{lam, Clear}

module _ (s : Set) (C : Complex) (S : Shows s C) (upright : IsUpright C) (linked : AreLinkedWhereJoined s C) (h : Form) (hn : IsDirection (normal_of h)) (level : slope h up ≡ pos 0) where
  abbrev n : Vector
  n = normal_of h

  abbrev t : Set
  t = sliced s h

  module _ (y : SpacePoint) (on-y : form_at h y ≡ pos 0) (corner-y : FlatDim (sliced s h) y 0) (down : FlatDim s (ahead s y (opposite up)) 3 ⊎ ((b : SpacePoint) (x z : VertexSide) → form_at h b ≡ pos 0 → pos 0 <ℤ lam (normal_of h) y b → Clear (sliced s h) h hn level y b → ((r : SpacePoint) → IsBetween y r b → FlatDim s r 3) → FlatDim s b 3 → InFrame b
      → Beside-point s C S upright linked y (toward y b) x → RayDown C b z → Wedge s 3 y (toward y b) (opposite up) → Wedge (sliced s h) 2 y (toward y b) (opposite up) → Chained (VolumeLink C) x z))
      (below : (y2 : SpacePoint) → form_at h y2 ≡ pos 0 → SameDirection (toward y y2) (opposite up) → FlatDim (sliced s h) y2 0 → Claim s C S upright linked h hn level y2)
      (falls : (x x2 : VertexSide) → Beside-point s C S upright linked y (opposite up) x → (R : RayDown C y x2) → ((r : SpacePoint) → IsBetween y r R.place → FlatDim s r 3 × InFrame r) → Chained (VolumeLink C) x x2) where
    module _ (b : SpacePoint) (x z : VertexSide) (on-b : form_at h b ≡ pos 0) (side : pos 0 <ℤ lam (normal_of h) y b) (clear : Clear (sliced s h) h hn level y b) (first : (r : SpacePoint) → IsBetween y r b → FlatDim s r 3) (three : FlatDim s b 3) (inside : InFrame b)
        (B : Beside-point s C S upright linked y (toward y b) x) (R : RayDown C b z) where
      F : IsFlatIn (sliced s h) h b
      F = two-of s h hn b on-b three inside

      first-two : (r : SpacePoint) → IsBetween y r b → FlatDim (sliced s h) r 2
      first-two = two-along s h hn y b on-y on-b first three inside

      some-b : IsDirection (toward y b)
      some-b z = let e = lam-zero n y b z in let l = side in omega (arith, ints)

      abbrev P : SpacePoint
      P = near-b (sliced s h) h hn level y b on-y on-b side clear first-two F

      abbrev Q : SpacePoint
      Q = near-down (sliced s h) h hn level y b on-y on-b side clear first-two F

      on-P : form_at h P ≡ pos 0
      on-P = on-near (sliced s h) h hn level y b on-y on-b side clear first-two F

      two-P : FlatDim (sliced s h) P 2
      two-P = two-near (sliced s h) h hn level y b on-y on-b side clear first-two F

      germs-P : SameGerms s b P
      germs-P = germs-of s h hn 2 b P on-b on-P (even-near (sliced s h) h hn level y b on-y on-b side clear first-two F)

      three-P : FlatDim s P 3
      three-P = FlatDim-by_germs s s b P germs-P 3 three

      inside-P : InFrame P
      inside-P = germs-inside s b P germs-P inside

      way-P : toward y P ≡ toward y b
      way-P = way-near (sliced s h) h hn level y b on-y on-b side clear first-two F

      -- free points that follow P
      after-P : (r : SpacePoint) → form_at h r ≡ pos 0 → IsEven (sliced s h) 2 P r → FlatDim s r 3
      after-P r on-r even = three-of s h hn 2 P r on-P on-r even three-P

      free-way : FlatDim s (ahead s y (toward y b)) 3
      free-way = free-toward s y b some-b first three

      -- ---- what leaves y lands under b
      module _ (K : Blocked (sliced s h) h hn level y b on-y on-b side clear first-two F) where
        abbrev to-b : (r : SpacePoint) → IsBetween b r y → FlatDim (sliced s h) r 2
        to-b r m = first-two r (between-turned b y r m)

        abbrev L : Landing (sliced s h) h hn level y b on-y on-b side clear (λ r m. first-two r (between-turned b y r m)) F (toward y K.place)
        L = K.landing

        hit : SamePoint R.place L.place
        hit = lands s C S upright linked h hn level y b on-y on-b side clear (λ r m. first-two r (between-turned b y r m)) F three inside (toward y K.place) K.landing z R

        some-L : IsDirection (toward y L.place)
        some-L = direction-left (toward y L.place) (toward y K.place) L.dir

        to-hit : SameDirection (toward y R.place) (toward y L.place)
        to-hit = toward-end y R.place L.place hit some-L

        on-K : form_at h K.place ≡ pos 0
        on-K = plane-between h P K.place Q K.between on-P (on-down (sliced s h) h hn level y b on-y on-b side clear first-two F)

        wedge : Wedge s 3 y (toward y b) (toward y K.place)
        wedge = subst (λ (v : Vector). Wedge s 3 y v (toward y K.place)) way-P
            (wedge-of s 3 y P K.place (sliced-off s h y P (off-near (sliced s h) h hn level y b on-y on-b side clear first-two F))
            (sliced-off s h y K.place (off-between (sliced s h) y P K.place Q (off-near (sliced s h) h hn level y b on-y on-b side clear first-two F) (off-down (sliced s h) h hn level y b on-y on-b side clear first-two F) K.between))
            (between-start P K.place Q K.between)
            (λ r m. after-P r (plane-between h P r K.place m on-P on-K) (even-by (sliced s h) 2 P r two-P (λ u k. K.before u (between-inner P r K.place u m k)) (K.before r m))))

        by-landing : Chained (VolumeLink C) x z
        by-landing =
            let k = flatness s C S upright linked h hn level y b on-y on-b side clear (λ r m. first-two r (between-turned b y r m)) F three inside (toward y K.place) K.landing z R in
            near-over s C S upright linked y R.place x z (toward y K.place) (toward y b) (SameDirection-trans (toward y R.place) (toward y L.place) (toward y K.place) to-hit L.dir)
            (up-side s C S upright linked h hn level y b L.place (toward y K.place) L.dir L.below) free-way (free-above s C S b R.place R.ahead three R.first) wedge k
            (some-flat s C S upright linked h hn level y b on-y on-b side clear (λ r m. first-two r (between-turned b y r m)) F three inside (toward y K.place) K.landing z R)
            (even-hit s C S upright linked h hn level y b on-y on-b side clear (λ r m. first-two r (between-turned b y r m)) F three inside (toward y K.place) K.landing z R)
            (not-flat s C S upright linked h hn level y (toward y R.place) on-y (level-hit) (direction-left (toward y R.place) (toward y L.place) to-hit) corner-y) B (ray-over s C S b z R)
          where
            level-hit : slope h (toward y R.place) ≡ pos 0
            level-hit = level-way n (toward y L.place) (toward y R.place) (SameDirection-turned (toward y R.place) (toward y L.place) to-hit) (plane-way h y L.place on-y L.on)

      -- ---- or nothing leaves y to the side of b
      module _ (all : (r : SpacePoint) → IsBetween P r Q → FlatDim (sliced s h) r 2) where
        on-Q : form_at h Q ≡ pos 0
        on-Q = on-down (sliced s h) h hn level y b on-y on-b side clear first-two F

        to-Q : SameDirection (toward y Q) (opposite up)
        to-Q = to-down (sliced s h) h hn level y b on-y on-b side clear first-two F

        three-amid : (r : SpacePoint) → IsBetween P r Q → FlatDim s r 3
        three-amid r m = after-P r (plane-between h P r Q m on-P on-Q) (even-by (sliced s h) 2 P r two-P (λ u k. all u (between-inner P r Q u m k)) (all r m))

        wedge-down : Wedge s 3 y (toward y b) (opposite up)
        wedge-down = wedge-way s 3 y (toward y b) (toward y b) (toward y Q) (opposite up) (dir-self (toward y b) some-b) to-Q
            (λ i j si sj. blend-rises (cross n up) (toward y b) (opposite up) i j si (subst (λ (v : ℤ). pos 0 <ℤ v) (triple-dot n up (toward y b)) side)
            (let e = dot-opposite (cross n up) up in let f = triple-dot n up up in let g = triple-turned n up up in omega (arith, ints)))
            (subst (λ (v : Vector). Wedge s 3 y v (toward y Q)) way-P
            (wedge-of s 3 y P Q (sliced-off s h y P (off-near (sliced s h) h hn level y b on-y on-b side clear first-two F)) (sliced-off s h y Q (off-down (sliced s h) h hn level y b on-y on-b side clear first-two F))
            (apart-down (sliced s h) h hn level y b on-y on-b side clear first-two F) three-amid))

        wedge-two : Wedge (sliced s h) 2 y (toward y b) (opposite up)
        wedge-two = wedge-way (sliced s h) 2 y (toward y b) (toward y b) (toward y Q) (opposite up) (dir-self (toward y b) some-b) to-Q
            (λ i j si sj. blend-rises (cross n up) (toward y b) (opposite up) i j si (subst (λ (v : ℤ). pos 0 <ℤ v) (triple-dot n up (toward y b)) side)
            (let e = dot-opposite (cross n up) up in let f = triple-dot n up up in let g = triple-turned n up up in omega (arith, ints)))
            (subst (λ (v : Vector). Wedge (sliced s h) 2 y v (toward y Q)) way-P
            (wedge-of (sliced s h) 2 y P Q (off-near (sliced s h) h hn level y b on-y on-b side clear first-two F) (off-down (sliced s h) h hn level y b on-y on-b side clear first-two F)
            (apart-down (sliced s h) h hn level y b on-y on-b side clear first-two F) all))

        -- where down is free
        module _ (free-down : FlatDim s (ahead s y (opposite up)) 3) where
          three-Q : FlatDim s Q 3
          three-Q = dim-cell s (ahead s y (opposite up)) Q 3 (λ f l. sym (sliced-ahead s h y (opposite up) f l)) free-down

          inside-Q : InFrame Q
          inside-Q = germs-inside s P Q (even-germs s 3 P Q (even-by s 3 P Q three-P three-amid three-Q)) inside-P

          -- the ray down from y, by that from the point below it
          below-Q : (x2 : VertexSide) × RayDown C Q x2
          below-Q = ray-down s C S upright Q inside-Q three-Q

          module _ (x2 : VertexSide) (D : RayDown C Q x2) where
            on-ray-Q : IsBetween y Q D.place
            on-ray-Q = SameDirection-trans (toward y Q) (opposite up) (toward Q D.place) to-Q (SameDirection-turned (toward Q D.place) (opposite up) D.ahead)

            to-place : SameDirection (toward y D.place) (opposite up)
            to-place = SameDirection-trans (toward y D.place) (toward y Q) (opposite up) (SameDirection-turned (toward y Q) (toward y D.place) (between-way y Q D.place on-ray-Q)) to-Q

            on-place : form_at h D.place ≡ pos 0
            on-place = plane-ahead h Q D.place (opposite up) D.ahead (let e = dot-opposite n up in let l = level in omega (arith, ints)) on-Q

            germs-ray : (r : SpacePoint) → IsBetween y r D.place → SameGerms s Q r
            germs-ray r m = ⊎_elim (λ k. germs-by_cell s Q r (sliced-signs s h Q r (ray-cell (carriers (sliced s h)) y Q r (ahead-close (sliced s h) y (opposite up)) k)))
                (λ o. ⊎_elim (λ e. germs-by_cell s Q r (signs-same (carriers s) Q r (same-point_sym r Q e))) (λ k. even-germs s 3 Q r (even-by s 3 Q r three-Q (λ u i. three-ray u (between-inner Q r D.place u k i)) (three-ray r k))) o)
                (between-cases y Q D.place r on-ray-Q m)
              where
                three-ray : (u : SpacePoint) → IsBetween Q u D.place → FlatDim s u 3
                three-ray u k = ⊎_elim (λ f. f) (λ o. absurd (D.first u k o)) (skeleton-or_flat s C S (facet-at s C S) (facet-of s C S) u)

            second : (r : SpacePoint) → IsBetween y r D.place → FlatDim s r 3 × InFrame r
            second r m = let g = germs-ray r m in (FlatDim-by_germs s s Q r g 3 three-Q, germs-inside s Q r g inside-Q)

            abbrev ray-y : RayDown C y x2
            ray-y = record {
              place = D.place;
              spot = D.spot;
              ahead = to-place;
              is_spot = D.is_spot;
              first = λ r m o. skeleton-not_flat s C S (facet-at s C S) (facet-of s C S) r o (second r m).0;
              above = D.above;
              label = D.label;
              has = D.has;
            }

            by-ray : Chained (VolumeLink C) x z
            by-ray =
                let T = turn-beside s C S upright linked y (toward y b) (opposite up) x free-way free-down wedge-down B in
                chain-trans (VolumeLink C) x T.0 z T.2 (chain-trans (VolumeLink C) T.0 x2 z (falls T.0 x2 T.1 ray-y second)
                (beside-fall s C S upright linked h hn level y D.place b on-y on-place on-b to-place side clear first second three inside (inr wedge-two) x2 z (ray-over s C S Q x2 D) R (below D.place on-place to-place)))

          by-open : Chained (VolumeLink C) x z
          by-open = by-ray below-Q.0 below-Q.1

        by-either : Chained (VolumeLink C) x z
        by-either = ⊎_elim (λ f. by-open f) (λ g. g b x z on-b side clear first three inside B R wedge-down wedge-two) down

      claim-there : Chained (VolumeLink C) x z
      claim-there = ⊎_elim (λ all. by-either all) (λ K. by-landing K) (search (sliced s h) h hn level y b on-y on-b side clear first-two F)

    pub claim-at : Claim s C S upright linked h hn level y
    claim-at b x z on-b side clear first three inside B R = claim-there b x z on-b side clear first three inside B R
