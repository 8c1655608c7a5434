-- What falls from a point b beside a start y, where all between is free: it comes down on the edge through the point y' at which y's own fall ends, or, where that is a vertex of the plane, on the first edge that leaves it, or all is free below.
use Rattle.nef_conn.proofs.Prelude.{◌≡◌, ℕ, zero, suc, ◌<◌, ℤ, pos, ◌+ℤ◌, ◌*ℤ◌, ◌<ℤ◌, arith, ap, sym, ◌∙◌, ◌⊎◌, inl, inr, ⊎_elim, subst, ints, by_order, mul_pos, plus-of, even-germs, flat-toward, Flat-from_cone, ahead-back, flats-carried, Flat, FlatDim, IsEven, SpacePoint, Form, form_at, normal_of, slope, SamePoint, Within, toward, IsBetween, Set, Vector, opposite, dot, cross, triple, IsZero, IsDirection, SameDirection, up, carriers, Drop, IsFlatBelow, between-turned, between-inner, ahead, start-close, start-toward, even-until, same-point_sym, reach_all, toward-point, point-toward, Beside, same_way, other_way, beside, turn-last, same-plus, same-minus, IsFlatIn, near_point, near-between, same-by, zero-by, aligned, angle, turn_form, turn-at, angle-turned, angle-self, angle-inside, between-plus, between-minus, cut-at, plane-between, plane-ahead, even-by, plane-way, between-way, between-start, between-outer, ahead-close, ahead-toward, dot-zero, triple-dot, triple-turned, SameDirection-turned, SameDirection-trans, dir-self, parallel-in_plane, dot-opposite, opposite-way, opposite-dot, cross-none, opposite-twice, direction-left}
use Rattle.nef_conn.proofs.Sweep.{minus-any}
use Rattle.nef_conn.proofs.Fall.{corner-two, corner-wedge, corner-edge, Run, run-edge, run-near, lam-down, lam-chain, lam-self, lam-zero}
use Rattle.nef_conn.proofs.Near.{Wedge, wedge-of, wedge-way}
use Rattle.nef_conn.proofs.Fans.{IsOff, off-close, off-ahead, off-between, off-dim}
use Rattle.nef_conn.proofs.NearOver.{up-some, blend-rises}
use Rattle.nef_conn.proofs.SliceStrip.{lam, up_line, lam-at, lam-turned, lam-sum, down-turn, Clear, slope-to, along-start, along-end, along-back}
use Rattle.law_geometry.proofs.near.Same.{one-not_two, dim-same}

module _ (t : Set) (h : Form) (hn : IsDirection (normal_of h)) (level : slope h up ≡ pos 0) where
  abbrev n : Vector
  n = normal_of h

  -- what lies on b's line, and to the left of the way from y to b, lies below b
  pub below-by : (y b c : SpacePoint) → form_at h y ≡ pos 0 → form_at h b ≡ pos 0 → form_at h c ≡ pos 0 → pos 0 <ℤ lam n y b → lam n b c ≡ pos 0 → pos 0 <ℤ angle n y b c → SameDirection (toward b c) (opposite up)
  below-by y b c on-y on-b on-c side line turn = by (beside up (toward b c) up-some some (parallel-in_plane n up (toward b c) hn level (plane-way h b c on-b on-c) line))
    where
      inside : pos 0 <ℤ triple n (toward b c) (toward b y)
      inside = angle-inside n y b c turn

      some : IsDirection (toward b c)
      some z = let e = triple-turned n (toward b c) (toward b y) in let f = dot-zero n (cross (toward b y) (toward b c)) (cross-none (toward b y) (toward b c) z) in let i = inside in omega (arith, ints)

      by : Beside up (toward b c) → SameDirection (toward b c) (opposite up)
      by (same_way w) =
          let e = turn-last n (toward b y) up (toward b c) w in
          let f = triple-turned n (toward b y) up in
          let g = lam-turned n y b in
          let k = side in
          let m = same-plus (triple n (toward b y) up) (triple n (toward b y) (toward b c)) e (omega (arith, ints)) in
          let i = inside in
          let j = triple-turned n (toward b y) (toward b c) in
          absurd (omega (arith, ints))
      by (other_way o) = SameDirection-turned (opposite up) (toward b c) (opposite-way up (toward b c) o)

  -- the same lines as seen from another point of y's line
  pub side-on : (y c b : SpacePoint) → lam n y c ≡ pos 0 → pos 0 <ℤ lam n y b → pos 0 <ℤ lam n c b
  side-on y c b e l = plain (lam n y b) (lam n c b) (lam-sum n y c b) e l
    where
      plain : (a d : ℤ) → pos c.w *ℤ a ≡ pos b.w *ℤ lam n y c +ℤ pos y.w *ℤ d → lam n y c ≡ pos 0 → pos 0 <ℤ a → pos 0 <ℤ d
      plain a d q e l =
          let p = mul_pos (pos c.w) a (let k = c.proper in omega (arith, ints)) l in
          let o = ap (λ r. pos b.w *ℤ r) e in
          plus-of (pos y.w) d (let i = y.proper in omega (arith, ints)) (omega (arith, ints))

  line-turned : (y c : SpacePoint) → lam n y c ≡ pos 0 → lam n c y ≡ pos 0
  line-turned y c e = let f = lam-turned n y c in omega (arith, ints)

  pub clear-on : (y c b : SpacePoint) → lam n y c ≡ pos 0 → Clear t h hn level y b → Clear t h hn level c b
  clear-on y c b e clear r vertex on l m = clear r vertex on (side-on c y r (line-turned y c e) l) m

  -- from y' to b all points are free
  module _ (y' b : SpacePoint) (on-y' : form_at h y' ≡ pos 0) (on-b : form_at h b ≡ pos 0) (side' : pos 0 <ℤ lam n y' b) (clear' : Clear t h hn level y' b) (to-b : (r : SpacePoint) → IsBetween b r y' → FlatDim t r 2) (F : IsFlatIn t h b) where
    -- ---- where what falls from b lands
    pub record Landing (g : Vector) : Type 0 where
      pub place : SpacePoint
      pub dir : SameDirection (toward y' place) g
      pub on : form_at h place ≡ pos 0
      pub below : SameDirection (toward b place) (opposite up)
      pub free : (r : SpacePoint) → IsBetween b r place → FlatDim t r 2
      pub edge : (r : SpacePoint) → IsBetween y' r place → FlatDim t r 1
      pub here : FlatDim t place 1

    -- on an edge from y' that runs under b
    module _ (g : Vector) (R : Run t h hn level y' b g) (under : SameDirection (toward b R.place) (opposite up)) where
      ahead-of : pos 0 <ℤ angle n y' b R.place
      ahead-of =
          let e = lam-turned n y' b in
          let l = side' in
          let m = same-minus (lam n b y') (triple n (toward b y') (toward b R.place)) (down-turn n (toward b y') (toward b R.place) under) (omega (arith, ints)) in
          let f = triple-turned n (toward b R.place) (toward b y') in
          angle-inside n R.place y' b (angle-inside n b R.place y' (omega (arith, ints)))

      some-R : IsDirection (toward y' R.place)
      some-R = direction-left (toward y' R.place) g R.dir

      off-y' : (x : SpacePoint) → IsBetween b x R.place → SamePoint y' x → ⊥
      off-y' x m e =
          let p = between-plus (up_line n y') b x R.place m (let f = lam-at n y' b in let l = side' in omega (arith, ints)) (let f = lam-at n y' R.place in let l = beyond in omega (arith, ints)) in
          let f = lam-at n y' x in
          let z = lam-zero n y' x (point-toward y' x e) in
          omega (arith, ints)
        where
          beyond : pos 0 <ℤ lam n y' R.place
          beyond = slope-to n y' b R.place side' R.line

      landing-by : ((x : SpacePoint) → IsBetween b x R.place → ((r : SpacePoint) → IsBetween x r y' → FlatDim t r 1) → ⊥) → Landing g
      landing-by corner = record {
        place = R.place;
        dir = R.dir;
        on = R.on;
        below = under;
        free = along-end t h hn level y' b R.place on-y' on-b R.on under side' clear' (λ r m. to-b r (between-turned y' b r m)) (inr R.before) F corner;
        edge = R.before;
        here = R.here;
      }

      pub land-edge : FlatDim t y' 1 → Landing g
      land-edge one = landing-by (λ x m edge. off-edge x m (corner-edge t y' x (off-y' x m) edge R.place one some-R R.before))
        where
          off-edge : (x : SpacePoint) → IsBetween b x R.place → IsZero (cross (toward y' R.place) (toward y' x)) → ⊥
          off-edge x m z =
              let e = turn-at n y' R.place x ∙ dot-zero n (cross (toward y' R.place) (toward y' x)) z in
              let f = turn-at n y' R.place R.place ∙ angle-self n y' R.place in
              let g = turn-at n y' R.place b in
              let k = angle-turned n y' R.place b in
              let l = ahead-of in
              let i = between-minus (turn_form n y' R.place) R.place x b (between-turned b R.place x m) f (omega (arith, ints)) in
              omega (arith, ints)

      pub land-vertex : Wedge t 2 y' (toward y' b) (toward y' R.place) → Landing g
      land-vertex wedge = landing-by (λ x m edge. corner-wedge t y' x (off-y' x m) edge b R.place m wedge)

  -- from y, on one line with y', to b, and all points between them free
  module _ (y y' b : SpacePoint) (on-y : form_at h y ≡ pos 0) (on-y' : form_at h y' ≡ pos 0) (on-b : form_at h b ≡ pos 0) (down : SameDirection (toward y y') (opposite up)) (side : pos 0 <ℤ lam n y b) (clear : Clear t h hn level y b)
      (first : (r : SpacePoint) → IsBetween y r b → FlatDim t r 2) (second : (r : SpacePoint) → IsBetween y r y' → FlatDim t r 2) (F : IsFlatIn t h b)
      (start : (x : SpacePoint) → (SamePoint y x → ⊥) → ((r : SpacePoint) → IsBetween x r y → FlatDim t r 1) → (c : SpacePoint) → SameDirection (toward y c) (opposite up) → IsBetween b x c → ⊥) where
    pub side' : pos 0 <ℤ lam n y' b
    side' = side-on y y' b (lam-down n y y' down) side

    pub clear' : Clear t h hn level y' b
    clear' = clear-on y y' b (lam-down n y y' down) clear

    -- to a point of y's line, the way from b is free
    to-line : (c : SpacePoint) → form_at h c ≡ pos 0 → SameDirection (toward y c) (opposite up) → ((r : SpacePoint) → IsBetween y r c → FlatDim t r 2) → (r : SpacePoint) → IsBetween b r c → FlatDim t r 2
    to-line c on-c way all = along-start t h hn level y b c on-y on-b on-c way side clear first (inl all) F (λ x m edge. start x (off-start x m) edge c way m)
      where
        off-start : (x : SpacePoint) → IsBetween b x c → SamePoint y x → ⊥
        off-start x m e =
            let p = between-plus (up_line n y) b x c m (let f = lam-at n y b in let l = side in omega (arith, ints)) (let f = lam-at n y c in let l = lam-down n y c way in omega (arith, ints)) in
            let f = lam-at n y x in
            let z = lam-zero n y x (point-toward y x e) in
            omega (arith, ints)

    -- so the way from b to y' is free
    pub to-b : (r : SpacePoint) → IsBetween b r y' → FlatDim t r 2
    to-b = to-line y' on-y' down second

    -- close to y', toward y and toward b
    abbrev pub r0 : SpacePoint
    r0 = near_point t y' y

    abbrev pub q0 : SpacePoint
    q0 = near_point t y' b

    some-b : IsDirection (toward y' b)
    some-b z = let e = lam-zero n y' b z in let l = side' in omega (arith, ints)

    back : SameDirection (toward y' y) up
    back = subst (λ (v : Vector). SameDirection (toward y' y) v) (opposite-twice up) (ahead-back y y' (opposite up) down)

    on-segment : IsBetween y' q0 b
    on-segment = near-between t y' b some-b

    on-line : IsBetween y' r0 y
    on-line = near-between t y' y (direction-left (toward y' y) up back)

    pub on-q0 : form_at h q0 ≡ pos 0
    on-q0 = plane-between h y' q0 b on-segment on-y' on-b

    pub on-r0 : form_at h r0 ≡ pos 0
    on-r0 = plane-between h y' r0 y on-line on-y' on-y

    turned-line : IsBetween y r0 y'
    turned-line = between-turned y' y r0 on-line

    turned-segment : IsBetween b q0 y'
    turned-segment = between-turned y' b q0 on-segment

    to-r0 : SameDirection (toward y r0) (opposite up)
    to-r0 = SameDirection-trans (toward y r0) (toward y y') (opposite up) (between-way y r0 y' turned-line) down

    from-r0 : SameDirection (toward r0 y') (opposite up)
    from-r0 = SameDirection-trans (toward r0 y') (toward y r0) (opposite up) (SameDirection-turned (toward y r0) (toward r0 y') turned-line) to-r0

    before-r0 : (u : SpacePoint) → IsBetween y u r0 → FlatDim t u 2
    before-r0 u m = second u (between-inner y r0 y' u turned-line m)

    pub two-q0 : FlatDim t q0 2
    two-q0 = to-b q0 turned-segment

    pub two-r0 : FlatDim t r0 2
    two-r0 = second r0 turned-line

    side-r0 : pos 0 <ℤ lam n r0 b
    side-r0 = side-on y r0 b (lam-down n y r0 to-r0) side

    lam-q0 : pos 0 <ℤ lam n y' q0
    lam-q0 = same-plus (lam n y' b) (lam n y' q0) (turn-last n up (toward y' b) (toward y' q0) (SameDirection-turned (toward y' q0) (toward y' b) (between-way y' q0 b on-segment))) side'

    line-r0 : lam n y' r0 ≡ pos 0
    line-r0 = line-turned r0 y' (lam-down n r0 y' from-r0)

    side-q0 : pos 0 <ℤ lam n r0 q0
    side-q0 = side-on y' r0 q0 line-r0 lam-q0

    behind-b : lam n b q0 <ℤ pos 0
    behind-b =
        let m = between-minus (up_line n b) b q0 y' turned-segment (lam-at n b b ∙ lam-self n b) (let f = lam-at n b y' in let g = lam-turned n y' b in let l = side' in omega (arith, ints)) in
        let f = lam-at n b q0 in
        omega (arith, ints)

    pub apart : IsDirection (toward r0 q0)
    apart z = let e = lam-zero n r0 q0 z in let l = side-q0 in omega (arith, ints)

    even-q0 : IsEven t 2 b q0
    even-q0 = even-by t 2 b q0 F.0 (λ r m. to-b r (between-inner b q0 y' r turned-segment m)) two-q0

    flat-q0 : IsFlatIn t h q0
    flat-q0 = (two-q0, flats-carried t b q0 n (even-germs t 2 b q0 even-q0) F.1)

    to-r0-free : (r : SpacePoint) → IsBetween b r r0 → FlatDim t r 2
    to-r0-free = to-line r0 on-r0 to-r0 before-r0

    pub even-r0 : IsEven t 2 b r0
    even-r0 = even-by t 2 b r0 F.0 to-r0-free two-r0

    flat-r0 : IsFlatIn t h r0
    flat-r0 = (two-r0, flats-carried t b r0 n (even-germs t 2 b r0 even-r0) F.1)

    tri-turn : pos 0 <ℤ angle n b q0 r0
    tri-turn =
        let a = same-plus (lam n r0 b) (angle n r0 b y') (down-turn n (toward r0 b) (toward r0 y') from-r0) side-r0 in
        -- [b y', b r0] > 0
        let c = angle-inside n r0 b y' a in
        let e = turn-last n (toward b r0) (toward b y') (toward b q0) (SameDirection-turned (toward b q0) (toward b y') (between-way b q0 y' turned-segment)) in
        let f = angle-turned n b y' r0 in
        let g = angle-turned n b q0 r0 in
        let k = same-minus (angle n b r0 y') (angle n b r0 q0) e (omega (arith, ints)) in
        omega (arith, ints)

    pub even-fan : (u : SpacePoint) → IsBetween q0 u r0 → FlatDim t u 2
    even-fan = along-back t h hn level b q0 r0 on-b on-q0 on-r0 tri-turn side-r0 side-q0 (let f = lam-turned n b q0 in let m = behind-b in omega (arith, ints)) (clear-on y r0 b (lam-down n y r0 to-r0) clear)
        (λ r m. to-b r (between-inner b q0 y' r turned-segment m)) to-r0-free flat-q0 two-r0 (λ x m edge. corner-two t b x (off-b x m) edge F.0)
      where
        off-b : (x : SpacePoint) → IsBetween q0 x r0 → SamePoint b x → ⊥
        off-b x m e =
            let k = minus-any (up_line n b) q0 x r0 m (let f = lam-at n b q0 in let l = behind-b in omega (arith, ints)) (let f = lam-at n b r0 in let g = lam-turned n r0 b in let l = side-r0 in omega (arith, ints)) in
            let f = lam-at n b x in
            let z = lam-zero n b x (point-toward b x e) in
            omega (arith, ints)

    -- ---- where y' lies on an edge of the plane
    pub landed : FlatDim t y' 1 → (g : Vector) × Landing y' b on-y' on-b side' clear' to-b F g
    landed one = (K.0, land-edge y' b on-y' on-b side' clear' to-b F K.0 K.1 under one)
      where
        K : (g : Vector) × Run t h hn level y' b g
        K = run-edge t h hn level y' b on-y' on-b side' clear' r0 on-r0 from-r0 flat-r0 (λ r m. second r (between-outer y r0 r y' turned-line m)) one

        c : SpacePoint
        c = K.1.place

        line : lam n b K.1.place ≡ pos 0
        line = K.1.line

        -- the edge doesn't run over b
        at-start : pos 0 <ℤ angle n r0 b y'
        at-start = same-plus (lam n r0 b) (angle n r0 b y') (down-turn n (toward r0 b) (toward r0 y') from-r0) side-r0

        on-b-line : angle n r0 b K.1.place ≡ pos 0 → ⊥
        on-b-line e =
            let o = parallel-in_plane n (toward r0 b) (toward r0 K.1.place) hn (plane-way h r0 b on-r0 on-b) (plane-way h r0 K.1.place on-r0 K.1.on) e in
            same-here (zero-there (aligned r0 b K.1.place o))
          where
            plus-r0 : pos 0 <ℤ dot (cross n up) (toward r0 b)
            plus-r0 = subst (λ (v : ℤ). pos 0 <ℤ v) (triple-dot n up (toward r0 b)) side-r0

            same-here : SamePoint K.1.place b → ⊥
            same-here e = one-not_two t b (dim-same t K.1.place b 1 e K.1.here) F.0

            zero-there : IsZero (cross (toward r0 b) (toward K.1.place b)) → SamePoint K.1.place b
            zero-there m = toward-point K.1.place b (zero-by (opposite (cross n up)) (toward r0 b) (toward K.1.place b) m (let e = opposite-dot (cross n up) (toward r0 b) in let l = plus-r0 in omega (arith, ints))
                (let e = opposite-dot (cross n up) (toward K.1.place b) in let f = triple-dot n up (toward K.1.place b) in let g = lam-turned n b K.1.place in let l = line in omega (arith, ints)))

        over-b : angle n r0 b K.1.place <ℤ pos 0 → ⊥
        over-b l =
            let k = cut-at (turn_form n r0 b) y' K.1.place (direction-left (toward y' K.1.place) K.0 K.1.dir) (let e = turn-at n r0 b y' in let m = at-start in omega (arith, ints)) (let e = turn-at n r0 b K.1.place in omega (arith, ints)) in
            one-not_two t k.place (K.1.before k.place k.between) (to-r0-free k.place (between-turned r0 b k.place (on-way k.place k.between (sym (turn-at n r0 b k.place) ∙ k.level))))
          where
            on-way : (x : SpacePoint) → IsBetween y' x K.1.place → angle n r0 b x ≡ pos 0 → IsBetween r0 x b
            on-way x m e =
                let on-x = plane-between h y' x K.1.place m on-y' K.1.on in
                let o = parallel-in_plane n (toward r0 b) (toward r0 x) hn (plane-way h r0 b on-r0 on-b) (plane-way h r0 x on-r0 on-x) e in
                let far : pos 0 <ℤ lam n y' K.1.place = far-side in
                let p = between-plus (up_line n y') K.1.place x y' (between-turned y' K.1.place x m) (let f = lam-at n y' K.1.place in omega (arith, ints)) (let f = lam-at n y' y' in let g = lam-self n y' in omega (arith, ints)) in
                let px = side-on y' r0 x line-r0 (let f = lam-at n y' x in omega (arith, ints)) in
                let q = between-minus (up_line n b) K.1.place x y' (between-turned y' K.1.place x m) (lam-at n b K.1.place ∙ line) (let f = lam-at n b y' in let g = lam-turned n y' b in let l = side' in omega (arith, ints)) in
                let qx : pos 0 <ℤ lam n x b = (let f = lam-at n b x in let g = lam-turned n b x in omega (arith, ints)) in
                let u = same-by (cross n up) (toward r0 b) (toward r0 x) o (subst (λ (v : ℤ). pos 0 <ℤ v) (triple-dot n up (toward r0 b)) side-r0) (subst (λ (v : ℤ). pos 0 <ℤ v) (triple-dot n up (toward r0 x)) px) in
                let v = same-by (cross n up) (toward r0 b) (toward x b) (aligned r0 b x o) (subst (λ (v : ℤ). pos 0 <ℤ v) (triple-dot n up (toward r0 b)) side-r0) (subst (λ (v : ℤ). pos 0 <ℤ v) (triple-dot n up (toward x b)) qx) in
                SameDirection-trans (toward r0 x) (toward r0 b) (toward x b) (SameDirection-turned (toward r0 b) (toward r0 x) u) v
              where
                far-side : pos 0 <ℤ lam n y' K.1.place
                far-side = slope-to n y' b K.1.place side' line

        under : SameDirection (toward b K.1.place) (opposite up)
        under = below-by r0 b K.1.place on-r0 on-b K.1.on side-r0 line (by_order (angle n r0 b K.1.place) (pos 0) (λ l. absurd (over-b l)) (λ e. absurd (on-b-line e)) (λ l. l))

  -- ---- where y' is a vertex of the plane, from which all points to b are free
  module _ (y b : SpacePoint) (on-y : form_at h y ≡ pos 0) (on-b : form_at h b ≡ pos 0) (side : pos 0 <ℤ lam n y b) (clear : Clear t h hn level y b) (first : (r : SpacePoint) → IsBetween y r b → FlatDim t r 2) (F : IsFlatIn t h b) where
    to-b-some : IsDirection (toward y b)
    to-b-some z = let e = lam-zero n y b z in let l = side in omega (arith, ints)

    -- close to y, toward b and downward
    abbrev pub near-b : SpacePoint
    near-b = near_point t y b

    abbrev pub near-down : SpacePoint
    near-down = ahead t y (opposite up)

    amid : IsBetween y near-b b
    amid = near-between t y b to-b-some

    pub on-near : form_at h near-b ≡ pos 0
    on-near = plane-between h y near-b b amid on-y on-b

    pub two-near : FlatDim t near-b 2
    two-near = first near-b amid

    pub even-near : IsEven t 2 b near-b
    even-near = even-by t 2 b near-b F.0 (λ r m. first r (between-outer y near-b r b amid (between-turned b near-b r m))) two-near

    flat-near : IsFlatIn t h near-b
    flat-near = (two-near, flats-carried t b near-b n (even-germs t 2 b near-b even-near) F.1)

    down-some : IsDirection (opposite up)
    down-some z = let e = z.2 in omega (arith, ints)

    pub to-down : SameDirection (toward y near-down) (opposite up)
    to-down = ahead-toward t y (opposite up) down-some

    level-down : slope h (opposite up) ≡ pos 0
    level-down = let e = dot-opposite n up in let l = level in omega (arith, ints)

    pub on-down : form_at h near-down ≡ pos 0
    on-down = plane-ahead h y near-down (opposite up) to-down level-down on-y

    pub lam-near : pos 0 <ℤ lam n y near-b
    lam-near = same-plus (lam n y b) (lam n y near-b) (turn-last n up (toward y b) (toward y near-b) (SameDirection-turned (toward y near-b) (toward y b) (between-way y near-b b amid))) side

    line-down : lam n y near-down ≡ pos 0
    line-down = lam-down n y near-down to-down

    pub apart-down : IsDirection (toward near-b near-down)
    apart-down z =
        let f = lam-chain n y near-down near-b line-down (lam-zero n near-down near-b (point-toward near-down near-b (same-point_sym near-b near-down (toward-point near-b near-down z)))) in
        let l = lam-near in
        omega (arith, ints)

    pub off-near : IsOff t y near-b
    off-near = off-close t y near-b (start-close (reach_all (carriers t) y) y b)

    pub off-down : IsOff t y near-down
    off-down = off-ahead t y (opposite up)

    pub way-near : toward y near-b ≡ toward y b
    way-near = start-toward (reach_all (carriers t) y) y b

    -- the first direction down from b in which an edge leaves y, and where what falls from b lands on it
    pub record Blocked : Type 0 where
      pub place : SpacePoint
      pub between : IsBetween near-b place near-down
      pub before : (r : SpacePoint) → IsBetween near-b r place → FlatDim t r 2
      pub landing : Landing y b on-y on-b side clear (λ r m. first r (between-turned b y r m)) F (toward y place)

    blocked : Drop t 2 near-b near-down → Blocked
    blocked D = record { place = D.at_place; between = D.between; before = D.even_before; landing = land }
      where
        aside-q : pos 0 <ℤ lam n y D.at_place
        aside-q =
            let k = between-plus (up_line n y) near-b D.at_place near-down D.between (let f = lam-at n y near-b in let l = lam-near in omega (arith, ints)) (let f = lam-at n y near-down in let l = line-down in omega (arith, ints)) in
            let f = lam-at n y D.at_place in
            omega (arith, ints)

        some-q : IsDirection (toward y D.at_place)
        some-q z = let e = lam-zero n y D.at_place z in let l = aside-q in omega (arith, ints)

        to-q' : SameDirection (toward y (ahead t y (toward y D.at_place))) (toward y D.at_place)
        to-q' = ahead-toward t y (toward y D.at_place) some-q

        close : Within (reach_all (carriers t) y) y (ahead t y (toward y D.at_place))
        close = ahead-close t y (toward y D.at_place)

        on-q : form_at h D.at_place ≡ pos 0
        on-q = plane-between h near-b D.at_place near-down D.between on-near on-down

        on-q' : form_at h (ahead t y (toward y D.at_place)) ≡ pos 0
        on-q' = plane-ahead h y (ahead t y (toward y D.at_place)) (toward y D.at_place) to-q' (plane-way h y D.at_place on-y on-q) on-y

        one : FlatDim t (ahead t y (toward y D.at_place)) 1
        one = by D.drops
          where
            way : Flat t (ahead t y (toward y D.at_place)) (toward y (ahead t y (toward y D.at_place)))
            way = Flat-from_cone t (ahead t y (toward y D.at_place)) (toward y (ahead t y (toward y D.at_place))) (flat-toward t y (ahead t y (toward y D.at_place)) close)

            at-dim : (j : ℕ) → j < 2 → FlatDim t (ahead t y (toward y D.at_place)) j → FlatDim t (ahead t y (toward y D.at_place)) 1
            at-dim zero l f = absurd (f.1 (toward y (ahead t y (toward y D.at_place)), direction-left (toward y (ahead t y (toward y D.at_place))) (toward y D.at_place) to-q', way))
            at-dim (suc zero) l f = f
            at-dim (suc (suc j)) l f = absurd (omega arith)

            by : IsFlatBelow t 2 D.at_place → FlatDim t (ahead t y (toward y D.at_place)) 1
            by (j, l, f) = at-dim j l (off-dim t y D.at_place j (off-between t y near-b D.at_place near-down off-near off-down D.between) f)

        aside-q' : pos 0 <ℤ lam n y (ahead t y (toward y D.at_place))
        aside-q' = same-plus (lam n y D.at_place) (lam n y (ahead t y (toward y D.at_place))) (turn-last n up (toward y D.at_place) (toward y (ahead t y (toward y D.at_place))) (SameDirection-turned (toward y (ahead t y (toward y D.at_place))) (toward y D.at_place) to-q')) aside-q

        R : Run t h hn level y b (toward y (ahead t y (toward y D.at_place)))
        R = run-near t h hn level y b on-y on-b side clear (ahead t y (toward y D.at_place)) on-q' close one aside-q'

        way-R : SameDirection (toward y R.place) (toward y D.at_place)
        way-R = SameDirection-trans (toward y R.place) (toward y (ahead t y (toward y D.at_place))) (toward y D.at_place) R.dir to-q'

        -- it lies to the left of the way to b
        turn-q : pos 0 <ℤ angle n y b D.at_place
        turn-q =
            let a = turn-at n y b near-b in
            let z : angle n y b near-b ≡ pos 0 = subst (λ (v : Vector). triple n (toward y b) v ≡ pos 0) (sym way-near) (triple-own (toward y b)) in
            let c = turn-at n y b near-down in
            let d = same-plus (lam n y b) (angle n y b near-down) (down-turn n (toward y b) (toward y near-down) to-down) side in
            let k = between-plus (turn_form n y b) near-down D.at_place near-b (between-turned near-b near-down D.at_place D.between) (omega (arith, ints)) (omega (arith, ints)) in
            let e = turn-at n y b D.at_place in
            omega (arith, ints)
          where
            triple-own : (v : Vector) → triple n v v ≡ pos 0
            triple-own v = let e = triple-turned n v v in omega (arith, ints)

        turn-R : pos 0 <ℤ angle n y b R.place
        turn-R = same-plus (angle n y b D.at_place) (angle n y b R.place) (turn-last n (toward y b) (toward y D.at_place) (toward y R.place) (SameDirection-turned (toward y R.place) (toward y D.at_place) way-R)) turn-q

        under : SameDirection (toward b R.place) (opposite up)
        under = below-by y b R.place on-y on-b R.on side R.line turn-R

        wedge-q : Wedge t 2 y (toward y b) (toward y D.at_place)
        wedge-q = subst (λ (v : Vector). Wedge t 2 y v (toward y D.at_place)) way-near
            (wedge-of t 2 y near-b D.at_place off-near (off-between t y near-b D.at_place near-down off-near off-down D.between) (between-start near-b D.at_place near-down D.between) D.even_before)

        wedge-R : Wedge t 2 y (toward y b) (toward y R.place)
        wedge-R = wedge-way t 2 y (toward y b) (toward y b) (toward y D.at_place) (toward y R.place) (dir-self (toward y b) to-b-some) (SameDirection-turned (toward y R.place) (toward y D.at_place) way-R)
            (λ i j si sj. blend-rises (cross n up) (toward y b) (toward y R.place) i j si (subst (λ (v : ℤ). pos 0 <ℤ v) (triple-dot n up (toward y b)) side)
            (let e = triple-dot n up (toward y R.place) in let l = slope-to n y b R.place side R.line in omega (arith, ints))) wedge-q

        turned-run : Run t h hn level y b (toward y D.at_place)
        turned-run = record { place = R.place; on = R.on; line = R.line; dir = way-R; before = R.before; here = R.here }

        land : Landing y b on-y on-b side clear (λ r m. first r (between-turned b y r m)) F (toward y D.at_place)
        land = land-vertex y b on-y on-b side clear (λ r m. first r (between-turned b y r m)) F (toward y D.at_place) turned-run under wedge-R

    pub search : ((r : SpacePoint) → IsBetween near-b r near-down → FlatDim t r 2) ⊎ Blocked
    search = ⊎_elim (λ all. inl all) (λ D. inr (blocked D)) (even-until t 2 near-b near-down two-near ((flat-near.1 (toward near-b near-down)).1 (plane-way h near-b near-down on-near on-down)))
