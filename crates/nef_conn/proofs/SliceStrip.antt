-- Triangles that lie between two lines along up, beside which no vertex lies: what falls from the one side comes down to what leaves the other.
use Rattle.nef_conn.proofs.Prelude.{◌≡◌, ℕ, ◌+◌, ℤ, pos, ◌+ℤ◌, ◌-ℤ◌, ◌*ℤ◌, ◌<ℤ◌, ◌≤ℤ◌, neg_ℤ, arith, ap, sym, ◌∙◌, ◌⊎◌, inl, inr, ⊎_elim, ◌∷◌, List, refl, [], ints, sign, Lies, ring, at, num, neg, ◌⊕◌, ◌⊖◌, ◌⊗◌, Poly, by_order, mul_pos, mul_nonneg, cancel_lt, plus-is, minus-is, nought-is, sign-plus, sign-minus, plus-of, FlatDim, IsVertex, SpacePoint, Form, form_at, normal_of, slope, plane_through, SamePoint, toward, IsBetween, Within, Set, Vector, opposite, cross, triple, IsDirection, SameDirection, up, FlatDim-one, same-nought, between-way, turn-last, turns, same-plus, same-minus, IsFlatIn, through-at, angle, turn-at, angle-turned, angle-inside, between-plus, IsInTriangle, LiesAlong, vector-same, triple-dot, triple-turned, SameDirection-turned, SameDirection-trans, apart, right-turn, each, lies-each, keeps-all, signs-same, all-vertices, reach_all, nonneg-of}
use Rattle.nef_conn.proofs.Triangles.{on-second, at-corner, never-passes, third-side}
use Rattle.law_geometry.proofs.complex.FacetAngles.{way_entry}
use Rattle.law_geometry.proofs.near.Meets.{triple-same}
use Rattle.law_geometry.proofs.near.Same.{dim-same}

-- ---- signs of products
-- a = b c - d e, with a = t u, t > 0, b, d > 0, c >= 0, e <= 0
sum-nonneg : (t u b c d e : ℤ) → u *ℤ t ≡ b *ℤ c -ℤ d *ℤ e → pos 0 <ℤ t → pos 0 <ℤ b → pos 0 <ℤ d → pos 0 ≤ℤ c → e ≤ℤ pos 0 → pos 0 ≤ℤ u
sum-nonneg t u b c d e q ht hb hd hc he =
    let x = mul_nonneg b c (omega (arith, ints)) hc in
    let y = mul_nonneg d (pos 0 -ℤ e) (omega (arith, ints)) (omega (arith, ints)) in
    let z = ring (d ∷ e ∷ []) (at 0 ⊗ (num (pos 0) ⊖ at 1)) (num (pos 0) ⊖ at 0 ⊗ at 1) tt in
    let w = ring (t ∷ u ∷ []) (at 0 ⊗ at 1) (at 1 ⊗ at 0) tt in
    nonneg-of t u ht (omega (arith, ints))

-- where that is nought, so are c and e
sum-zero : (t b c d e : ℤ) → pos 0 *ℤ t ≡ b *ℤ c -ℤ d *ℤ e → pos 0 <ℤ b → pos 0 <ℤ d → pos 0 ≤ℤ c → e ≤ℤ pos 0 → (c ≡ pos 0) × (e ≡ pos 0)
sum-zero t b c d e q hb hd hc he =
    let z = ring (d ∷ e ∷ []) (at 0 ⊗ (num (pos 0) ⊖ at 1)) (num (pos 0) ⊖ at 0 ⊗ at 1) tt in (
      by_order c (pos 0) (λ l. absurd (omega (arith, ints))) (λ k. k)
          (λ l. absurd (let x = mul_pos b c hb l in let y = mul_nonneg d (pos 0 -ℤ e) (omega (arith, ints)) (omega (arith, ints)) in omega (arith, ints))),
      by_order e (pos 0)
          (λ l. absurd (let x = mul_nonneg b c (omega (arith, ints)) hc in let y = mul_pos d (pos 0 -ℤ e) hd (omega (arith, ints)) in omega (arith, ints))) (λ k. k)
          (λ l. absurd (omega (arith, ints))),
    )

-- ---- about a line along up
-- [n, up, from p to q], where n stands at 0 and up at 3
abbrev up-p : ℕ → ℕ → Poly
up-p p q = at 0 ⊗ (at 4 ⊗ way_entry p q 2 ⊖ at 5 ⊗ way_entry p q 1) ⊕ at 1 ⊗ (at 5 ⊗ way_entry p q 0 ⊖ at 3 ⊗ way_entry p q 2) ⊕ at 2 ⊗ (at 3 ⊗ way_entry p q 1 ⊖ at 4 ⊗ way_entry p q 0)

-- positive where q lies to the one side of p's line
abbrev pub lam : Vector → SpacePoint → SpacePoint → ℤ
lam n p q = triple n up (toward p q)

abbrev pub up_line : Vector → SpacePoint → Form
up_line n p = plane_through (cross n up) p

pub lam-at : (n : Vector) (p q : SpacePoint) → form_at (up_line n p) q ≡ lam n p q
lam-at n p q = through-at (cross n up) p q ∙ sym (triple-dot n up (toward p q))

pub back-way : (p q : SpacePoint) → toward q p ≡ opposite (toward p q)
back-way p q = vector-same (toward q p) (opposite (toward p q)) (one p.x q.x) (one p.y q.y) (one p.z q.z)
  where
    one : (a b : ℤ) → a *ℤ pos q.w -ℤ b *ℤ pos p.w ≡ neg_ℤ (b *ℤ pos p.w -ℤ a *ℤ pos q.w)
    one a b = ring (a ∷ b ∷ pos p.w ∷ pos q.w ∷ []) (at 0 ⊗ at 3 ⊖ at 1 ⊗ at 2) (neg (at 1 ⊗ at 2 ⊖ at 0 ⊗ at 3)) tt

pub lam-turned : (n : Vector) (p q : SpacePoint) → lam n q p ≡ neg_ℤ (lam n p q)
lam-turned n p q = ap (λ (v : Vector). triple n up v) (back-way p q) ∙ right-turn n up (toward p q)

-- the differences add up
pub lam-sum : (n : Vector) (y b c : SpacePoint) → pos b.w *ℤ lam n y c ≡ pos c.w *ℤ lam n y b +ℤ pos y.w *ℤ lam n b c
lam-sum n y b c = ring (n.x ∷ n.y ∷ n.z ∷ up.x ∷ up.y ∷ up.z ∷ y.x ∷ y.y ∷ y.z ∷ pos y.w ∷ b.x ∷ b.y ∷ b.z ∷ pos b.w ∷ c.x ∷ c.y ∷ c.z ∷ pos c.w ∷ [])
    (at 13 ⊗ up-p 6 14) (at 17 ⊗ up-p 6 10 ⊕ at 9 ⊗ up-p 10 14) tt

-- the turn from v to a way down
pub down-turn : (n v d : Vector) → SameDirection d (opposite up) → sign (triple n v d) ≡ sign (triple n up v)
down-turn n v d w =
    let e = right-turn n v up in
    let f = triple-turned n up v in
    turn-last n v (opposite up) d (SameDirection-turned d (opposite up) w) ∙ ap sign (omega (arith, ints))

-- sums of differences
pub lam-plus : (n : Vector) (a b c : SpacePoint) → pos 0 ≤ℤ lam n a b → pos 0 <ℤ lam n b c → pos 0 <ℤ lam n a c
lam-plus n a b c l m = plain (lam n a c) (lam n a b) (lam n b c) (lam-sum n a b c) l m
  where
    plain : (g d e : ℤ) → pos b.w *ℤ g ≡ pos c.w *ℤ d +ℤ pos a.w *ℤ e → pos 0 ≤ℤ d → pos 0 <ℤ e → pos 0 <ℤ g
    plain g d e q l m =
        let u = mul_nonneg (pos c.w) d (let k = c.proper in omega (arith, ints)) l in
        let v = mul_pos (pos a.w) e (let k = a.proper in omega (arith, ints)) m in
        plus-of (pos b.w) g (let j = b.proper in omega (arith, ints)) (omega (arith, ints))

-- to a point of the line of b, from y before it
pub slope-to : (n : Vector) (y b c : SpacePoint) → pos 0 <ℤ lam n y b → lam n b c ≡ pos 0 → pos 0 <ℤ lam n y c
slope-to n y b c l e = plain (lam n y b) (lam n b c) (lam n y c) (lam-sum n y b c) l e
  where
    plain : (a d g : ℤ) → pos b.w *ℤ g ≡ pos c.w *ℤ a +ℤ pos y.w *ℤ d → pos 0 <ℤ a → d ≡ pos 0 → pos 0 <ℤ g
    plain a d g q l e =
        let p = mul_pos (pos c.w) a (let k = c.proper in omega (arith, ints)) l in
        let o = ap (λ r. pos y.w *ℤ r) e in
        plus-of (pos b.w) g (let i = b.proper in omega (arith, ints)) (omega (arith, ints))

-- the same with the opposite numbers
products : (u v t c ry y rc : ℤ) → u ≡ neg_ℤ v → v *ℤ t ≡ c *ℤ ry -ℤ y *ℤ rc → u *ℤ t ≡ neg_ℤ c *ℤ ry -ℤ neg_ℤ y *ℤ rc
products u v t c ry y rc e f = ap (λ r. r *ℤ t) e ∙ ring (v ∷ t ∷ []) (neg (at 0) ⊗ at 1) (neg (at 0 ⊗ at 1)) tt ∙ ap neg_ℤ f
    ∙ ring (c ∷ ry ∷ y ∷ rc ∷ []) (neg (at 0 ⊗ at 1 ⊖ at 2 ⊗ at 3)) (neg (at 0) ⊗ at 1 ⊖ neg (at 2) ⊗ at 3) tt

-- from the angle at one corner to that at the next, where it may be nought

module _ (n : Vector) (y z w : SpacePoint) where
  pub inside-level : pos 0 ≤ℤ angle n y z w → pos 0 ≤ℤ angle n z w y
  inside-level h = by_order (angle n z w y) (pos 0)
      (λ l. absurd (
      let a = angle-turned n z w y in
      let b = angle-inside n z y w (omega (arith, ints)) in
      let c = angle-turned n y w z in
      omega (arith, ints)))
      (λ e. omega (arith, ints)) (λ l. omega (arith, ints))

module _ (t : Set) (h : Form) (hn : IsDirection (normal_of h)) (level : slope h up ≡ pos 0) where
  abbrev n : Vector
  n = normal_of h

  -- no vertex of the plane lies between the lines of y and z, or on that of z
  abbrev pub Clear : SpacePoint → SpacePoint → Type 0
  Clear y z = (r : SpacePoint) → IsVertex t r → form_at h r ≡ pos 0 → pos 0 <ℤ lam n y r → pos 0 ≤ℤ lam n r z → ⊥

  -- the lines along up of all vertices: none lies between p and what is close to it
  abbrev pub lines : List Form
  lines = each (λ q. up_line n q) (all-vertices t).0

  pub clear-close : (p b : SpacePoint) → Within (reach_all lines p) p b → Clear p b
  clear-close p b near r vertex on l i = by ((all-vertices t).2 r vertex)
    where
      by : (z : SpacePoint) × Lies (all-vertices t).0 z × SamePoint z r → ⊥
      by (z, lies, same) =
          let g = lam-at n p r in
          let g' = lam-at n p z in
          let k = plus-is (form_at (up_line n p) z) (signs-same (up_line n p ∷ []) z r same (up_line n p) (inl refl) ∙ sign-plus (form_at (up_line n p) r) (omega (arith, ints))) in
          let t1 = lam-turned n p z in
          let c = lam-at n z p in
          let low : form_at (up_line n z) p <ℤ pos 0 = omega (arith, ints) in
          let f = keeps-all lines p b near (up_line n z) (lies-each (λ q. up_line n q) (all-vertices t).0 z lies) (λ o. let o' = nought-is (form_at (up_line n z) p) o in omega (arith, ints)) in
          let j = minus-is (form_at (up_line n z) b) (f ∙ sign-minus (form_at (up_line n z) p) low) in
          let c' = lam-at n z b in
          let t2 = lam-turned n z b in
          let k1 = lam-at n b z in
          let k2 = lam-at n b r in
          let p2 = plus-is (form_at (up_line n b) r) (sym (signs-same (up_line n b ∷ []) z r same (up_line n b) (inl refl)) ∙ sign-plus (form_at (up_line n b) z) (omega (arith, ints))) in
          let t3 = lam-turned n b r in
          omega (arith, ints)

  -- ---- a triangle with one side on the line of its start
  module _ (y b c : SpacePoint) (on-y : form_at h y ≡ pos 0) (on-b : form_at h b ≡ pos 0) (on-c : form_at h c ≡ pos 0) (down : SameDirection (toward y c) (opposite up)) (side : pos 0 <ℤ lam n y b) (clear : Clear y b)
      (first : (r : SpacePoint) → IsBetween y r b → FlatDim t r 2) (second : LiesAlong t y c) (F : IsFlatIn t h b)
      (corner : (x : SpacePoint) → IsBetween b x c → ((r : SpacePoint) → IsBetween x r y → FlatDim t r 1) → ⊥) where
    turn : pos 0 <ℤ angle n y b c
    turn = same-plus (lam n y b) (angle n y b c) (down-turn n (toward y b) (toward y c) down) side

    level-c : lam n y c ≡ pos 0
    level-c = nought-from (down-turn n up (toward y c) down)
      where
        nought-from : sign (triple n up (toward y c)) ≡ sign (triple n up up) → lam n y c ≡ pos 0
        nought-from e = same-nought (triple n up up) (lam n y c) e (let f = triple-turned n up up in omega (arith, ints))

    none : (r : SpacePoint) → IsVertex t r → form_at h r ≡ pos 0 → IsInTriangle n y b c r → (SamePoint y r → ⊥) → ⊥
    none r vertex on (p, q, g) apart = by_order (lam n y r) (pos 0) (λ l. before l) (λ e. at-line e g) (λ l. clear r vertex on l (not-past g))
      where
        turned : sign (triple n (toward y r) (toward y c)) ≡ sign (lam n y r)
        turned = down-turn n (toward y r) (toward y c) down

        before : lam n y r <ℤ pos 0 → ⊥
        before l = let m = same-minus (lam n y r) (triple n (toward y r) (toward y c)) turned l in let e = triple-turned n (toward y r) (toward y c) in omega (arith, ints)

        at-line : lam n y r ≡ pos 0 → (pos 0 <ℤ triple n (toward b c) (toward b r)) ⊎ IsBetween b r c → ⊥
        at-line e (inr d) =
            let x = between-plus (up_line n y) b r c d (let f = lam-at n y b in let l = side in omega (arith, ints)) (let f = lam-at n y c in let l = level-c in omega (arith, ints)) in
            let f = lam-at n y r in omega (arith, ints)
        at-line e (inl d) =
            let z = same-nought (lam n y r) (triple n (toward y r) (toward y c)) turned e in
            let f = triple-turned n (toward y c) (toward y r) in
            let R = turn-at n y c r in
            let P = turn-at n y b r in
            by_order (angle n y b r) (pos 0) (λ l. omega (arith, ints))
            (λ k. apart (at-corner t h hn y b c on-y on-b on-c turn r on (P ∙ k) (omega (arith, ints))))
            (λ l. let D = on-second t h hn y b c on-y on-b on-c turn r on (omega (arith, ints)) (omega (arith, ints)) (let G = turn-at n b c r in omega (arith, ints)) in ⊎_elim (λ w. let j = FlatDim-one t r 0 2 vertex (w r D) in cc) (λ w. let j = FlatDim-one t r 0 1 vertex (w r D) in cc) second)

        -- not past the line of b
        not-past : (pos 0 <ℤ triple n (toward b c) (toward b r)) ⊎ IsBetween b r c → pos 0 ≤ℤ lam n r b
        not-past g =
            let U = turns n up (toward b r) (toward b c) (toward b y) in
            let T = angle-inside n y b c turn in
            -- [b c, b y] > 0
            let a = lam-turned n y b in
            let l = side in
            let k = lam-turned n b r in
            let lc : lam n b c <ℤ pos 0 = beyond in
            let rc : triple n (toward b r) (toward b c) ≤ℤ pos 0 = (let f = triple-turned n (toward b r) (toward b c) in let m = left g in omega (arith, ints)) in
            let ry : pos 0 ≤ℤ triple n (toward b r) (toward b y) = inside-level n y b r p in
            sum-nonneg (triple n (toward b c) (toward b y)) (lam n r b) (neg_ℤ (lam n b c)) (triple n (toward b r) (toward b y)) (neg_ℤ (lam n b y)) (triple n (toward b r) (toward b c))
            (products (lam n r b) (lam n b r) (triple n (toward b c) (toward b y)) (lam n b c) (triple n (toward b r) (toward b y)) (lam n b y) (triple n (toward b r) (toward b c)) k U) T (omega (arith, ints)) (omega (arith, ints)) ry rc
          where
            left : (pos 0 <ℤ triple n (toward b c) (toward b r)) ⊎ IsBetween b r c → pos 0 ≤ℤ triple n (toward b c) (toward b r)
            left (inl d) = omega (arith, ints)
            left (inr d) = let e = turn-last n (toward b c) (toward b r) (toward b c) (between-way b r c d) in let f = triple-same n (toward b c) in let z = same-nought (triple n (toward b c) (toward b c)) (triple n (toward b c) (toward b r)) (sym e) f in omega (arith, ints)

            before-start : (yc bc : ℤ) → pos b.w *ℤ yc ≡ pos c.w *ℤ lam n y b +ℤ pos y.w *ℤ bc → yc ≡ pos 0 → bc <ℤ pos 0
            before-start yc bc q e =
                let p = mul_pos (pos c.w) (lam n y b) (let k = c.proper in omega (arith, ints)) side in
                let o = ap (λ r. pos b.w *ℤ r) e in
                let m = ring (bc ∷ pos y.w ∷ []) (at 1 ⊗ (num (pos 0) ⊖ at 0)) (num (pos 0) ⊖ at 1 ⊗ at 0) tt in
                let i = ring (bc ∷ pos y.w ∷ []) ((num (pos 0) ⊖ at 0) ⊗ at 1) (at 1 ⊗ (num (pos 0) ⊖ at 0)) tt in
                let f = cancel_lt (pos 0) (pos 0 -ℤ bc) (pos y.w) (let j = y.proper in omega (arith, ints)) (omega (arith, ints)) in
                omega (arith, ints)

            beyond : lam n b c <ℤ pos 0
            beyond = before-start (lam n y c) (lam n b c) (lam-sum n y b c) level-c

    pub along-start : (r : SpacePoint) → IsBetween b r c → FlatDim t r 2
    along-start = third-side t h hn y b c on-y on-b on-c turn first second F (never-passes t y b c corner) none

  -- ---- a triangle with one side on the line of its end
  module _ (y b c : SpacePoint) (on-y : form_at h y ≡ pos 0) (on-b : form_at h b ≡ pos 0) (on-c : form_at h c ≡ pos 0) (down : SameDirection (toward b c) (opposite up)) (side : pos 0 <ℤ lam n y b) (clear : Clear y b)
      (first : (r : SpacePoint) → IsBetween y r b → FlatDim t r 2) (second : LiesAlong t y c) (F : IsFlatIn t h b)
      (corner : (x : SpacePoint) → IsBetween b x c → ((r : SpacePoint) → IsBetween x r y → FlatDim t r 1) → ⊥) where
    at-b : pos 0 <ℤ angle n b c y
    at-b =
        let e = lam-turned n y b in
        let l = side in
        let m = same-minus (lam n b y) (triple n (toward b y) (toward b c)) (down-turn n (toward b y) (toward b c) down) (omega (arith, ints)) in
        let f = triple-turned n (toward b c) (toward b y) in
        omega (arith, ints)

    pub end-turn : pos 0 <ℤ angle n y b c
    end-turn = angle-inside n c y b (angle-inside n b c y at-b)

    same-line : lam n b c ≡ pos 0
    same-line = same-nought (triple n up up) (lam n b c) (down-turn n up (toward b c) down) (let f = triple-turned n up up in omega (arith, ints))

    beyond-c : pos 0 <ℤ lam n y c
    beyond-c = slope-to n y b c side same-line

    none-end : (r : SpacePoint) → IsVertex t r → form_at h r ≡ pos 0 → IsInTriangle n y b c r → (SamePoint y r → ⊥) → ⊥
    none-end r vertex on (p, q, g) apart = by_order (lam n y r) (pos 0) (λ l. absurd (let k = at-least in omega (arith, ints))) (λ e. at-line e) (λ l. clear r vertex on l (not-past g))
      where
        U : lam n y r *ℤ triple n (toward y b) (toward y c) ≡ lam n y b *ℤ triple n (toward y r) (toward y c) -ℤ lam n y c *ℤ triple n (toward y r) (toward y b)
        U = turns n up (toward y r) (toward y b) (toward y c)

        rc : pos 0 ≤ℤ triple n (toward y r) (toward y c)
        rc = let f = triple-turned n (toward y r) (toward y c) in omega (arith, ints)

        rb : triple n (toward y r) (toward y b) ≤ℤ pos 0
        rb = let f = triple-turned n (toward y r) (toward y b) in omega (arith, ints)

        at-least : pos 0 ≤ℤ lam n y r
        at-least = sum-nonneg (triple n (toward y b) (toward y c)) (lam n y r) (lam n y b) (triple n (toward y r) (toward y c)) (lam n y c) (triple n (toward y r) (toward y b)) U end-turn side beyond-c rc rb

        at-line : lam n y r ≡ pos 0 → ⊥
        at-line e =
            let z = sum-zero (triple n (toward y b) (toward y c)) (lam n y b) (triple n (toward y r) (toward y c)) (lam n y c) (triple n (toward y r) (toward y b)) (ap (λ r. r *ℤ triple n (toward y b) (toward y c)) (sym e) ∙ U) side beyond-c rc rb in
            let f = triple-turned n (toward y r) (toward y c) in
            let k = triple-turned n (toward y r) (toward y b) in
            let z0 = z.0 in
            let z1 = z.1 in
            let P = turn-at n y b r in
            let R = turn-at n y c r in
            apart (at-corner t h hn y b c on-y on-b on-c end-turn r on (omega (arith, ints)) (omega (arith, ints)))

        not-past : (pos 0 <ℤ triple n (toward b c) (toward b r)) ⊎ IsBetween b r c → pos 0 ≤ℤ lam n r b
        not-past (inl d) =
            let e = down-turn n (toward b r) (toward b c) down in
            let f = triple-turned n (toward b c) (toward b r) in
            let k = lam-turned n b r in
            let m = same-minus (triple n (toward b r) (toward b c)) (lam n b r) (sym e) (omega (arith, ints)) in
            omega (arith, ints)
        not-past (inr d) =
            let w = SameDirection-trans (toward b r) (toward b c) (opposite up) (between-way b r c d) down in
            let e = same-nought (triple n up up) (lam n b r) (down-turn n up (toward b r) w) (let f = triple-turned n up up in omega (arith, ints)) in
            let k = lam-turned n b r in
            omega (arith, ints)

    pub along-end : (r : SpacePoint) → IsBetween b r c → FlatDim t r 2
    along-end = third-side t h hn y b c on-y on-b on-c end-turn first second F (never-passes t y b c corner) none-end

  -- ---- a triangle with its start at b, and one point on the line of y
  module _ (b q y : SpacePoint) (on-b : form_at h b ≡ pos 0) (on-q : form_at h q ≡ pos 0) (on-y : form_at h y ≡ pos 0) (tri-turn : pos 0 <ℤ angle n b q y) (side-b : pos 0 <ℤ lam n y b) (side-q : pos 0 <ℤ lam n y q) (before-b : pos 0 <ℤ lam n q b) (clear : Clear y b)
      (first : (r : SpacePoint) → IsBetween b r q → FlatDim t r 2) (second : (r : SpacePoint) → IsBetween b r y → FlatDim t r 2) (F : IsFlatIn t h q) (two : FlatDim t y 2)
      (corner : (x : SpacePoint) → IsBetween q x y → ((r : SpacePoint) → IsBetween x r b → FlatDim t r 1) → ⊥) where
    none-back : (r : SpacePoint) → IsVertex t r → form_at h r ≡ pos 0 → IsInTriangle n b q y r → (SamePoint b r → ⊥) → ⊥
    none-back r vertex on (p, w, g) apart = by_order (lam n y r) (pos 0) (λ l. absurd (let k = at-least in omega (arith, ints))) (λ e. at-line e) (λ l. clear r vertex on l not-past)
      where
        T : pos 0 <ℤ angle n y b q
        T = angle-inside n q y b (angle-inside n b q y tri-turn)

        right : (pos 0 <ℤ triple n (toward q y) (toward q r)) ⊎ IsBetween q r y → pos 0 ≤ℤ angle n q y r
        right (inl d) = omega (arith, ints)
        right (inr d) = let e = turn-last n (toward q y) (toward q r) (toward q y) (between-way q r y d) in let f = triple-same n (toward q y) in let z = same-nought (triple n (toward q y) (toward q y)) (triple n (toward q y) (toward q r)) (sym e) f in omega (arith, ints)

        rq : pos 0 ≤ℤ triple n (toward y r) (toward y q)
        rq = inside-level n q y r (right g)

        rb : triple n (toward y r) (toward y b) ≤ℤ pos 0
        rb =
            let e = angle-turned n b y r in
            let f = inside-level n r y b (inside-level n b r y (omega (arith, ints))) in
            let k = angle-turned n y b r in
            omega (arith, ints)

        U : lam n y r *ℤ triple n (toward y b) (toward y q) ≡ lam n y b *ℤ triple n (toward y r) (toward y q) -ℤ lam n y q *ℤ triple n (toward y r) (toward y b)
        U = turns n up (toward y r) (toward y b) (toward y q)

        at-least : pos 0 ≤ℤ lam n y r
        at-least = sum-nonneg (triple n (toward y b) (toward y q)) (lam n y r) (lam n y b) (triple n (toward y r) (toward y q)) (lam n y q) (triple n (toward y r) (toward y b)) U T side-b side-q rq rb

        at-line : lam n y r ≡ pos 0 → ⊥
        at-line e =
            let z = sum-zero (triple n (toward y b) (toward y q)) (lam n y b) (triple n (toward y r) (toward y q)) (lam n y q) (triple n (toward y r) (toward y b)) (ap (λ r. r *ℤ triple n (toward y b) (toward y q)) (sym e) ∙ U) side-b side-q rq rb in
            let z0 = z.0 in
            let z1 = z.1 in
            let f = triple-turned n (toward y r) (toward y q) in
            let k = triple-turned n (toward y r) (toward y b) in
            let P = turn-at n y b r in
            let R = turn-at n y q r in
            let o = at-corner t h hn y b q on-y on-b on-q T r on (omega (arith, ints)) (omega (arith, ints)) in
            let j = FlatDim-one t r 0 2 vertex (dim-same t y r 2 o two) in cc

        not-past : pos 0 ≤ℤ lam n r b
        not-past =
            let V = turns n up (toward b r) (toward b q) (toward b y) in
            let k = lam-turned n b r in
            let i = lam-turned n q b in
            let j = lam-turned n y b in
            let ry : pos 0 ≤ℤ triple n (toward b r) (toward b y) = (let f = triple-turned n (toward b r) (toward b y) in omega (arith, ints)) in
            let rq' : triple n (toward b r) (toward b q) ≤ℤ pos 0 = (let f = triple-turned n (toward b r) (toward b q) in omega (arith, ints)) in
            sum-nonneg (triple n (toward b q) (toward b y)) (lam n r b) (neg_ℤ (lam n b q)) (triple n (toward b r) (toward b y)) (neg_ℤ (lam n b y)) (triple n (toward b r) (toward b q))
            (products (lam n r b) (lam n b r) (triple n (toward b q) (toward b y)) (lam n b q) (triple n (toward b r) (toward b y)) (lam n b y) (triple n (toward b r) (toward b q)) k V) tri-turn (omega (arith, ints)) (omega (arith, ints)) ry rq'

    pub along-back : (r : SpacePoint) → IsBetween q r y → FlatDim t r 2
    along-back = third-side t h hn b q y on-b on-q on-y tri-turn first (inl second) F (never-passes t b q y corner) none-back
