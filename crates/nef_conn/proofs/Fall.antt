-- In a plane that holds up: an edge that leaves a point to the side of b, beside no vertex, runs under b or over it; where the points between are free it runs under b, and what falls from b comes down to it.
use Rattle.nef_conn.proofs.Prelude.{◌≡◌, ℕ, ℤ, pos, ◌+ℤ◌, ◌-ℤ◌, ◌*ℤ◌, ◌<ℤ◌, ◌≤ℤ◌, arith, ap, sym, ◌∙◌, ◌⊎◌, inl, inr, ⊎_elim, ◌∷◌, subst, [], ints, ring, at, num, ◌⊕◌, ◌⊖◌, ◌⊗◌, by_order, given, none, follows, ahead-back, Flat, FlatDim, IsVertex, SpacePoint, Form, form_at, normal_of, slope, SamePoint, Within, toward, IsBetween, Set, Vector, blend, opposite, cross, triple, IsZero, IsDirection, SameDirection, up, carriers, EdgeAround, FlatDim-one, between-turned, between-inner, mixed-of, ray-cell, ahead, start-close, start-toward, edge-around, flat-nearby, flat-toward, Flat-from_cone, FlatCone-from_flat, same-point_sym, flat_dim-nearby, reach_all, toward-point, point-toward, factor-same, same-nought, Beside, same_way, other_way, beside, turn-last, same-plus, IsFlatIn, near_point, near-between, between-level, HalfEdge, plane-between, below-or, plane-onward, plane-way, between-way, between-cases, ahead-way, dim-cell, zero-decided, dot-zero, triple-turned, SameDirection-turned, SameDirection-trans, opposite-turned, parallel-in_plane, level-way, opposite-way, cross-none, direction-left, direction-right}
use Rattle.nef_conn.proofs.Fans.{off-close, off-dim}
use Rattle.nef_conn.proofs.Near.{Wedge}
use Rattle.nef_conn.proofs.Triangles.{cut-up, half-to, around-halves, across-way, ends-level}
use Rattle.nef_conn.proofs.SliceStrip.{lam, up_line, lam-at, lam-turned, lam-sum, down-turn, Clear}
use Rattle.nef_space.proofs.Elementary.{positive-factor, same-itself}
use Rattle.law_geometry.proofs.near.Same.{dim-same}

-- ---- where an edge comes to a corner of a triangle
module _ (t : Set) (a x : SpacePoint) (apart : SamePoint a x → ⊥) (edge : (r : SpacePoint) → IsBetween x r a → FlatDim t r 1) where
  some : IsDirection (toward a x)
  some z = apart (toward-point a x z)

  abbrev q : SpacePoint
  q = near_point t a x

  one : FlatDim t q 1
  one = edge q (between-turned a x q (near-between t a x some))

  -- it doesn't come to a point of a facet
  pub corner-two : FlatDim t a 2 → ⊥
  corner-two two = let l = flat_dim-nearby t a q (start-close (reach_all (carriers t) a) a x) 1 2 two one in absurd (omega arith)

  -- nor from where all directions are within a facet
  pub corner-wedge : (b c : SpacePoint) → IsBetween b x c → Wedge t 2 a (toward a b) (toward a c) → ⊥
  corner-wedge b c m all =
      let u = mixed-of b x c m in
      let there = subst (λ (v : Vector). FlatDim t (ahead t a v) 1) (start-toward (reach_all (carriers t) a) a x) (off-dim t a q 1 (off-close t a q (start-close (reach_all (carriers t) a) a x)) one) in
      let way = factor-same (toward a x) (blend u.i (toward a b) u.j (toward a c)) (record {
        k = u.k;
        l = 1;
        some_k = u.some_k;
        some_l = omega arith;
        is_x = each u.k u.i u.j a.w x.w b.w c.w a.x x.x b.x c.x u.sum.is_x u.sum.is_w;
        is_y = each u.k u.i u.j a.w x.w b.w c.w a.y x.y b.y c.y u.sum.is_y u.sum.is_w;
        is_z = each u.k u.i u.j a.w x.w b.w c.w a.z x.z b.z c.z u.sum.is_z u.sum.is_w;
        is_w = ring (pos u.k ∷ []) (at 0 ⊗ num (pos 0)) (num (pos 1) ⊗ num (pos 0)) tt;
      }) some in
      let e = FlatDim-one t (ahead t a (blend u.i (toward a b) u.j (toward a c))) 1 2
      (dim-cell t (ahead t a (toward a x)) (ahead t a (blend u.i (toward a b) u.j (toward a c))) 1 (ahead-way t a (toward a x) (blend u.i (toward a b) u.j (toward a c)) way) there) (all u.i u.j u.some_i u.some_j) in
      cc
    where
      each : (k i j aw xw bw cw : ℕ) (a x b c : ℤ) → pos k *ℤ x ≡ pos i *ℤ b +ℤ pos j *ℤ c → pos k *ℤ pos xw ≡ pos i *ℤ pos bw +ℤ pos j *ℤ pos cw
          → pos k *ℤ (x *ℤ pos aw -ℤ a *ℤ pos xw) ≡ pos 1 *ℤ (pos i *ℤ (b *ℤ pos aw -ℤ a *ℤ pos bw) +ℤ pos j *ℤ (c *ℤ pos aw -ℤ a *ℤ pos cw))
      each k i j aw xw bw cw a x b c e w = follows (pos k ∷ pos i ∷ pos j ∷ pos aw ∷ pos xw ∷ pos bw ∷ pos cw ∷ a ∷ x ∷ b ∷ c ∷ [])
          (at 0 ⊗ (at 8 ⊗ at 3 ⊖ at 7 ⊗ at 4)) (num (pos 1) ⊗ (at 1 ⊗ (at 9 ⊗ at 3 ⊖ at 7 ⊗ at 5) ⊕ at 2 ⊗ (at 10 ⊗ at 3 ⊖ at 7 ⊗ at 6)))
          (given (at 3) (at 0 ⊗ at 8) (at 1 ⊗ at 9 ⊕ at 2 ⊗ at 10) e (given (num (pos 0) ⊖ at 7) (at 0 ⊗ at 4) (at 1 ⊗ at 5 ⊕ at 2 ⊗ at 6) w none)) tt

  -- nor across an edge from it
  pub corner-edge : (c : SpacePoint) → FlatDim t a 1 → IsDirection (toward a c) → ((r : SpacePoint) → IsBetween a r c → FlatDim t r 1) → IsZero (cross (toward a c) (toward a x))
  corner-edge c dim i all =
      let close = start-close (reach_all (carriers t) a) a x in
      let K = half-to t a c i dim all in
      let one-way = Flat-from_cone t q (toward a c) (flat-nearby t a q close (toward a c) (FlatCone-from_flat t a (toward a c) K.flat)) in
      let other = Flat-from_cone t q (toward a q) (flat-toward t a q close) in
      let z = ⊎_elim (λ z. z) (λ n. absurd (one.1 (toward a c, toward a q, n, one-way, other))) (zero-decided (cross (toward a c) (toward a q))) in
      subst (λ (v : Vector). IsZero (cross (toward a c) v)) (start-toward (reach_all (carriers t) a) a x) z

pub lam-zero : (n : Vector) (p q : SpacePoint) → IsZero (toward p q) → lam n p q ≡ pos 0
lam-zero n p q z = dot-zero n (cross up (toward p q)) (cross-none up (toward p q) z)

pub lam-self : (n : Vector) (p : SpacePoint) → lam n p p ≡ pos 0
lam-self n p = lam-zero n p p (point-toward p p (same-itself p))

-- points on one line along up
pub lam-chain : (n : Vector) (y b c : SpacePoint) → lam n y b ≡ pos 0 → lam n b c ≡ pos 0 → lam n y c ≡ pos 0
lam-chain n y b c e f = plain (lam n y c) (lam n y b) (lam n b c) (lam-sum n y b c) e f
  where
    plain : (g a d : ℤ) → pos b.w *ℤ g ≡ pos c.w *ℤ a +ℤ pos y.w *ℤ d → a ≡ pos 0 → d ≡ pos 0 → g ≡ pos 0
    plain g a d q e f = positive-factor (pos b.w) g (let k = b.proper in omega (arith, ints)) (q ∙ ap (λ r. pos c.w *ℤ r +ℤ pos y.w *ℤ d) e ∙ ap (λ r. pos c.w *ℤ pos 0 +ℤ pos y.w *ℤ r) f
        ∙ ring (pos c.w ∷ pos y.w ∷ []) (at 0 ⊗ num (pos 0) ⊕ at 1 ⊗ num (pos 0)) (num (pos 0)) tt)

-- what lies below lies on the line
pub lam-down : (n : Vector) (p q : SpacePoint) → SameDirection (toward p q) (opposite up) → lam n p q ≡ pos 0
lam-down n p q down = same-nought (triple n up up) (lam n p q) (down-turn n up (toward p q) down) (let f = triple-turned n up up in omega (arith, ints))

-- ---- edges that run past b's line
module _ (t : Set) (h : Form) (hn : IsDirection (normal_of h)) (level : slope h up ≡ pos 0) where
  abbrev n : Vector
  n = normal_of h

  -- an edge from y, to its point on the line of b
  pub record Run (y b : SpacePoint) (g : Vector) : Type 0 where
    pub place : SpacePoint
    pub on : form_at h place ≡ pos 0
    pub line : lam n b place ≡ pos 0
    pub dir : SameDirection (toward y place) g
    pub before : (r : SpacePoint) → IsBetween y r place → FlatDim t r 1
    pub here : FlatDim t place 1

  module _ (y b : SpacePoint) (on-y : form_at h y ≡ pos 0) (on-b : form_at h b ≡ pos 0) (side : pos 0 <ℤ lam n y b) (clear : Clear t h hn level y b) where
    -- what ends beyond y's line ends beyond b's
    run-to : (c : SpacePoint) → IsVertex t c → form_at h c ≡ pos 0 → IsDirection (toward y c) → pos 0 <ℤ lam n y c → ((r : SpacePoint) → IsBetween y r c → FlatDim t r 1) → Run y b (toward y c)
    run-to c vertex on i l all =
        let k = cut-up (up_line n b) y c i low high in
        record {
          place = k.place;
          on = plane-between h y k.place c k.between on-y on;
          line = sym (lam-at n b k.place) ∙ k.level;
          dir = between-way y k.place c k.between;
          before = λ r d. all r (between-inner y k.place c r k.between d);
          here = all k.place k.between;
        }
      where
        low : form_at (up_line n b) y <ℤ pos 0
        low = let e = lam-at n b y in let f = lam-turned n y b in let s = side in omega (arith, ints)

        past : (lam n c b <ℤ pos 0) ⊎ (pos 0 ≤ℤ lam n c b) → pos 0 <ℤ lam n b c
        past (inl m) = let f = lam-turned n c b in omega (arith, ints)
        past (inr m) = absurd (clear c vertex on l m)

        high : pos 0 <ℤ form_at (up_line n b) c
        high = let e = lam-at n b c in let m = past (below-or (lam n c b)) in omega (arith, ints)

    -- an edge through y, which what falls to y from above doesn't run along
    module _ (top : SpacePoint) (on-top : form_at h top ≡ pos 0) (down : SameDirection (toward top y) (opposite up)) (F : IsFlatIn t h top) (all : (r : SpacePoint) → IsBetween top r y → FlatDim t r 2) (one : FlatDim t y 1) where
      pub run-edge : (g : Vector) × Run y b g
      run-edge = by_order (lam n y E.source) (pos 0)
          (λ l. (toward y E.target, run-to E.target E.target_is_vertex ends.1 halves.1.leads (higher l) (λ r d. halves.1.all r d)))
          (λ e. absurd (vertical e))
          (λ l. (toward y E.source, run-to E.source E.source_is_vertex ends.0 halves.0.leads l (λ r d. halves.0.all r d)))
        where
          E : EdgeAround t y
          E = edge-around t y one

          halves : HalfEdge t y E.source × HalfEdge t y E.target
          halves = around-halves t y E

          i : IsDirection (toward top y)
          i = direction-left (toward top y) (opposite up) down

          ends : (form_at h E.source ≡ pos 0) × (form_at h E.target ≡ pos 0)
          ends = ends-level t h top y i F all on-y E

          higher : lam n y E.source <ℤ pos 0 → pos 0 <ℤ lam n y E.target
          higher l =
              let e = lam-at n y E.source in
              let f = lam-at n y E.target in
              let m = between-level (up_line n y) E.source y E.target E.between (lam-at n y y ∙ lam-self n y) (omega (arith, ints)) in
              omega (arith, ints)

          vertical : lam n y E.source ≡ pos 0 → ⊥
          vertical e =
              let o = lam-chain n top y E.source (lam-down n top y down) e in
              let z = same-nought (lam n top E.source) (triple n (toward top E.source) (toward top y)) (down-turn n (toward top E.source) (toward top y) down) o in
              let w = triple-turned n (toward top y) (toward top E.source) in
              across-way t top y E.source i all halves.0 (parallel-in_plane n (toward top y) (toward top E.source) hn (plane-way h top y on-top on-y) (plane-way h top E.source on-top ends.0) (omega (arith, ints)))

    -- an edge that leaves y toward a point close to it
    module _ (q : SpacePoint) (on-q : form_at h q ≡ pos 0) (close : Within (reach_all (carriers t) y) y q) (one : FlatDim t q 1) (aside : pos 0 <ℤ lam n y q) where
      to-q : IsDirection (toward y q)
      to-q o = let e = lam-zero n y q o in let l = aside in omega (arith, ints)

      flat-q : Flat t q (toward y q)
      flat-q = Flat-from_cone t q (toward y q) (flat-toward t y q close)

      end : (c : SpacePoint) → IsVertex t c → HalfEdge t q c → SameDirection (toward y q) (toward q c) → Run y b (toward y q)
      end c vertex K w =
          let on-c = plane-onward h q c (level-way n (toward y q) (toward q c) w (plane-way h y q on-y on-q)) on-q in
          let to-c = between-way y q c w in
          let l = same-plus (lam n y q) (lam n y c) (turn-last n up (toward y q) (toward y c) to-c) aside in
          let R = run-to c vertex on-c (direction-right (toward y q) (toward y c) to-c) l
          (λ r d. ⊎_elim (λ m. dim-cell t q r 1 (ray-cell (carriers t) y q r close m) one)
          (λ o. ⊎_elim (λ m. dim-same t q r 1 (same-point_sym r q m) one) (λ m. K.all r m) o) (between-cases y q c r w d)) in
          record {
            place = R.place;
            on = R.on;
            line = R.line;
            dir = SameDirection-trans (toward y R.place) (toward y c) (toward y q) R.dir (SameDirection-turned (toward y q) (toward y c) to-c);
            before = R.before;
            here = R.here;
          }

      pub run-near : Run y b (toward y q)
      run-near = by (beside (toward y q) (toward q E.target) to-q halves.1.leads (parallel (toward q E.target) halves.1.flat))
        where
          E : EdgeAround t q
          E = edge-around t q one

          halves : HalfEdge t q E.source × HalfEdge t q E.target
          halves = around-halves t q E

          parallel : (d : Vector) → Flat t q d → IsZero (cross (toward y q) d)
          parallel d f = ⊎_elim (λ z. z) (λ m. absurd (one.1 (toward y q, d, m, flat-q, f))) (zero-decided (cross (toward y q) d))

          by : Beside (toward y q) (toward q E.target) → Run y b (toward y q)
          by (same_way w) = end E.target E.target_is_vertex halves.1 w
          by (other_way o) = end E.source E.source_is_vertex halves.0
              (SameDirection-trans (toward y q) (opposite (toward q E.target)) (toward q E.source) turned
              (SameDirection-turned (toward q E.source) (opposite (toward q E.target)) (ahead-back E.source q (toward q E.target) E.between)))
            where
              turned : SameDirection (toward y q) (opposite (toward q E.target))
              turned = SameDirection-turned (opposite (toward q E.target)) (toward y q) (opposite-way (toward q E.target) (toward y q) (opposite-turned (toward y q) (toward q E.target) o))
