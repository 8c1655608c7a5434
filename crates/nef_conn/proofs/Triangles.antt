-- Where a side of a triangle lies within a facet of a set, another within it or on an edge, and no vertex in it but the corner between both, the third side lies within the facet: an edge that crosses it would leave the triangle by another side.
use Rattle.nef_conn.proofs.Prelude.{◌≡◌, zero, suc, pos, ◌<ℤ◌, ◌≤ℤ◌, arith, refl, ap, sym, ◌∙◌, ◌⊎◌, inl, inr, ⊎_elim, ◌∷◌, subst, [], ints, by_order, sign-plus, nought, plus, sign, Flat, FlatDim, IsVertex, SpacePoint, Form, form_at, normal_of, SamePoint, toward, IsBetween, Set, Vector, cross, IsZero, IsDirection, carriers, Drop, IsFlatBelow, EdgeAround, FlatDim-one, Flat-by_germs, between-turned, between-inner, start-close, start-toward, even-until, edge-around, even-germs, flat-way, span-1, signs-same, same-point_sym, reach_all, toward-point, point-toward, between-same, normal-direction, IsFlatIn, plane-way, between-way, between-start, between-ends, between-outer, near_point, near-between, not-along, even-by, plane-back, plane-onward, flat-onto, same-by, same-by-minus, zero-by, Cut, cross-back, aligned, angle, turn_form, turn-at, angle-turned, angle-self, angle-start, angle-inside, between-plus, between-minus, between-level, cut-at, HalfEdge, plane-between, below-or, rises, falls-to, falls, IsInTriangle, LiesAlong, ThirdSides, zero-decided, dot-zero, cross-turned, SameDirection-turned, SameDirection-trans, dir-self, in-span, parallel-trans, parallel-in_plane, level-way, direction-right}
use Rattle.nef_space.proofs.Elementary.{same-itself}

-- where a form rises through nought
pub cut-up : (h : Form) (p q : SpacePoint) → IsDirection (toward p q) → form_at h p <ℤ pos 0 → pos 0 <ℤ form_at h q → Cut h p q
cut-up h p q i x y =
    let k = cut-at h q p (λ z. i (point-toward p q (same-point_sym q p (toward-point q p z)))) y x in
    record { place = k.place; between = between-turned q p k.place k.between; level = k.level }

-- ---- edges of a set
pub half-to : (s : Set) (t c : SpacePoint) → IsDirection (toward t c) → FlatDim s t 1 → ((r : SpacePoint) → IsBetween t r c → FlatDim s r 1) → HalfEdge s t c
half-to s t c i one all =
    let q = near_point s t c in
    let b = near-between s t c i in
    record {
      leads = i;
      one = one;
      all = all;
      flat = subst (Flat s t) (start-toward (reach_all (carriers s) t) t c) (flat-way s 1 t q one (all q b) (start-close (reach_all (carriers s) t) t c) (between-start t q c b));
    }

pub around-halves : (s : Set) (t : SpacePoint) (E : EdgeAround s t) → HalfEdge s t E.source × HalfEdge s t E.target
around-halves s t E =
    let one = E.even t E.between in
    let back = between-turned E.source E.target t E.between in (
      half-to s t E.source (between-start-back back) one (λ r b. E.even r (between-turned E.target E.source r (between-outer E.target t r E.source back b))),
      half-to s t E.target (direction-right (toward E.source t) (toward t E.target) E.between) one (λ r b. E.even r (between-outer E.source t r E.target E.between b)),
    )
  where
    between-start-back : IsBetween E.target t E.source → IsDirection (toward t E.source)
    between-start-back b = direction-right (toward E.target t) (toward t E.source) b

-- an edge of the plane that a way with two flat directions comes to runs across the way
pub across-way : (s : Set) (y t c : SpacePoint) → IsDirection (toward y t) → ((r : SpacePoint) → IsBetween y r t → FlatDim s r 2) → HalfEdge s t c → IsZero (cross (toward y t) (toward y c)) → ⊥
across-way s y t c i all E o =
    let a = cross-back (toward y t) c t (aligned y t c o) in
    let b = cross-back (toward t c) y t (cross-turned (toward y t) (toward t c) a) in
    let back : IsDirection (toward t y) = λ z. i (point-toward y t (same-point_sym t y (toward-point t y z))) in
    not-along s t y (toward t y) (dir-self (toward t y) back) E.one (all (near_point s t y) (between-turned t y (near_point s t y) (near-between s t y back))) (span-1 s t (toward t c) (toward t y) E.leads E.flat b)

-- the direction of an edge is flat all along it
flat-on : (s : Set) (p r q : SpacePoint) → FlatDim s p 1 → Flat s p (toward p q) → ((u : SpacePoint) → IsBetween p u q → FlatDim s u 1) → IsBetween p r q → Flat s r (toward p q)
flat-on s p r q one flat all b = Flat-by_germs s s p r (even-germs s 1 p r (even-by s 1 p r one (λ u d. all u (between-inner p r q u b d)) (all r b))) (toward p q) flat

-- the edge at the end of a way within a facet lies in the facet's plane
pub ends-level : (s : Set) (h : Form) (q z : SpacePoint) → IsDirection (toward q z) → IsFlatIn s h q → ((r : SpacePoint) → IsBetween q r z → FlatDim s r 2) → form_at h z ≡ pos 0 → (E : EdgeAround s z) → (form_at h E.source ≡ pos 0) × (form_at h E.target ≡ pos 0)
ends-level s h q z i F all on E =
    let H = around-halves s z E in
    let each = λ (c : SpacePoint) (K : HalfEdge s z c). plane-onward h z c ((F.1 (toward z c)).0 (flat-onto s 2 q z i F.0 all (toward z c) K.flat)) on in
    (each E.source H.0, each E.target H.1)

-- a way along edges from t to v, which is a, or a way over a
pub never-passes : (s : Set) (a b c : SpacePoint) → ((t : SpacePoint) → IsBetween b t c → ((r : SpacePoint) → IsBetween t r a → FlatDim s r 1) → ⊥) → (t v : SpacePoint) → IsBetween b t c → IsVertex s v → HalfEdge s t v → IsBetween t a v ⊎ SamePoint a v → ⊥
never-passes s a b c corner t v amid vertex E (inl d) = corner t amid (λ r m. E.all r (between-inner t a v r d m))
never-passes s a b c corner t v amid vertex E (inr o) = corner t amid (λ r m. E.all r (between-same t r a t r v (same-itself t) (same-itself r) o m))

-- ---- the triangle of a, b and c
module _ (s : Set) (h : Form) (hn : IsDirection (normal_of h)) (a b c : SpacePoint) (on-a : form_at h a ≡ pos 0) (on-b : form_at h b ≡ pos 0) (on-c : form_at h c ≡ pos 0)
    (turn : pos 0 <ℤ angle (normal_of h) a b c) where
  abbrev n : Vector
  n = normal_of h

  -- the forms of the sides from a to b, from a to c and from b to c
  abbrev P : Form
  P = turn_form n a b

  abbrev R : Form
  R = turn_form n a c

  abbrev G : Form
  G = turn_form n b c

  P-a : form_at P a ≡ pos 0
  P-a = turn-at n a b a ∙ angle-start n a b

  P-b : form_at P b ≡ pos 0
  P-b = turn-at n a b b ∙ angle-self n a b

  P-c : pos 0 <ℤ form_at P c
  P-c = subst (λ x. pos 0 <ℤ x) (sym (turn-at n a b c)) turn

  R-a : form_at R a ≡ pos 0
  R-a = turn-at n a c a ∙ angle-start n a c

  R-c : form_at R c ≡ pos 0
  R-c = turn-at n a c c ∙ angle-self n a c

  R-b : form_at R b <ℤ pos 0
  R-b = let e = turn-at n a c b in let f = angle-turned n a c b in let t = turn in omega (arith, ints)

  G-b : form_at G b ≡ pos 0
  G-b = turn-at n b c b ∙ angle-start n b c

  G-c : form_at G c ≡ pos 0
  G-c = turn-at n b c c ∙ angle-self n b c

  G-a : pos 0 <ℤ form_at G a
  G-a = subst (λ x. pos 0 <ℤ x) (sym (turn-at n b c a)) (angle-inside n a b c turn)

  -- what lies on the line of a side, and on the inner side of the other two, lies on the side
  pub on-first : (x : SpacePoint) → form_at h x ≡ pos 0 → form_at P x ≡ pos 0 → form_at R x <ℤ pos 0 → pos 0 <ℤ form_at G x → IsBetween a x b
  on-first x on e r g =
      let o = parallel-in_plane n (toward a b) (toward a x) hn (plane-way h a b on-a on-b) (plane-way h a x on-a on) (sym (turn-at n a b x) ∙ e) in
      let u = same-by-minus (normal_of R) (toward a b) (toward a x) o (falls R a b R-a R-b) (falls R a x R-a r) in
      let v = same-by-minus (normal_of G) (toward a b) (toward x b) (aligned a b x o) (falls-to G a b G-b G-a) (falls-to G x b G-b g) in
      SameDirection-trans (toward a x) (toward a b) (toward x b) (SameDirection-turned (toward a b) (toward a x) u) v

  pub on-second : (x : SpacePoint) → form_at h x ≡ pos 0 → form_at R x ≡ pos 0 → pos 0 <ℤ form_at P x → pos 0 <ℤ form_at G x → IsBetween a x c
  on-second x on e p g =
      let o = parallel-in_plane n (toward a c) (toward a x) hn (plane-way h a c on-a on-c) (plane-way h a x on-a on) (sym (turn-at n a c x) ∙ e) in
      let u = same-by (normal_of P) (toward a c) (toward a x) o (rises P a c P-a P-c) (rises P a x P-a p) in
      let v = same-by-minus (normal_of G) (toward a c) (toward x c) (aligned a c x o) (falls-to G a c G-c G-a) (falls-to G x c G-c g) in
      SameDirection-trans (toward a x) (toward a c) (toward x c) (SameDirection-turned (toward a c) (toward a x) u) v

  -- the corner a is where the lines of both sides meet
  pub at-corner : (x : SpacePoint) → form_at h x ≡ pos 0 → form_at P x ≡ pos 0 → form_at R x ≡ pos 0 → SamePoint a x
  at-corner x on p r =
      let o = parallel-in_plane n (toward a b) (toward a x) hn (plane-way h a b on-a on-b) (plane-way h a x on-a on) (sym (turn-at n a b x) ∙ p) in
      toward-point a x (zero-by (normal_of R) (toward a b) (toward a x) o (falls R a b R-a R-b) (plane-way R a x R-a r))

  -- an edge from a point t of the third side isn't parallel to the second side where it comes to its line
  pub never-along : (t v x : SpacePoint) → IsBetween b t c → HalfEdge s t v → IsBetween t x v → form_at R x ≡ pos 0 → Flat s x (toward a c) → ⊥
  never-along t v x amid E d z here =
      let there = flat-on s t x v E.one E.flat E.all d in
      let way = ⊎_elim (λ y. y) (λ f. absurd ((E.all x d).1 (toward a c, toward t v, f, here, there))) (zero-decided (cross (toward a c) (toward t v))) in
      let some : IsDirection (toward a c) = λ y. let m = rises P a c P-a P-c in let k = dot-zero (normal_of P) (toward a c) y in omega (arith, ints) in
      let level = in-span (normal_of R) (toward a c) (toward t v) some way (plane-way R a c R-a R-c) in
      let to-x = level-way (normal_of R) (toward t v) (toward t x) (SameDirection-turned (toward t x) (toward t v) (between-way t x v d)) level in
      let k = plane-back R t x to-x z in
      let r = between-minus R c t b (between-turned b c t amid) R-c R-b in
      omega (arith, ints)

  module _ (first : (r : SpacePoint) → IsBetween a r b → FlatDim s r 2) (second : LiesAlong s a c) (F : IsFlatIn s h b)
      (corner : (t v : SpacePoint) → IsBetween b t c → IsVertex s v → HalfEdge s t v → IsBetween t a v ⊎ SamePoint a v → ⊥) where
    -- an edge from a point t of the third side, to the side of a, ends in the triangle
    module _ (t : SpacePoint) (amid : IsBetween b t c) (v : SpacePoint) (vertex : IsVertex s v) (on-v : form_at h v ≡ pos 0) (E : HalfEdge s t v) (inward : pos 0 <ℤ form_at G v) where
      on-t : form_at h t ≡ pos 0
      on-t = plane-between h b t c amid on-b on-c

      P-t : pos 0 <ℤ form_at P t
      P-t = between-plus P c t b (between-turned b c t amid) P-c (let e = P-b in omega (arith, ints))

      R-t : form_at R t <ℤ pos 0
      R-t = between-minus R c t b (between-turned b c t amid) R-c R-b

      G-t : form_at G t ≡ pos 0
      G-t = plane-between G b t c amid G-b G-c

      on-x : (x : SpacePoint) → IsBetween t x v → form_at h x ≡ pos 0
      on-x x d = plane-between h t x v d on-t on-v

      G-x : (x : SpacePoint) → IsBetween t x v → pos 0 <ℤ form_at G x
      G-x x d = between-plus G v x t (between-turned t v x d) inward (let e = G-t in omega (arith, ints))

      -- it doesn't run through a point of the second side, which lies within a facet, or on an edge, to which the edge from t would be parallel
      off-second : (x : SpacePoint) → IsBetween t x v → form_at R x ≡ pos 0 → IsBetween a x c ⊎ SamePoint a x → LiesAlong s a c → ⊥
      off-second x d z (inl o) (inl w) = let j = FlatDim-one s x 1 2 (E.all x d) (w x o) in cc
      off-second x d z (inr o) w = corner t v amid vertex E (inl (between-same t x v t a v (same-itself t) (same-point_sym a x o) (same-itself v) d))
      off-second x d z (inl o) (inr w) =
          let some-x = direction-right (toward a x) (toward x c) o in
          let K = half-to s x c some-x (w x o) (λ r m. w r (between-outer a x r c o m)) in
          let same = SameDirection-trans (toward x c) (toward a x) (toward a c) (SameDirection-turned (toward a x) (toward x c) o) (between-way a x c o) in
          never-along t v x amid E d z (span-1 s x (toward x c) (toward a c) some-x K.flat same.parallel)

      -- it doesn't cross the second side
      not-second : (x : SpacePoint) → IsBetween t x v → form_at R x ≡ pos 0 → pos 0 <ℤ form_at P x → ⊥
      not-second x d e p = off-second x d e (inl (on-second x (on-x x d) e p (G-x x d))) second

      -- nor the first
      not-first : (x : SpacePoint) → IsBetween t x v → form_at P x ≡ pos 0 → ⊥
      not-first x d e = by_order (form_at R x) (pos 0)
          (λ l. let j = FlatDim-one s x 1 2 (E.all x d) (first x (on-first x (on-x x d) e l (G-x x d))) in cc)
          (λ z. off-second x d z (inr (at-corner x (on-x x d) e z)) second)
          (λ l.
          let k = cut-back l in
          not-second k.place (between-inner t x v k.place d k.between) k.level (between-plus P t k.place x k.between P-t (omega (arith, ints))))
        where
          cut-back : pos 0 <ℤ form_at R x → Cut R t x
          cut-back l = cut-up R t x (between-start t x v d) R-t l

      ends-in : (pos 0 ≤ℤ form_at P v) × (form_at R v ≤ℤ pos 0)
      ends-in = ⊎_elim
          (λ l. absurd (let k = cut-at P t v E.leads P-t l in not-first k.place k.between k.level))
          (λ l. (
            l,
            by_order (form_at R v) (pos 0) (λ m. omega (arith, ints)) (λ m. omega (arith, ints))
                (λ m. absurd (let k = cut-up R t v E.leads R-t m in not-second k.place k.between k.level (between-plus P t k.place v k.between P-t l))),
          )) (below-or (form_at P v))

    -- so no edge crosses the third side
    module _ (none : (r : SpacePoint) → IsVertex s r → form_at h r ≡ pos 0 → IsInTriangle (normal_of h) a b c r → (SamePoint a r → ⊥) → ⊥) where
      in-side : (r : SpacePoint) → IsBetween b r c → IsInTriangle (normal_of h) a b c r
      in-side r d =
          let q = between-turned b c r d in
          let x = between-plus P c r b q P-c (let f = P-b in omega (arith, ints)) in
          let y = between-minus R c r b q R-c R-b in
          let f = turn-at n a b r in
          let g = turn-at n a c r in
          (omega (arith, ints), omega (arith, ints), inr d)

      module _ (t : SpacePoint) (amid : IsBetween b t c) (all : (r : SpacePoint) → IsBetween b r t → FlatDim s r 2) where
        leads : IsDirection (toward b t)
        leads = between-start b t c amid

        on-amid : form_at h t ≡ pos 0
        on-amid = plane-between h b t c amid on-b on-c

        level-amid : form_at G t ≡ pos 0
        level-amid = plane-between G b t c amid G-b G-c

        none-inward : (v : SpacePoint) → IsVertex s v → form_at h v ≡ pos 0 → HalfEdge s t v → pos 0 <ℤ form_at G v → ⊥
        none-inward v vertex on-v E l =
            let e = ends-in t amid v vertex on-v E l in
            ⊎_elim (λ z. corner t v amid vertex E (inr (toward-point a v z)))
            (λ i. none v vertex on-v (subst (λ x. pos 0 ≤ℤ x) (turn-at n a b v) e.0, subst (λ x. x ≤ℤ pos 0) (turn-at n a c v) e.1, inl (subst (λ x. pos 0 <ℤ x) (turn-at n b c v) l)) (λ o. i (point-toward a v o))) (zero-decided (toward a v))

        none-along : (v : SpacePoint) → form_at h v ≡ pos 0 → HalfEdge s t v → form_at G v ≡ pos 0 → ⊥
        none-along v on-v E e = across-way s b t v leads all E
            (parallel-trans (toward b t) (toward b c) (toward b v) (between-ends b t c amid) (let w = between-way b t c amid in w.parallel)
            (parallel-in_plane n (toward b c) (toward b v) hn (plane-way h b c on-b on-c) (plane-way h b v on-b on-v) (sym (turn-at n b c v) ∙ e)))

        minus-none : sign (form_at G a) ≡ sign (form_at G t) → ⊥
        minus-none u = let x : plus ≡ nought = sym (sign-plus (form_at G a) G-a) ∙ u ∙ ap sign level-amid in cc

        none-here : IsFlatBelow s 2 t → ⊥
        none-here (zero, l, f) = none t f on-amid (in-side t amid) (λ o. minus-none (signs-same (G ∷ []) a t o G (inl refl)))
        none-here (suc zero, l, f) =
            let E = edge-around s t f in
            let lie = ends-level s h b t leads F all on-amid E in
            let half = around-halves s t E in
            by_order (form_at G E.source) (pos 0)
            (λ m. none-inward E.target E.target_is_vertex lie.1 half.1 (between-level G E.source t E.target E.between level-amid m))
            (λ z. none-along E.source lie.0 half.0 z)
            (λ m. none-inward E.source E.source_is_vertex lie.0 half.0 m)
        none-here (suc (suc k), l, f) = absurd (omega arith)

      pub third-side : (r : SpacePoint) → IsBetween b r c → FlatDim s r 2
      third-side = ⊎_elim (λ f. f) (λ (D : Drop s 2 b c). absurd (none-here D.at_place D.between D.even_before D.drops)) (even-until s 2 b c F.0 ((F.1 (toward b c)).1 (plane-way h b c on-b on-c)))

pub third-sides : ThirdSides
third-sides s h a b c N on-a on-b on-c turn F first second corner none = third-side s h (normal-direction (normal_of h) N) a b c on-a on-b on-c turn first second F (never-passes s a b c corner) none
