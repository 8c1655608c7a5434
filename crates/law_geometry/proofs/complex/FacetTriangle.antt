-- No edge enters the triangle of a facet point, a point of an edge that it sees and an end of that edge, unless it has an end in the triangle.
use Rattle.law_geometry.proofs.complex.Prelude.{◌≡◌, ℕ, ℤ, pos, ◌-ℤ◌, ◌*ℤ◌, ◌<ℤ◌, ◌≤ℤ◌, arith, ap, sym, ◌∙◌, ◌⊎◌, inl, inr, ⊎_elim, ◌∷◌, subst, neg_ℤ, [], ints, ring, at, num, ◌⊖◌, ◌⊗◌, neg, by_order, sign-scaled, Flat, FlatDim, SpacePoint, Form, form_at, normal_of, slope, SamePoint, toward, IsBetween, Set, Vector, dot, cross, IsZero, IsDirection, carriers, signs-same, same-point_sym, germs-by_cell, FlatDim-one, Flat-by_germs, even-germs, span-1, between-turned, between-inner, slope-toward, toward-point, IsAt, Vertex, Edge, Complex, HasEnds, Shows, zero-decided, dot-zero, triple-dot, SameDirection-turned, SameDirection-trans, parallel-in_plane, level-way, direction-right, same-plus, same-minus}
use Rattle.nef_space.proofs.Order.{sign}
use Rattle.law_geometry.proofs.complex.Planes.{plane-way}
use Rattle.law_geometry.proofs.complex.Ways.{between-way, between-outer, between-start, between-ends}
use Rattle.law_geometry.proofs.complex.Edges.{edge-points, edge-way}
use Rattle.law_geometry.proofs.complex.FacetWays.{even-by, plane-onward, plane-back}
use Rattle.law_geometry.proofs.complex.FacetAngles.{same-by, same-by-minus, zero-by, cross-back, aligned, through-slope, angle, turn_form, turn-at, angle-turned, angle-self, angle-start, angle-inside, angle-before, between-plus, between-minus, cut-at}
use Rattle.law_geometry.proofs.near.Same.{dim-same}

pub below-or : (x : ℤ) → (x <ℤ pos 0) ⊎ (pos 0 ≤ℤ x)
below-or x = by_order x (pos 0) (λ l. inl l) (λ e. inr (omega (arith, ints))) (λ l. inr (omega (arith, ints)))

-- ---- from a point of an edge to an end
pub record HalfEdge (s : Set) (t c : SpacePoint) : Type 0 where
  pub leads : IsDirection (toward t c)
  pub one : FlatDim s t 1
  pub all : (r : SpacePoint) → IsBetween t r c → FlatDim s r 1
  pub flat : Flat s t (toward t c)

half-of : (s : Set) (p t q : SpacePoint) → IsBetween p t q → ((r : SpacePoint) → IsBetween p r q → FlatDim s r 1) → Flat s t (toward p q) → HalfEdge s t q
half-of s p t q b all flat = record {
  leads = direction-right (toward p t) (toward t q) b;
  one = all t b;
  all = λ r c. all r (between-outer p t r q b c);
  flat = (
      let w = SameDirection-trans (toward p q) (toward p t) (toward t q) (SameDirection-turned (toward p t) (toward p q) (between-way p t q b)) b in
      span-1 s t (toward p q) (toward t q) (between-ends p t q b) flat w.parallel
      );
}

pub edge-halves : (s : Set) (C : Complex) (S : Shows s C) (k : ℕ) (e : Edge) (v w : Vertex) (t : SpacePoint) → IsAt C.edges k e → HasEnds C e v w → IsBetween v.point t w.point → HalfEdge s t v.point × HalfEdge s t w.point
edge-halves s C S k e v w t a H b =
    let E = edge-points s C k e v w t S a H b in
    let all : (r : SpacePoint) → IsBetween v.point r w.point → FlatDim s r 1 = λ r c. (edge-points s C k e v w r S a H c).0 in
    let way = edge-way s C k e v w S a H in (
      half-of s w.point t v.point (between-turned v.point w.point t b) (λ r c. all r (between-turned w.point v.point r c)) ((E.1 (toward w.point v.point)).1 (cross-back _ v.point w.point way)),
      half-of s v.point t w.point b all ((E.1 (toward v.point w.point)).1 way),
    )

-- its direction is flat all along it
half-flat : (s : Set) (t c r : SpacePoint) → HalfEdge s t c → IsBetween t r c → Flat s r (toward t c)
half-flat s t c r E b = Flat-by_germs s s t r (even-germs s 1 t r (even-by s 1 t r E.one (λ u d. E.all u (between-inner t r c u b d)) (E.all r b))) (toward t c) E.flat

parallel-at : (s : Set) (r : SpacePoint) (d e : Vector) → FlatDim s r 1 → Flat s r d → Flat s r e → IsZero (cross d e)
parallel-at s r d e one f g = ⊎_elim (λ z. z) (λ n. absurd (one.1 (d, e, n, f, g))) (zero-decided (cross d e))

-- ---- the slope of a form along a way
module _ (F : Form) (p q : SpacePoint) where
  from-plane : form_at F p ≡ pos 0 → sign (slope F (toward p q)) ≡ sign (form_at F q)
  from-plane z = ap sign (slope-toward F p q ∙ ap (λ r. pos p.w *ℤ form_at F q -ℤ pos q.w *ℤ r) z ∙ ring (pos p.w ∷ pos q.w ∷ form_at F q ∷ []) (at 0 ⊗ at 2 ⊖ at 1 ⊗ num (pos 0)) (at 0 ⊗ at 2) tt)
      ∙ sign-scaled (pos p.w) (form_at F q) (let l = p.proper in omega (arith, ints))

  to-plane : form_at F q ≡ pos 0 → sign (neg_ℤ (slope F (toward p q))) ≡ sign (form_at F p)
  to-plane z = ap (λ r. sign (neg_ℤ r)) (slope-toward F p q ∙ ap (λ r. pos p.w *ℤ r -ℤ pos q.w *ℤ form_at F p) z)
      ∙ ap sign (ring (pos p.w ∷ pos q.w ∷ form_at F p ∷ []) (neg (at 0 ⊗ num (pos 0) ⊖ at 1 ⊗ at 2)) (at 1 ⊗ at 2) tt) ∙ sign-scaled (pos q.w) (form_at F p) (let l = q.proper in omega (arith, ints))

  -- it rises from nought, falls to nought, falls from nought, or rises to nought
  pub rises : form_at F p ≡ pos 0 → pos 0 <ℤ form_at F q → pos 0 <ℤ slope F (toward p q)
  rises z h = same-plus (form_at F q) (slope F (toward p q)) (from-plane z) h

  pub falls-to : form_at F q ≡ pos 0 → pos 0 <ℤ form_at F p → slope F (toward p q) <ℤ pos 0
  falls-to z h = let e = same-plus (form_at F p) (neg_ℤ (slope F (toward p q))) (to-plane z) h in omega (arith, ints)

  pub falls : form_at F p ≡ pos 0 → form_at F q <ℤ pos 0 → slope F (toward p q) <ℤ pos 0
  falls z h = same-minus (form_at F q) (slope F (toward p q)) (from-plane z) h

  rises-to : form_at F q ≡ pos 0 → form_at F p <ℤ pos 0 → pos 0 <ℤ slope F (toward p q)
  rises-to z h = let e = same-minus (form_at F p) (neg_ℤ (slope F (toward p q))) (to-plane z) h in omega (arith, ints)

pub plane-between : (h : Form) (p r q : SpacePoint) → IsBetween p r q → form_at h p ≡ pos 0 → form_at h q ≡ pos 0 → form_at h r ≡ pos 0
plane-between h p r q b x y = plane-onward h p r (level-way (normal_of h) (toward p q) (toward p r) (SameDirection-turned (toward p r) (toward p q) (between-way p r q b)) (plane-way h p q x y)) x

-- ---- the triangle of y, z and w
module _ (s : Set) (h : Form) (hn : IsDirection (normal_of h)) (y z w : SpacePoint) (on-y : form_at h y ≡ pos 0) (on-z : form_at h z ≡ pos 0) (on-w : form_at h w ≡ pos 0)
    (clear : (r : SpacePoint) → IsBetween y r z → FlatDim s r 2) (Z : HalfEdge s z w) (turn : pos 0 <ℤ angle (normal_of h) y z w) where
  abbrev n : Vector
  n = normal_of h

  -- positive on the side of y
  abbrev side : SpacePoint → ℤ
  side r = angle n z w r

  abbrev G : Form
  G = turn_form n z w

  G-is : (r : SpacePoint) → form_at G r ≡ side r
  G-is r = turn-at n z w r

  by-form : (p q : SpacePoint) (P : ℤ → Type 0) → P (angle n y p q) → P (form_at (turn_form n y p) q)
  by-form p q P a = subst P (sym (turn-at n y p q)) a

  -- a half edge doesn't leave the line from z to w in its direction
  halves-apart : (t c r : SpacePoint) → HalfEdge s t c → IsBetween t r c → Flat s r (toward z w) → pos 0 <ℤ side t → side r ≡ pos 0 → ⊥
  halves-apart t c r E b flat in-t on-r =
      let o = parallel-at s r (toward z w) (toward t c) (E.all r b) flat (half-flat s t c r E b) in
      let e : dot (cross n (toward z w)) (toward t c) ≡ pos 0 = sym (triple-dot n (toward z w) (toward t c)) ∙ dot-zero n (cross (toward z w) (toward t c)) o in
      let f : slope G (toward t c) ≡ pos 0 = through-slope (cross n (toward z w)) z (toward t c) ∙ ap (λ x. pos z.w *ℤ x) e ∙ ring (pos z.w ∷ []) (at 0 ⊗ num (pos 0)) (num (pos 0)) tt in
      let g = level-way (normal_of G) (toward t c) (toward t r) (SameDirection-turned (toward t r) (toward t c) (between-way t r c b)) f in
      let k = plane-back G t r g (G-is r ∙ on-r) in
      let l = G-is t in
      omega (arith, ints)

  -- what lies on the line from z to w, at an angle between theirs, lies between them
  on-way : (r : SpacePoint) → form_at h r ≡ pos 0 → side r ≡ pos 0 → pos 0 <ℤ angle n y z r → pos 0 <ℤ angle n y r w → IsBetween z r w
  on-way r on-r e a b =
      let o = parallel-in_plane n (toward z w) (toward z r) hn (plane-way h z w on-z on-w) (plane-way h z r on-z on-r) e in
      let F = turn_form n y z in
      let D = turn_form n y w in
      let at-z = turn-at n y z z ∙ angle-self n y z in
      let at-w = turn-at n y w w ∙ angle-self n y w in
      let first = same-by (normal_of F) (toward z w) (toward z r) o (rises F z w at-z (by-form z w (λ x. pos 0 <ℤ x) turn)) (rises F z r at-z (by-form z r (λ x. pos 0 <ℤ x) a)) in
      let minus-z : angle n y w z <ℤ pos 0 = let f = angle-turned n y w z in let g = turn in omega (arith, ints) in
      let minus-r : angle n y w r <ℤ pos 0 = let f = angle-turned n y w r in omega (arith, ints) in
      let last = same-by (normal_of D) (toward z w) (toward r w) (aligned z w r o) (rises-to D z w at-w (by-form w z (λ x. x <ℤ pos 0) minus-z)) (rises-to D r w at-w (by-form w r (λ x. x <ℤ pos 0) minus-r)) in
      SameDirection-trans (toward z r) (toward z w) (toward r w) (SameDirection-turned (toward z w) (toward z r) first) last

  -- what lies on the line from y to z, not behind y, and within the triangle, lies between y and z or at z
  on-ray : (t r : SpacePoint) → form_at h r ≡ pos 0 → pos 0 <ℤ angle n y z t → angle n y t r <ℤ pos 0 → angle n y z r ≡ pos 0 → pos 0 ≤ℤ side r → IsBetween y r z ⊎ (SamePoint r z × (side r ≡ pos 0))
  on-ray t r on-r a b e inside =
      let o = parallel-in_plane n (toward y z) (toward y r) hn (plane-way h y z on-y on-z) (plane-way h y r on-y on-r) e in
      let F = turn_form n y t in
      let at-y = turn-at n y t y ∙ angle-start n y t in
      let minus-z : angle n y t z <ℤ pos 0 = let f = angle-turned n y t z in omega (arith, ints) in
      let ahead = same-by-minus (normal_of F) (toward y z) (toward y r) o (falls F y z at-y (by-form t z (λ x. x <ℤ pos 0) minus-z)) (falls F y r at-y (by-form t r (λ x. x <ℤ pos 0) b)) in
      let c = aligned y z r o in
      let at-z = G-is z ∙ angle-start n z w in
      let down = falls-to G y z at-z (subst (λ x. pos 0 <ℤ x) (sym (G-is y)) (angle-inside n y z w turn)) in
      by_order (side r) (pos 0)
      (λ l. absurd (omega (arith, ints)))
      (λ l. inr (toward-point r z (zero-by (normal_of G) (toward y z) (toward r z) c down (plane-way G r z (G-is r ∙ l) at-z)), l))
      (λ l. inl (SameDirection-trans (toward y r) (toward y z) (toward r z) (SameDirection-turned (toward y z) (toward y r) ahead)
      (same-by-minus (normal_of G) (toward y z) (toward r z) c down (falls-to G r z at-z (subst (λ x. pos 0 <ℤ x) (sym (G-is r)) l)))))

  -- ---- an edge that leads from a point t of the triangle toward lesser angles ends in the triangle
  module _ (t c : SpacePoint) (on-t : form_at h t ≡ pos 0) (on-c : form_at h c ≡ pos 0) (right : pos 0 <ℤ angle n y z t) (left : pos 0 ≤ℤ angle n y t w) (in-t : pos 0 <ℤ side t)
      (E : HalfEdge s t c) (vertex : FlatDim s c 0) (lesser : angle n y t c <ℤ pos 0) where
    -- it doesn't cross the edge from z to w
    not-through : (r : SpacePoint) → IsBetween t r c → pos 0 <ℤ angle n y z r → side r ≡ pos 0 → ⊥
    not-through r b a e =
        let on-r = plane-between h t r c b on-t on-c in
        let F = turn_form n y t in
        let m = between-minus F t r c b (turn-at n y t t ∙ angle-self n y t) (by-form t c (λ x. x <ℤ pos 0) lesser) in
        let before : pos 0 <ℤ angle n y r t = let f = turn-at n y t r in let g = angle-turned n y r t in omega (arith, ints) in
        let l = angle-before n y z t w r right turn (omega (arith, ints)) before left in
        let way = on-way r on-r e a l in
        halves-apart t c r E b (half-flat s z w r Z way) in-t e

    -- so it doesn't end beyond it
    not-beyond : pos 0 ≤ℤ angle n y z c → side c <ℤ pos 0 → ⊥
    not-beyond a b =
        let r = cut-at G t c E.leads (subst (λ x. pos 0 <ℤ x) (sym (G-is t)) in-t) (subst (λ x. x <ℤ pos 0) (sym (G-is c)) b) in
        let p = between-plus (turn_form n y z) t r.place c r.between (by-form z t (λ x. pos 0 <ℤ x) right) (by-form z c (λ x. pos 0 ≤ℤ x) a) in
        not-through r.place r.between (subst (λ x. pos 0 <ℤ x) (turn-at n y z r.place) p) (sym (G-is r.place) ∙ r.level)

    -- nor does it cross the way from y to z
    not-across : angle n y z c <ℤ pos 0 → ⊥
    not-across a =
        let F = turn_form n y z in
        let k = cut-at F t c E.leads (by-form z t (λ x. pos 0 <ℤ x) right) (by-form z c (λ x. x <ℤ pos 0) a) in
        let r = k.place in
        ⊎_elim (λ l. before r k.between k.level l) (λ l. at r k.between k.level l) (below-or (side r))
      where
        before : (r : SpacePoint) → IsBetween t r c → form_at (turn_form n y z) r ≡ pos 0 → side r <ℤ pos 0 → ⊥
        before r b e l =
            let k = cut-at G t r (between-start t r c b) (subst (λ x. pos 0 <ℤ x) (sym (G-is t)) in-t) (subst (λ x. x <ℤ pos 0) (sym (G-is r)) l) in
            let p = between-plus (turn_form n y z) t k.place r k.between (by-form z t (λ x. pos 0 <ℤ x) right) (omega (arith, ints)) in
            not-through k.place (between-inner t r c k.place b k.between) (subst (λ x. pos 0 <ℤ x) (turn-at n y z k.place) p) (sym (G-is k.place) ∙ k.level)

        at : (r : SpacePoint) → IsBetween t r c → form_at (turn_form n y z) r ≡ pos 0 → pos 0 ≤ℤ side r → ⊥
        at r b e l =
            let m = between-minus (turn_form n y t) t r c b (turn-at n y t t ∙ angle-self n y t) (by-form t c (λ x. x <ℤ pos 0) lesser) in
            ⊎_elim
            (λ d. let j = FlatDim-one s r 1 2 (E.all r b) (clear r d) in cc)
            (λ d. halves-apart t c r E b (Flat-by_germs s s z r (germs-by_cell s z r (signs-same (carriers s) z r (same-point_sym r z d.0))) (toward z w) Z.flat) in-t d.1)
            (on-ray t r (plane-between h t r c b on-t on-c) right (subst (λ x. x <ℤ pos 0) (turn-at n y t r) m) (sym (turn-at n y z r) ∙ e) l)

    -- nor does it end on it
    not-on : angle n y z c ≡ pos 0 → pos 0 ≤ℤ side c → ⊥
    not-on e l = ⊎_elim
        (λ d. let j = FlatDim-one s c 0 2 vertex (clear c d) in cc)
        (λ d. let j = FlatDim-one s z 0 1 (dim-same s c z 0 d.0 vertex) Z.one in cc)
        (on-ray t c on-c right lesser e l)

    pub ends-inside : (pos 0 <ℤ angle n y z c → pos 0 ≤ℤ angle n y c w → pos 0 ≤ℤ side c → ⊥) → ⊥
    ends-inside best = by_order (angle n y z c) (pos 0) not-across
        (λ e. ⊎_elim (λ l. not-beyond (omega (arith, ints)) l) (λ l. not-on e l) (below-or (side c)))
        (λ a. ⊎_elim (λ l. not-beyond (omega (arith, ints)) l) (λ l. best a (after a) l) (below-or (side c)))
      where
        after : pos 0 <ℤ angle n y z c → pos 0 ≤ℤ angle n y c w
        after a =
            let before : pos 0 <ℤ angle n y c t = let f = angle-turned n y c t in let g = lesser in omega (arith, ints) in
            let l = angle-before n y z t w c right turn (omega (arith, ints)) before left in omega (arith, ints)
