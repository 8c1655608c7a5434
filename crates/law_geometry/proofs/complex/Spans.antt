-- An edge point lies between its ends, and a facet point between the ends of two opposite ways in its plane; so what bounds the vertices of a plane bounds both. And y and z hardly change along the upward direction.
use Rattle.law_geometry.proofs.complex.Prelude.{◌≡◌, ℕ, ◌*◌, ◌<◌, ℤ, pos, neg_ℤ, ◌+ℤ◌, ◌-ℤ◌, ◌*ℤ◌, ◌<ℤ◌, ◌≤ℤ◌, arith, ◌∷◌, subst, [], ints, ring, at, num, neg, ◌⊕◌, ◌⊖◌, ◌⊗◌, given, none, follows, follows_times, mul_nonneg, mul_le_right, cancel_le, Flat, SpacePoint, Form, form, form_at, slope, SamePoint, InClosedFrame, toward, IsAhead, IsBetween, Set, Vector, opposite, cross, IsZero, IsDirection, SameDirection, up, mixed-of, flat_way-end, of_point, form-sum, IsAt, is-at_one, Vertex, Edge, Complex, Shows, IsVertexPoint, IsEdgePoint, PlaneMeet, meets_vertex, meets_edge, Meets, LiesIn, IsFlatIn, SameDirection-turned, SameDirection-trans, direction-opposite, direction-left}
use Rattle.law_geometry.specs.complex.Spans.{EachVertexOn, EachPointOn, IsAtMostNought, Coordinate, coordinate_x, coordinate_y, coordinate_z, coordinate_of, IsWithin, IsCloseAbove}
use Rattle.law_geometry.proofs.complex.FacetWays.{plane-ahead, end-meets}
use Rattle.law_geometry.proofs.complex.FacetEdges.{ahead-back}

-- ---- a form at one point, and between two points
form-same : (f : Form) (p q : SpacePoint) → SamePoint p q → form_at f p *ℤ pos q.w ≡ form_at f q *ℤ pos p.w
form-same f p q e =
    follows (f.a ∷ f.b ∷ f.c ∷ f.d ∷ p.x ∷ p.y ∷ p.z ∷ pos p.w ∷ q.x ∷ q.y ∷ q.z ∷ pos q.w ∷ [])
    ((at 0 ⊗ at 4 ⊕ at 1 ⊗ at 5 ⊕ at 2 ⊗ at 6 ⊕ at 3 ⊗ at 7) ⊗ at 11) ((at 0 ⊗ at 8 ⊕ at 1 ⊗ at 9 ⊕ at 2 ⊗ at 10 ⊕ at 3 ⊗ at 11) ⊗ at 7)
    (given (at 0) (at 4 ⊗ at 11) (at 8 ⊗ at 7) e.along_x
    (given (at 1) (at 5 ⊗ at 11) (at 9 ⊗ at 7) e.along_y
    (given (at 2) (at 6 ⊗ at 11) (at 10 ⊗ at 7) e.along_z none))) tt

nought-same : (f : Form) (p q : SpacePoint) → SamePoint p q → form_at f q ≡ pos 0 → form_at f p ≡ pos 0
nought-same f p q e z = by (form_at f p) (form_at f q) (form-same f p q e) z
  where
    by : (a b : ℤ) → a *ℤ pos q.w ≡ b *ℤ pos p.w → b ≡ pos 0 → a ≡ pos 0
    by a b e z = follows_times (pos p.w ∷ pos q.w ∷ a ∷ b ∷ []) (at 1) (at 2) (num (pos 0))
        (given (num (pos 1)) (at 2 ⊗ at 1) (at 3 ⊗ at 0) e (given (at 0) (at 3) (num (pos 0)) z none)) (let l = q.proper in omega (arith, ints)) tt

below-same : (f : Form) (p q : SpacePoint) → SamePoint p q → IsAtMostNought f p → IsAtMostNought f q
below-same f p q e l = by (form_at f p) (form_at f q) (form-same f p q e) l
  where
    by : (a b : ℤ) → a *ℤ pos q.w ≡ b *ℤ pos p.w → a ≤ℤ pos 0 → b ≤ℤ pos 0
    by a b e l =
        let m = mul_le_right a (pos 0) (pos q.w) (omega (arith, ints)) l in
        let o = p.proper in
        cancel_le b (pos 0) (pos p.w) (omega (arith, ints)) (omega (arith, ints))

below-between : (f : Form) (p r q : SpacePoint) → IsBetween p r q → IsAtMostNought f p → IsAtMostNought f q → IsAtMostNought f r
below-between f p r q b x y =
    let m = mixed-of p r q b in
    by (form_at f p) (form_at f r) (form_at f q) m.k m.i m.j m.some_k (form-sum f m.k (of_point r) m.i (of_point p) m.j (of_point q) m.sum) x y
  where
    by : (a c d : ℤ) (k i j : ℕ) → 0 < k → pos k *ℤ c ≡ pos i *ℤ a +ℤ pos j *ℤ d → a ≤ℤ pos 0 → d ≤ℤ pos 0 → c ≤ℤ pos 0
    by a c d k i j sk e x y =
        let u = mul_nonneg (pos i) (pos 0 -ℤ a) (omega (arith, ints)) (omega (arith, ints)) in
        let v = mul_nonneg (pos j) (pos 0 -ℤ d) (omega (arith, ints)) (omega (arith, ints)) in
        let t = ring (pos i ∷ a ∷ []) (at 0 ⊗ (num (pos 0) ⊖ at 1)) (num (pos 0) ⊖ at 0 ⊗ at 1) tt in
        let w = ring (pos j ∷ d ∷ []) (at 0 ⊗ (num (pos 0) ⊖ at 1)) (num (pos 0) ⊖ at 0 ⊗ at 1) tt in
        let r = ring (c ∷ pos k ∷ []) (at 1 ⊗ at 0) (at 0 ⊗ at 1) tt in
        cancel_le c (pos 0) (pos k) (omega (arith, ints)) (omega (arith, ints))

-- ---- opposite ways
pub opposite-level : (h : Form) (d : Vector) → slope h d ≡ pos 0 → slope h (opposite d) ≡ pos 0
opposite-level h d z =
    follows (h.a ∷ h.b ∷ h.c ∷ d.x ∷ d.y ∷ d.z ∷ []) (at 0 ⊗ neg (at 3) ⊕ at 1 ⊗ neg (at 4) ⊕ at 2 ⊗ neg (at 5)) (num (pos 0))
    (given (num (pos 0) ⊖ num (pos 1)) (at 0 ⊗ at 3 ⊕ at 1 ⊗ at 4 ⊕ at 2 ⊗ at 5) (num (pos 0)) z none) tt

cross-zero : (d e : Vector) → IsZero d → (d.y *ℤ e.z -ℤ d.z *ℤ e.y ≡ pos 0) × (d.z *ℤ e.x -ℤ d.x *ℤ e.z ≡ pos 0) × (d.x *ℤ e.y -ℤ d.y *ℤ e.x ≡ pos 0)
cross-zero d e z = (one d.y d.z e.y e.z z.1 z.2, one d.z d.x e.z e.x z.2 z.0, one d.x d.y e.x e.y z.0 z.1)
  where
    one : (a b c f : ℤ) → a ≡ pos 0 → b ≡ pos 0 → a *ℤ f -ℤ b *ℤ c ≡ pos 0
    one a b c f x y = follows (a ∷ b ∷ c ∷ f ∷ []) (at 0 ⊗ at 3 ⊖ at 1 ⊗ at 2) (num (pos 0)) (given (at 3) (at 0) (num (pos 0)) x (given (num (pos 0) ⊖ at 2) (at 1) (num (pos 0)) y none)) tt

-- ---- what bounds the vertices of a plane
module _ (s : Set) (C : Complex) (S : Shows s C) (h f : Form) (below : EachVertexOn C h (IsAtMostNought f)) where
  vertex-below : (k : ℕ) (y : SpacePoint) → IsVertexPoint C k y → form_at h y ≡ pos 0 → IsAtMostNought f y
  vertex-below k y (v, a, e) on = below-same f v.point y e (below k v a (nought-same h v.point y e on))

  edge-below : (k : ℕ) (y : SpacePoint) → IsEdgePoint C k y → LiesIn C h k → IsAtMostNought f y
  edge-below k y (e, v, w, a, H, b) (g, t, u, c, G, p, q) =
      let same = is-at_one C.edges k g e c a in
      let i = is-at_one C.vertices e.low t v (subst (λ (r : Edge). IsAt C.vertices r.low t) same G.low) H.low in
      let j = is-at_one C.vertices e.high u w (subst (λ (r : Edge). IsAt C.vertices r.high u) same G.high) H.high in
      below-between f v.point y w.point b
      (below e.low v H.low (subst (λ (r : Vertex). form_at h r.point ≡ pos 0) i p))
      (below e.high w H.high (subst (λ (r : Vertex). form_at h r.point ≡ pos 0) j q))

  meet-below : (m : PlaneMeet) (y : SpacePoint) → Meets C h m y → form_at h y ≡ pos 0 → IsAtMostNought f y
  meet-below (meets_vertex k) y m on = vertex-below k y m on
  meet-below (meets_edge k) y m on = edge-below k y m.0 m.1

  module _ (y : SpacePoint) (on : form_at h y ≡ pos 0) (F : IsFlatIn s h y) where
    -- each way in the plane comes to a point where the form is at most nought
    way-below : (d : Vector) → IsDirection d → slope h d ≡ pos 0 → (z : SpacePoint) × SameDirection (toward y z) d × IsAtMostNought f z
    way-below d some level =
        let W = flat_way-end s 2 y d (omega arith) F.0 some ((F.1 d).1 level) in
        let z = W.at_place in
        let on-z = plane-ahead h y z d W.is_ahead level on in
        let m = end-meets s C S h y z (direction-left (toward y z) d W.is_ahead) F.0 F.1 W.even_before on-z W.drops in
        (z, W.is_ahead, meet-below m.0 z m.1 on-z)

    both-below : (d : Vector) → IsDirection d → slope h d ≡ pos 0 → IsAtMostNought f y
    both-below d some level =
        let u = way-below d some level in
        let v = way-below (opposite d) (direction-opposite d some) (opposite-level h d level) in
        let b = SameDirection-trans (toward u.0 y) (opposite d) (toward y v.0) (ahead-back y u.0 d u.1) (SameDirection-turned (toward y v.0) (opposite d) v.1) in
        below-between f u.0 y v.0 b u.2 v.2

    by-flat : (d : Vector) × (e : Vector) × IsDirection (cross d e) × Flat s y d × Flat s y e → IsAtMostNought f y
    by-flat (d, e, i, p, q) = both-below d (λ z. i (cross-zero d e z)) ((F.1 d).0 p)

    facet-below : IsAtMostNought f y
    facet-below = by-flat F.0.0

  pub plane-bounded : EachPointOn s C h (IsAtMostNought f)
  plane-bounded = (vertex-below, edge-below, facet-below)

-- ---- bounds of a coordinate
-- coordinate - high, and low - coordinate
abbrev above_form : Coordinate → ℤ → Form
above_form coordinate_x high = form (pos 1) (pos 0) (pos 0) (neg_ℤ high)
above_form coordinate_y high = form (pos 0) (pos 1) (pos 0) (neg_ℤ high)
above_form coordinate_z high = form (pos 0) (pos 0) (pos 1) (neg_ℤ high)

abbrev below_form : Coordinate → ℤ → Form
below_form coordinate_x low = form (neg_ℤ (pos 1)) (pos 0) (pos 0) low
below_form coordinate_y low = form (pos 0) (neg_ℤ (pos 1)) (pos 0) low
below_form coordinate_z low = form (pos 0) (pos 0) (neg_ℤ (pos 1)) low

above-value : (c : Coordinate) (high : ℤ) (p : SpacePoint) → form_at (above_form c high) p ≡ coordinate_of c p -ℤ high *ℤ pos p.w
above-value coordinate_x high p = ring (p.x ∷ p.y ∷ p.z ∷ pos p.w ∷ high ∷ []) (num (pos 1) ⊗ at 0 ⊕ num (pos 0) ⊗ at 1 ⊕ num (pos 0) ⊗ at 2 ⊕ neg (at 4) ⊗ at 3) (at 0 ⊖ at 4 ⊗ at 3) tt
above-value coordinate_y high p = ring (p.x ∷ p.y ∷ p.z ∷ pos p.w ∷ high ∷ []) (num (pos 0) ⊗ at 0 ⊕ num (pos 1) ⊗ at 1 ⊕ num (pos 0) ⊗ at 2 ⊕ neg (at 4) ⊗ at 3) (at 1 ⊖ at 4 ⊗ at 3) tt
above-value coordinate_z high p = ring (p.x ∷ p.y ∷ p.z ∷ pos p.w ∷ high ∷ []) (num (pos 0) ⊗ at 0 ⊕ num (pos 0) ⊗ at 1 ⊕ num (pos 1) ⊗ at 2 ⊕ neg (at 4) ⊗ at 3) (at 2 ⊖ at 4 ⊗ at 3) tt

below-value : (c : Coordinate) (low : ℤ) (p : SpacePoint) → form_at (below_form c low) p ≡ low *ℤ pos p.w -ℤ coordinate_of c p
below-value coordinate_x low p = ring (p.x ∷ p.y ∷ p.z ∷ pos p.w ∷ low ∷ []) (neg (num (pos 1)) ⊗ at 0 ⊕ num (pos 0) ⊗ at 1 ⊕ num (pos 0) ⊗ at 2 ⊕ at 4 ⊗ at 3) (at 4 ⊗ at 3 ⊖ at 0) tt
below-value coordinate_y low p = ring (p.x ∷ p.y ∷ p.z ∷ pos p.w ∷ low ∷ []) (num (pos 0) ⊗ at 0 ⊕ neg (num (pos 1)) ⊗ at 1 ⊕ num (pos 0) ⊗ at 2 ⊕ at 4 ⊗ at 3) (at 4 ⊗ at 3 ⊖ at 1) tt
below-value coordinate_z low p = ring (p.x ∷ p.y ∷ p.z ∷ pos p.w ∷ low ∷ []) (num (pos 0) ⊗ at 0 ⊕ num (pos 0) ⊗ at 1 ⊕ neg (num (pos 1)) ⊗ at 2 ⊕ at 4 ⊗ at 3) (at 4 ⊗ at 3 ⊖ at 2) tt

within-of : (c : Coordinate) (low high : ℤ) (p : SpacePoint) → IsAtMostNought (below_form c low) p → IsAtMostNought (above_form c high) p → IsWithin c low high p
within-of c low high p x y = (
  lower (form_at (below_form c low) p) (low *ℤ pos p.w) (coordinate_of c p) (below-value c low p) x,
  upper (form_at (above_form c high) p) (high *ℤ pos p.w) (coordinate_of c p) (above-value c high p) y,
)
  where
    lower : (f a b : ℤ) → f ≡ a -ℤ b → f ≤ℤ pos 0 → a ≤ℤ b
    lower f a b e l = omega (arith, ints)

    upper : (f a b : ℤ) → f ≡ b -ℤ a → f ≤ℤ pos 0 → b ≤ℤ a
    upper f a b e l = omega (arith, ints)

of-within : (c : Coordinate) (low high : ℤ) (p : SpacePoint) → IsWithin c low high p → IsAtMostNought (below_form c low) p × IsAtMostNought (above_form c high) p
of-within c low high p (x, y) = (
  lower (form_at (below_form c low) p) (low *ℤ pos p.w) (coordinate_of c p) (below-value c low p) x,
  upper (form_at (above_form c high) p) (high *ℤ pos p.w) (coordinate_of c p) (above-value c high p) y,
)
  where
    lower : (f a b : ℤ) → f ≡ a -ℤ b → a ≤ℤ b → f ≤ℤ pos 0
    lower f a b e l = omega (arith, ints)

    upper : (f a b : ℤ) → f ≡ b -ℤ a → b ≤ℤ a → f ≤ℤ pos 0
    upper f a b e l = omega (arith, ints)

-- at equal points, and between two points, a coordinate lies within what bounds it
pub within-same : (c : Coordinate) (low high : ℤ) (p q : SpacePoint) → SamePoint p q → IsWithin c low high p → IsWithin c low high q
within-same c low high p q e i = let x = of-within c low high p i in within-of c low high q (below-same (below_form c low) p q e x.0) (below-same (above_form c high) p q e x.1)

pub within-between : (c : Coordinate) (low high : ℤ) (p r q : SpacePoint) → IsBetween p r q → IsWithin c low high p → IsWithin c low high q → IsWithin c low high r
within-between c low high p r q b i j =
    let x = of-within c low high p i in
    let y = of-within c low high q j in
    within-of c low high r (below-between (below_form c low) p r q b x.0 y.0) (below-between (above_form c high) p r q b x.1 y.1)

pub plane-within : (s : Set) (C : Complex) → Shows s C → (h : Form) (c : Coordinate) (low high : ℤ) → EachVertexOn C h (IsWithin c low high) → EachPointOn s C h (IsWithin c low high)
plane-within s C S h c low high each =
    let x = plane-bounded s C S h (below_form c low) (λ k v a on. (of-within c low high v.point (each k v a on)).0) in
    let y = plane-bounded s C S h (above_form c high) (λ k v a on. (of-within c low high v.point (each k v a on)).1) in (
      λ k p i on. within-of c low high p (x.0 k p i on) (y.0 k p i on),
      λ k p i l. within-of c low high p (x.1 k p i l) (y.1 k p i l),
      λ p on F. within-of c low high p (x.2 p on F) (y.2 p on F),
    )

-- ---- along the upward direction
-- in the closed frame two points are at most 4096 apart along x
x-apart : (p q : SpacePoint) → InClosedFrame p → InClosedFrame q → (q.x *ℤ pos p.w -ℤ p.x *ℤ pos q.w) ≤ℤ (pos 4096 *ℤ pos (p.w * q.w))
x-apart p q i j =
    let high = mul_le_right q.x (pos 2048 *ℤ pos q.w) (pos p.w) (omega (arith, ints)) (let a = j.along_x in omega (arith, ints)) in
    let low = mul_le_right (neg_ℤ (pos 2048) *ℤ pos p.w) p.x (pos q.w) (omega (arith, ints)) (let a = i.along_x in omega (arith, ints)) in
    let u = ring (pos p.w ∷ pos q.w ∷ []) (num (pos 2048) ⊗ at 1 ⊗ at 0) (num (pos 2048) ⊗ (at 0 ⊗ at 1)) tt in
    let v = ring (pos p.w ∷ pos q.w ∷ []) (neg (num (pos 2048)) ⊗ at 0 ⊗ at 1) (neg (num (pos 2048)) ⊗ (at 0 ⊗ at 1)) tt in
    omega (arith, ints)

-- along the upward direction x changes 2^13 times as much as y, and y as much as z
steep : (x y z w : ℤ) → y *ℤ pos 1 -ℤ z *ℤ pos 8192 ≡ pos 0 → z *ℤ pos 67108864 -ℤ x *ℤ pos 1 ≡ pos 0 → pos 0 <ℤ (x *ℤ pos 67108864 +ℤ y *ℤ pos 8192 +ℤ z *ℤ pos 1) → x ≤ℤ (pos 4096 *ℤ w)
    → (pos 0 <ℤ y) × ((pos 2 *ℤ y) ≤ℤ w) × (pos 0 <ℤ z) × ((pos 16384 *ℤ z) ≤ℤ w)
steep x y z w a b f l = (omega (arith, ints), omega (arith, ints), omega (arith, ints), omega (arith, ints))

close-above : (p q : SpacePoint) → InClosedFrame p → InClosedFrame q → SameDirection (toward p q) up → IsCloseAbove p q
close-above p q i j S =
    let r = steep (toward p q).x (toward p q).y (toward p q).z (pos (p.w * q.w)) S.parallel.0 S.parallel.1 S.forward (x-apart p q i j) in
    let y = r.0 in
    let z = r.2 in
    ((omega (arith, ints), r.1), (omega (arith, ints), r.3))

pub stays-close : (p q : SpacePoint) → InClosedFrame p → InClosedFrame q → (IsAhead p up q → IsCloseAbove p q) × (IsAhead p (opposite up) q → IsCloseAbove q p)
stays-close p q i j = (close-above p q i j, λ a. close-above q p j i (ahead-back p q (opposite up) a))
