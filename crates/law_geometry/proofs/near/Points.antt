-- Segments of points and of directions: what is settled along them, and the first change.
use Rattle.law_geometry.proofs.near.Prelude.{◌≡◌, ℕ, zero, suc, ◌+◌, ◌*◌, ◌<◌, ◌≤◌, ℤ, pos, ◌+ℤ◌, ◌-ℤ◌, ◌*ℤ◌, ◌<ℤ◌, nat_abs, arith, refl, ap, sym, ◌∙◌, ◌⊎◌, inl, inr, ⊎_elim, ◌↔◌, List, ◌∷◌, subst, [], ints, mul-pos, le-mul_of_pos_right, ring, at, num, ◌⊕◌, ◌⊖◌, ◌⊗◌, follows, given, none, sign, cancel_lt, cancel_eq, abs-pos, each, lies-each, Vector, vector, dot, blend, SpacePoint, Form, NearNumber, Within, SamePoint, IsBetween, of_point, of_direction, direction_form, homogeneous, IsOnSegment, OnWay, IsPassed, sign_at}
use Rattle.nef_space.proofs.Order.{Lies}
use Rattle.law_geometry.proofs.near.Sums.{Homogeneous, SameUpToFactor, IsMixed, OnSegment, same-refl, same-sym, sign-same, mixed-same, on-same, on-start, on-mixed, on-convex, form-direction}
use Rattle.law_geometry.proofs.near.Mixed.{between-is, point-factor, factor-point, on-points}
use Rattle.law_geometry.proofs.near.Segment.{SettledToward, Cells, Settled, settled-segment}
use Rattle.law_geometry.proofs.near.FirstVector.{Change, ChangeAt, change-at, DecidedOnSegment, first-change_or, first-change}
use Rattle.nef_space.proofs.Elementary.{counted-positive}

-- ---- vectors of a segment of points are points
weight-one : (x y : ℕ) (i j : ℕ) → 0 < x → 0 < y → 0 < i + j → 0 < i * x + j * y
weight-one x y zero zero a b c = absurd (omega arith)
weight-one x y zero (suc j) a b c = let e = mul-pos {m = suc j} {n = y} (omega arith) b in omega arith
weight-one x y (suc i) j a b c = let e = mul-pos {m = suc i} {n = x} (omega arith) a in omega arith

weight-of : (p q : SpacePoint) (x : Homogeneous) → OnSegment (of_point p) x (of_point q) → pos 0 <ℤ x.w
weight-of p q x m =
    let e = m.sum.is_w in
    let a = weight-one p.w q.w m.i m.j p.proper q.proper m.some in
    let b : pos m.k *ℤ x.w ≡ pos (m.i * p.w + m.j * q.w) = e in
    let c = ring (pos m.k ∷ x.w ∷ []) (at 1 ⊗ at 0) (at 0 ⊗ at 1) tt in
    let d = ring (pos m.k ∷ []) (num (pos 0) ⊗ at 0) (num (pos 0)) tt in
    cancel_lt (pos 0) x.w (pos m.k) (counted-positive m.k m.some_k) (omega (arith, ints))

pub homogeneous-same : (u v : Homogeneous) → u.x ≡ v.x → u.y ≡ v.y → u.z ≡ v.z → u.w ≡ v.w → u ≡ v
homogeneous-same u v a b c d =
    ap (λ r. homogeneous r u.y u.z u.w) a ∙ ap (λ r. homogeneous v.x r u.z u.w) b ∙ ap (λ r. homogeneous v.x v.y r u.w) c ∙ ap (λ r. homogeneous v.x v.y v.z r) d

-- the point that a vector with positive weight is
pub place-is : (x : Homogeneous) → pos 0 <ℤ x.w → (r : SpacePoint) × (of_point r ≡ x)
place-is x h =
    let r : SpacePoint = record { x = x.x; y = x.y; z = x.z; w = nat_abs x.w; proper = abs-pos x.w h } in
    (r, homogeneous-same (of_point r) x refl refl refl (omega (arith, ints)))

-- ---- k r + t is near to r for large k
pub heavy : (m w : ℕ) → 0 < w → 0 < m + 1 * w
heavy m w h = omega arith

abbrev pub mix_point : ℕ → SpacePoint → SpacePoint → SpacePoint
mix_point k r t = record {
  x = pos k *ℤ r.x +ℤ pos 1 *ℤ t.x;
  y = pos k *ℤ r.y +ℤ pos 1 *ℤ t.y;
  z = pos k *ℤ r.z +ℤ pos 1 *ℤ t.z;
  w = k * r.w + 1 * t.w;
  proper = heavy (k * r.w) t.w t.proper;
}

abbrev pub far : SpacePoint → SpacePoint → ℕ
far p q = nat_abs (q.x *ℤ pos p.w -ℤ p.x *ℤ pos q.w) + nat_abs (q.y *ℤ pos p.w -ℤ p.y *ℤ pos q.w) + nat_abs (q.z *ℤ pos p.w -ℤ p.z *ℤ pos q.w)

mix-close-one : (n m v : ℕ) (x y : ℤ) (w : ℕ) → 0 < v → n * nat_abs (y *ℤ pos v -ℤ x *ℤ pos w) < m → NearNumber n (pos m *ℤ x +ℤ pos 1 *ℤ y) (m * v + 1 * w) x v
mix-close-one n m v x y w p h =
    let e = ap (λ r. n * nat_abs r) (ring (pos m ∷ x ∷ y ∷ pos v ∷ pos w ∷ []) ((at 0 ⊗ at 1 ⊕ num (pos 1) ⊗ at 2) ⊗ at 3 ⊖ at 1 ⊗ (at 0 ⊗ at 3 ⊕ num (pos 1) ⊗ at 4)) (at 2 ⊗ at 3 ⊖ at 1 ⊗ at 4) tt) in
    let f = le-mul_of_pos_right {m = v * v} m (mul-pos p p) in
    omega arith

pub mix-close : (n m : ℕ) (p q : SpacePoint) → n * far p q < m → Within n p (mix_point m p q)
mix-close n m p q h = record { along_x = mix-close-one n m p.w p.x q.x q.w p.proper (omega arith); along_y = mix-close-one n m p.w p.y q.y q.w p.proper (omega arith); along_z = mix-close-one n m p.w p.z q.z q.w p.proper (omega arith) }

-- ---- predicates on points
module _ (hs : List Form) (P : SpacePoint → Type 0) (p q : SpacePoint) where
  -- points of the segment with the same signs agree on P
  abbrev pub PointCells : Type 0
  PointCells = (r s : SpacePoint) → IsOnSegment p r q → IsOnSegment p s q → ((h : Form) → Lies hs h → sign_at h r ≡ sign_at h s) → P r → P s

  -- each point of the segment agrees on P with the points of the segment near it
  abbrev pub PointSettled : Type 0
  PointSettled = (r : SpacePoint) → IsOnSegment p r q → (n : ℕ) × (0 < n) × ((s : SpacePoint) → IsOnSegment p s q → Within n r s → P r ↔ P s)

  abbrev pub PointDecided : Type 0
  PointDecided = (r : SpacePoint) → IsOnSegment p r q → P r ⊎ (P r → ⊥)

  -- all points that the vector is have P
  abbrev Q : Homogeneous → Type 0
  Q v = (r : SpacePoint) → SameUpToFactor (of_point r) v → P r

  abbrev On : Homogeneous → Type 0
  On x = OnSegment (of_point p) x (of_point q)

  place-on : (r : SpacePoint) (x : Homogeneous) → On x → SameUpToFactor (of_point r) x → IsOnSegment p r q
  place-on r x m s = on-points p r q (on-same (of_point p) x (of_point q) (of_point r) s m)

  module _ (C : PointCells) where
    -- on the segment P doesn't see a factor
    same-p : (r s : SpacePoint) → On (of_point r) → SamePoint s r → P r → P s
    same-p r s m e x = C r s (on-points p r q m) (place-on s (of_point r) m (point-factor s r e)) (λ h l. sign-same h (of_point r) (of_point s) (same-sym (of_point s) (of_point r) (point-factor s r e))) x

    p-to-q : (r : SpacePoint) → On (of_point r) → P r → Q (of_point r)
    p-to-q r m x s e = same-p r s m (factor-point s r e) x

    q-to-p : (r : SpacePoint) → Q (of_point r) → P r
    q-to-p r f = f r (same-refl (of_point r))

    cells-q : Cells hs Q (of_point p) (of_point q)
    cells-q x y a b e f s g =
        let u = place-is x (weight-of p q x a) in
        let i : SameUpToFactor (of_point u.0) x = subst (SameUpToFactor (of_point u.0)) u.1 (same-refl (of_point u.0)) in
        C u.0 s (place-on u.0 x a i) (place-on s y b g) (λ h l. sign-same h (of_point u.0) x i ∙ e h l ∙ sym (sign-same h (of_point s) y g)) (f u.0 i)

    settled-places : PointSettled → (r t : SpacePoint) → On (of_point r) → On (of_point t) → SettledToward Q (of_point r) (of_point t)
    settled-places S r t a b =
        let n = S r (on-points p r q a) in (
          n.0 * far r t + 1,
          λ k l.
              let m = mix_point k r t in
              let c = mix-close n.0 k r t (omega arith) in
              let o = on-mix k r t a b in
              let i = n.2 m (on-points p m q o) c in
              (λ f. p-to-q m o (i.0 (q-to-p r f)), λ f. p-to-q r a (i.1 (q-to-p m f))),
        )
      where
        on-mix : (k : ℕ) (r t : SpacePoint) → On (of_point r) → On (of_point t) → On (of_point (mix_point k r t))
        on-mix k r t a b = on-convex (of_point p) (of_point q) (of_point r) (of_point t) (of_point (mix_point k r t)) a b
            (record { k = 1; i = k; j = 1; some_k = omega arith; some = omega arith; sum = record { is_x = omega (arith, ints); is_y = omega (arith, ints); is_z = omega (arith, ints); is_w = omega (arith, ints) } })

    settled-q : PointSettled → Settled hs Q (of_point p) (of_point q)
    settled-q S x y a b =
        let u = place-is x (weight-of p q x a) in
        let v = place-is y (weight-of p q y b) in
        subst (λ (z : Homogeneous). SettledToward Q z y) u.1
        (subst (λ (z : Homogeneous). SettledToward Q (of_point u.0) z) v.1
        (settled-places S u.0 v.0 (subst On (sym u.1) a) (subst On (sym v.1) b)))

    decided-q : PointDecided → DecidedOnSegment hs Q (of_point p) (of_point q)
    decided-q D x a =
        let u = place-is x (weight-of p q x a) in
        let m : On (of_point u.0) = subst On (sym u.1) a in
        subst (λ (z : Homogeneous). Q z ⊎ (Q z → ⊥)) u.1 (⊎_elim (λ y. inl (p-to-q u.0 m y)) (λ f. inr (λ g. f (q-to-p u.0 g))) (D u.0 (on-points p u.0 q m)))

    -- WHAT IS SETTLED ALONG A SEGMENT OF POINTS IS THE SAME AT BOTH ENDS
    pub settled-segment_points : PointSettled → P p → P q
    settled-segment_points S x = q-to-p q (settled-segment hs Q (of_point p) (of_point q) cells-q (settled-q S) (p-to-q p (on-start (of_point p) (of_point q)) x))

-- P holds at all points strictly between p and the point, and changes there: it fails, or holds and fails strictly between it and a later point
pub record PointChange (P : SpacePoint → Type 0) (p q : SpacePoint) : Type 0 where
  pub place : SpacePoint
  pub on : IsOnSegment p place q
  pub before : (r : SpacePoint) → IsBetween p r place → P r
  pub change : (P place → ⊥) ⊎ (P place × ((z : SpacePoint) × IsOnSegment p z q × IsOnSegment p place z × (SamePoint place z → ⊥) × ((r : SpacePoint) → IsBetween place r z → P r → ⊥)))

module _ (hs : List Form) (P : SpacePoint → Type 0) (p q : SpacePoint) (C : PointCells hs P p q) (D : PointDecided hs P p q) where
  abbrev R : Homogeneous → Type 0
  R = Q hs P p q

  abbrev Later : SpacePoint → Type 0
  Later r = (z : SpacePoint) × IsOnSegment p z q × IsOnSegment p r z × (SamePoint r z → ⊥) × ((s : SpacePoint) → IsBetween r s z → P s → ⊥)

  twice : (r : Homogeneous) → IsMixed r r r
  twice r = record { k = 2; i = 1; j = 1; some_k = omega arith; some_i = omega arith; some_j = omega arith; sum = record { is_x = omega (arith, ints); is_y = omega (arith, ints); is_z = omega (arith, ints); is_w = omega (arith, ints) } }

  later : (r z : SpacePoint) → On hs P p q (of_point r) → P r → On hs P p q (of_point z) → OnSegment (of_point p) (of_point r) (of_point z) → ((s : Homogeneous) → IsMixed (of_point r) s (of_point z) → R s → ⊥) → Later r
  later r z m x a b f = (
    z,
    on-points p z q a,
    on-points p r z b,
    λ e. f (of_point r) (mixed-same (of_point r) (of_point r) (of_point r) (of_point r) (of_point r) (of_point z) (same-refl (of_point r)) (same-refl (of_point r)) (point-factor r z e) (twice (of_point r))) (p-to-q hs P p q C r m x),
    λ s c y.
        let t = ((between-is r s z).0 c).0 in
        f (of_point s) t (p-to-q hs P p q C s (on-convex (of_point p) (of_point q) (of_point r) (of_point z) (of_point s) m a (on-mixed (of_point r) (of_point s) (of_point z) t)) y),
  )

  made : (r : SpacePoint) → ChangeAt R (of_point p) (of_point r) (of_point q) → PointChange P p q
  made r c = record {
    place = r;
    on = on-points p r q c.on;
    before = λ s b. q-to-p hs P p q C s (c.before (of_point s) ((between-is p s r).0 b).0);
    change = ⊎_elim (λ f. inl (λ x. f (p-to-q hs P p q C r c.on x)))
        (λ g.
        let t = g.1 in
        let z = place-is t.0 (weight-of p q t.0 t.1) in
        let x = q-to-p hs P p q C r g.0 in
        inr (
          x,
          later r z.0 c.on x (subst (On hs P p q) (sym z.1) t.1) (subst (λ (v : Homogeneous). OnSegment (of_point p) (of_point r) v) (sym z.1) t.2)
              (subst (λ (v : Homogeneous). (s : Homogeneous) → IsMixed (of_point r) s v → R s → ⊥) (sym z.1) t.3),
        )) c.change;
  }

  placed : Change R (of_point p) (of_point q) → PointChange P p q
  placed d =
      let u = place-is d.vector (weight-of p q d.vector d.on) in
      made u.0 (subst (λ (z : Homogeneous). ChangeAt R (of_point p) z (of_point q)) (sym u.1) (change-at R (of_point p) (of_point q) d))

  -- P holds strictly between p and q, or there is a first point at which it changes
  pub first-change_or_points : P p → ((r : SpacePoint) → IsBetween p r q → P r) ⊎ PointChange P p q
  first-change_or_points x = ⊎_elim
      (λ f. inl (λ r b. q-to-p hs P p q C r (f (of_point r) ((between-is p r q).0 b).0)))
      (λ d. inr (placed d))
      (first-change_or hs R (of_point p) (of_point q) (decided-q hs P p q C D) (cells-q hs P p q C) (p-to-q hs P p q C p (on-start (of_point p) (of_point q)) x))

  -- THE FIRST CHANGE ALONG A SEGMENT OF POINTS
  pub first-change_points : P p → (P q → ⊥) → PointChange P p q
  first-change_points x f =
      placed (first-change hs R (of_point p) (of_point q) (decided-q hs P p q C D) (cells-q hs P p q C) (p-to-q hs P p q C p (on-start (of_point p) (of_point q)) x) (λ g. f (q-to-p hs P p q C q g)))

-- ---- predicates on directions: the segment from d to e is the way along the great circle, i d + j e
abbrev pub direction_part : Homogeneous → Vector
direction_part v = vector v.x v.y v.z

module _ (ns : List Vector) (P : Vector → Type 0) (d e : Vector) where
  -- directions of the way with the same signs agree on P
  abbrev pub WayCells : Type 0
  WayCells = (r s : Vector) → OnWay d r e → OnWay d s e → ((n : Vector) → Lies ns n → sign (dot n r) ≡ sign (dot n s)) → P r → P s

  -- the truth of P at each direction r of the way is that at k r + s for large k, for each s of the way
  abbrev pub WaySettled : Type 0
  WaySettled = (r s : Vector) → OnWay d r e → OnWay d s e → (n : ℕ) × ((k : ℕ) → n ≤ k → P r ↔ P (blend k r 1 s))

  abbrev W : Homogeneous → Type 0
  W v = P (direction_part v)

  on-way : (x : Homogeneous) → OnSegment (of_direction d) x (of_direction e) → OnWay d (direction_part x) e
  on-way x m = record { k = m.k; i = m.i; j = m.j; some_k = m.some_k; some = m.some; sum = record { is_x = m.sum.is_x; is_y = m.sum.is_y; is_z = m.sum.is_z; is_w = omega (arith, ints) } }

  cells-w : WayCells → Cells (each direction_form ns) W (of_direction d) (of_direction e)
  cells-w C x y a b s = C (direction_part x) (direction_part y) (on-way x a) (on-way y b) (λ n l. ap sign (sym (form-direction n x)) ∙ s (direction_form n) (lies-each direction_form ns n l) ∙ ap sign (form-direction n y))

  -- WHAT IS SETTLED ALONG A WAY IS THE SAME AT BOTH ENDS
  pub settled-segment_ways : WayCells → WaySettled → P d → P e
  settled-segment_ways C S = settled-segment (each direction_form ns) W (of_direction d) (of_direction e) (cells-w C) (λ x y a b. S (direction_part x) (direction_part y) (on-way x a) (on-way y b))

-- P holds at all directions strictly between d and the direction, and changes there
pub record WayChange (P : Vector → Type 0) (d e : Vector) : Type 0 where
  pub direction : Vector
  pub on : OnWay d direction e
  pub before : (r : Vector) → IsPassed d r direction → P r
  pub change : (P direction → ⊥) ⊎ (P direction × ((z : Vector) × OnWay d z e × OnWay d direction z × ((r : Vector) → IsPassed direction r z → P r → ⊥)))

module _ (ns : List Vector) (P : Vector → Type 0) (d e : Vector) (C : WayCells ns P d e) (D : (r : Vector) → OnWay d r e → P r ⊎ (P r → ⊥)) where
  weightless : (x : Homogeneous) → OnSegment (of_direction d) x (of_direction e) → x.w ≡ pos 0
  weightless x m =
      let a = m.sum.is_w in
      cancel_eq x.w (pos 0) (pos m.k) (counted-positive m.k m.some_k) (follows (x.w ∷ pos m.k ∷ pos m.i ∷ pos m.j ∷ []) (at 0 ⊗ at 1) (num (pos 0) ⊗ at 1)
      (given (num (pos 1)) (at 1 ⊗ at 0) (at 2 ⊗ num (pos 0) ⊕ at 3 ⊗ num (pos 0)) a none) tt)

  abbrev W' : Homogeneous → Type 0
  W' = W ns P d e

  made-way : (v : Vector) → ChangeAt W' (of_direction d) (of_direction v) (of_direction e) → WayChange P d e
  made-way v c = record {
    direction = v;
    on = c.on;
    before = λ r b. c.before (of_direction r) b;
    change = ⊎_elim (λ f. inl f)
        (λ g.
        let t = g.1 in
        let z = homogeneous-same (of_direction (direction_part t.0)) t.0 refl refl refl (sym (weightless t.0 t.1)) in
        inr (
          g.0,
          (
            direction_part t.0,
            subst (λ (u : Homogeneous). OnSegment (of_direction d) u (of_direction e)) (sym z) t.1,
            subst (λ (u : Homogeneous). OnSegment (of_direction d) (of_direction v) u) (sym z) t.2,
            λ r b x. subst (λ (u : Homogeneous). (s : Homogeneous) → IsMixed (of_direction v) s u → W' s → ⊥) (sym z) t.3 (of_direction r) b x,
          ),
        )) c.change;
  }

  -- THE FIRST CHANGE ALONG A WAY
  pub first-change_ways : P d → (P e → ⊥) → WayChange P d e
  first-change_ways x f =
      let c = first-change (each direction_form ns) W' (of_direction d) (of_direction e) (λ r a. D (direction_part r) (on-way ns P d e r a)) (cells-w ns P d e C) x f in
      let z = homogeneous-same (of_direction (direction_part c.vector)) c.vector refl refl refl (sym (weightless c.vector c.on)) in
      made-way (direction_part c.vector) (subst (λ (u : Homogeneous). ChangeAt W' (of_direction d) u (of_direction e)) (sym z) (change-at W' (of_direction d) (of_direction e) c))
