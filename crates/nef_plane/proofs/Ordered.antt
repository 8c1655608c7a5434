-- The vertices of a plane stand in order of the coordinate that the plane's axis keeps, and a ray from one of them meets what lies on one side of it.
use Rattle.nef_plane.proofs.Prelude.{◌≡◌, ℕ, ◌≤◌, pos, ◌-ℤ◌, ◌*ℤ◌, ◌<ℤ◌, ◌≤ℤ◌, arith, Bool, true, false, ◌&&◌, inl, inr, ⊎_elim, refl, sym, ap, ◌∙◌, subst, cond, [], ◌∷◌, eq-or-lt_of_le, int_eq, Decides-int_eq, ints, sign, by_order, mul_pos, mul_neg, mul_nonneg, sign-plus, sign-minus, plus-is, minus-is, ring, at, num, ◌⊖◌, ◌⊗◌, SpacePoint, Form, form_at, slope, toward, SamePoint, IsAhead, IsBetween, IsPointBelow, Set, Vector, vector, dot, form_of, point_of, Plane, slope-toward, point-toward, slope-same, IsAt, is-at_one, map-is_at, Shows, through-at, through-slope, plane-way, Vertex, Complex, vertex_of, complex_of, plus-of, positive-factor, IsSwept, sweep_axis, sweep_form, dot-zero}
use Rattle.nef_space.proofs.Elementary.{weight-positive, same-itself}

-- ---- points strictly between two others
module _ (k : Form) (a q b : SpacePoint) (w : IsBetween a q b) where
  -- aren't past both
  pub between-at_most : form_at k a ≤ℤ pos 0 → form_at k b ≤ℤ pos 0 → form_at k q ≤ℤ pos 0
  between-at_most i j = by_order (form_at k q) (pos 0) (λ l. omega (arith, ints)) (λ l. omega (arith, ints))
      (λ l. absurd (
      let x = mul_pos (pos a.w) (form_at k q) (weight-positive a) l in
      let y = mul_nonneg (pos q.w) (pos 0 -ℤ form_at k a) (omega (arith, ints)) (omega (arith, ints)) in
      let z = mul_nonneg (pos q.w) (pos 0 -ℤ form_at k b) (omega (arith, ints)) (omega (arith, ints)) in
      let t = mul_pos (pos b.w) (form_at k q) (weight-positive b) l in
      let y' = ring (pos q.w ∷ form_at k a ∷ []) (at 0 ⊗ (num (pos 0) ⊖ at 1)) (num (pos 0) ⊖ at 0 ⊗ at 1) tt in
      let z' = ring (pos q.w ∷ form_at k b ∷ []) (at 0 ⊗ (num (pos 0) ⊖ at 1)) (num (pos 0) ⊖ at 0 ⊗ at 1) tt in
      let e = slope-toward k a q in
      let f = slope-toward k q b in
      let m = plus-is (slope k (toward q b)) (sym (slope-same k (toward a q) (toward q b) w) ∙ sign-plus (slope k (toward a q)) (omega (arith, ints))) in
      omega (arith, ints)))

  -- nor before both
  pub between-at_least : pos 0 ≤ℤ form_at k a → pos 0 ≤ℤ form_at k b → pos 0 ≤ℤ form_at k q
  between-at_least i j = by_order (form_at k q) (pos 0)
      (λ l. absurd (
      let x = mul_neg (pos a.w) (form_at k q) (weight-positive a) l in
      let y = mul_nonneg (pos q.w) (form_at k a) (omega (arith, ints)) i in
      let z = mul_nonneg (pos q.w) (form_at k b) (omega (arith, ints)) j in
      let t = mul_neg (pos b.w) (form_at k q) (weight-positive b) l in
      let e = slope-toward k a q in
      let f = slope-toward k q b in
      let m = minus-is (slope k (toward q b)) (sym (slope-same k (toward a q) (toward q b) w) ∙ sign-minus (slope k (toward a q)) (omega (arith, ints))) in
      omega (arith, ints)))
      (λ l. omega (arith, ints)) (λ l. omega (arith, ints))

-- ---- the sweep coordinate
module _ (h : Plane) (p : SpacePoint) where
  abbrev e : Vector
  e = sweep_axis (form_of h)

  abbrev k : Form
  k = sweep_form (form_of h) p

  pub start-level : form_at k p ≡ pos 0
  start-level = through-at e p p ∙ dot-zero e (toward p p) (point-toward p p (same-itself p))

  module _ (d : Vector) (q : SpacePoint) (w : IsAhead p d q) where
    way : sign (slope k (toward p q)) ≡ sign (slope k d)
    way = slope-same k (toward p q) d w

    -- what is ahead is past the start, where the ray goes on in the coordinate
    pub ahead-past : pos 0 <ℤ dot e d → pos 0 <ℤ form_at k q
    ahead-past l =
        let m = mul_pos (pos p.w) (dot e d) (weight-positive p) l in
        let i = plus-is (slope k (toward p q)) (way ∙ sign-plus (slope k d) (subst (λ z. pos 0 <ℤ z) (sym (through-slope e p d)) m)) in
        let r = slope-toward k p q in
        let n = ap (λ z. pos q.w *ℤ z) start-level in
        let o = ring (pos q.w ∷ []) (at 0 ⊗ num (pos 0)) (num (pos 0)) tt in
        plus-of (pos p.w) (form_at k q) (weight-positive p) (omega (arith, ints))

    -- and before it, where the ray goes back
    pub ahead-before : dot e d <ℤ pos 0 → form_at k q <ℤ pos 0
    ahead-before l =
        let m = mul_neg (pos p.w) (dot e d) (weight-positive p) l in
        let i = minus-is (slope k (toward p q)) (way ∙ sign-minus (slope k d) (subst (λ z. z <ℤ pos 0) (sym (through-slope e p d)) m)) in
        let r = slope-toward k p q in
        let n = ap (λ z. pos q.w *ℤ z) start-level in
        let o = ring (pos q.w ∷ []) (at 0 ⊗ num (pos 0)) (num (pos 0)) tt in
        by_order (form_at k q) (pos 0) (λ x. x)
        (λ x. absurd (let y = ap (λ z. pos p.w *ℤ z) x in let u = ring (pos p.w ∷ []) (at 0 ⊗ num (pos 0)) (num (pos 0)) tt in omega (arith, ints)))
        (λ x. absurd (let y = mul_pos (pos p.w) (form_at k q) (weight-positive p) x in omega (arith, ints)))

-- the form of a line changes with that coordinate
pub swept : (h : Form) (p : SpacePoint) → IsSwept h (sweep_form h p)
swept h p = (pos p.w, weight-positive p, through-slope (sweep_axis h) p)

-- ---- vertices of a plane
module _ (s : Set) (c : Complex) (S : Shows s (complex_of c)) (h : Plane) (k : Form) (K : IsSwept (form_of h) k) (i j : ℕ) (u v : Vertex) (a : IsAt c.vertices i u) (b : IsAt c.vertices j v)
    (on_u : form_at (form_of h) (point_of u.point) ≡ pos 0) (on_v : form_at (form_of h) (point_of v.point) ≡ pos 0) (l : i ≤ j) where
  abbrev U : SpacePoint
  U = point_of u.point

  abbrev V : SpacePoint
  V = point_of v.point

  abbrev t : Vector
  t = toward U V

  below-x : IsPointBelow U V → pos 0 ≤ℤ t.x
  below-x (inl m) = omega (arith, ints)
  below-x (inr (m, n)) = omega (arith, ints)

  below-y : IsPointBelow U V → t.x ≡ pos 0 → pos 0 ≤ℤ t.y
  below-y (inl m) z = absurd (omega (arith, ints))
  below-y (inr (m, inl n)) z = omega (arith, ints)
  below-y (inr (m, inr (n, o))) z = omega (arith, ints)

  -- a plane that keeps the first coordinate
  upright : h.c ≡ pos 0 → h.b ≡ pos 0 → t.x ≡ pos 0
  upright f g =
      let n = h.normal in
      let r : slope (form_of h) t ≡ pos 0 = plane-way (form_of h) U V on_u on_v in
      let x = ap (λ z. z *ℤ t.y) g in
      let y = ap (λ z. z *ℤ t.z) f in
      let some : pos 0 <ℤ h.a = by_order h.a (pos 0) (λ m. absurd (let o = n.first in omega (arith, ints))) (λ m. absurd (let o = n.third m g in omega (arith, ints))) (λ m. m) in
      positive-factor h.a t.x some (omega (arith, ints))

  in-order : IsPointBelow U V → (x y : Bool) → int_eq h.c (pos 0) ≡ x → int_eq h.b (pos 0) ≡ y → pos 0 ≤ℤ dot (cond (x && y) (vector (pos 0) (pos 1) (pos 0)) (vector (pos 1) (pos 0) (pos 0))) t
  in-order m true true f g = let z = below-y m (upright ((Decides-int_eq h.c (pos 0)).0 f) ((Decides-int_eq h.b (pos 0)).0 g)) in omega (arith, ints)
  in-order m true false f g = let z = below-x m in omega (arith, ints)
  in-order m false y f g = let z = below-x m in omega (arith, ints)

  same-zero : u ≡ v → pos 0 ≤ℤ dot (sweep_axis (form_of h)) t
  same-zero o = let z = dot-zero (sweep_axis (form_of h)) t (point-toward U V (subst (λ (r : Vertex). SamePoint U (point_of r.point)) o (same-itself U))) in omega (arith, ints)

  pub sweep-order : pos 0 ≤ℤ dot (sweep_axis (form_of h)) t
  sweep-order = ⊎_elim
      (λ o. same-zero (is-at_one c.vertices j u v (subst (λ n. IsAt c.vertices n u) o a) b))
      (λ o. in-order (S.ordered i j (vertex_of u) (vertex_of v) o (map-is_at vertex_of c.vertices i u a) (map-is_at vertex_of c.vertices j v b)) (int_eq h.c (pos 0)) (int_eq h.b (pos 0)) refl refl)
      (eq-or-lt_of_le {n = i} {m = j} l)

  step : (pos V.w *ℤ form_at k U) ≤ℤ (pos U.w *ℤ form_at k V)
  step =
      let r = slope-toward k U V in
      let o = K.2 t in
      let m = mul_nonneg K.0 (dot (sweep_axis (form_of h)) t) (let x = K.1 in omega (arith, ints)) sweep-order in
      omega (arith, ints)

  -- what comes after a vertex past the line is past it too
  pub later-past : pos 0 <ℤ form_at k U → pos 0 <ℤ form_at k V
  later-past m = let x = mul_pos (pos V.w) (form_at k U) (weight-positive V) m in let y = step in plus-of (pos U.w) (form_at k V) (weight-positive U) (omega (arith, ints))

  pub later-from : pos 0 ≤ℤ form_at k U → pos 0 ≤ℤ form_at k V
  later-from m = by_order (form_at k V) (pos 0)
      (λ o. absurd (let x = mul_nonneg (pos V.w) (form_at k U) (let w = weight-positive V in omega (arith, ints)) m in let y = step in let z = mul_neg (pos U.w) (form_at k V) (weight-positive U) o in omega (arith, ints)))
      (λ o. omega (arith, ints)) (λ o. omega (arith, ints))
