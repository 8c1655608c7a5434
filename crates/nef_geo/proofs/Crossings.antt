-- Where a ray crosses a plane.
use Rattle.nef_geo.proofs.Prelude.{◌≡◌, ◌≢◌, ℕ, ◌+◌, ◌*◌, ℤ, pos, ◌+ℤ◌, ◌-ℤ◌, ◌*ℤ◌, ◌<ℤ◌, nat_abs, List, [], ◌∷◌, inl, inr, arith, ap, ◌∙◌, ints, SpacePoint, Form, form_at, slope, toward, IsAhead, Vector, dot, IsDirection, none, given, follows, mul_pos, mul_neg, by_order, pos-abs, Poly, at, num, neg, ◌⊕◌, ◌⊖◌, ◌⊗◌, ring, IsCrossing, IsReached, IsReachedBy, IsStretched, point_at, HasOppositeSigns, self-pos}
use Rattle.nef_geo.proofs.Directions.{SameDirection-stretched}
use Rattle.nef_space.proofs.Elementary.{weight-positive, counted-times, times-nought}

-- variables: 0 to 3 the form, 4 to 7 the start, 8 to 10 the direction, 11 and 12 the step, 13 to 16 the point
abbrev all : Form → SpacePoint → Vector → (n m x y z w : ℤ) → List ℤ
all h s d n m x y z w = h.a ∷ h.b ∷ h.c ∷ h.d ∷ s.x ∷ s.y ∷ s.z ∷ pos s.w ∷ d.x ∷ d.y ∷ d.z ∷ n ∷ m ∷ x ∷ y ∷ z ∷ w ∷ []

abbrev slope_poly : Poly
slope_poly = at 0 ⊗ at 8 ⊕ at 1 ⊗ at 9 ⊕ at 2 ⊗ at 10

abbrev form_poly : ℕ → Poly
form_poly i = at 0 ⊗ at i ⊕ at 1 ⊗ at (i + 1) ⊕ at 2 ⊗ at (i + 2) ⊕ at 3 ⊗ at (i + 3)

abbrev reach_poly : ℕ → ℕ → Poly
reach_poly i j = at i ⊗ at 12 ⊕ at 11 ⊗ at j

-- the form at the point
pub form_at-reached : (h : Form) (s : SpacePoint) (d : Vector) (n m x y z w : ℤ) (positive : pos 0 <ℤ w) → IsReachedBy s d n m x y z w
    → form_at h (point_at x y z w positive) ≡ n *ℤ slope h d +ℤ m *ℤ form_at h s
form_at-reached h s d n m x y z w positive r =
    ap (λ (k : ℤ). h.a *ℤ x +ℤ h.b *ℤ y +ℤ h.c *ℤ z +ℤ h.d *ℤ k) (pos-abs w positive)
    ∙ follows (all h s d n m x y z w) (form_poly 13) (at 11 ⊗ slope_poly ⊕ at 12 ⊗ form_poly 4)
    (given (at 0) (at 13) (reach_poly 4 8) r.x_is
    (given (at 1) (at 14) (reach_poly 5 9) r.y_is
    (given (at 2) (at 15) (reach_poly 6 10) r.z_is
    (given (at 3) (at 16) (at 7 ⊗ at 12) r.w_is none)))) tt

-- one coordinate of the way from the start to the point
way : (c d n m w sw x k : ℤ) → k ≡ w → x ≡ c *ℤ m +ℤ n *ℤ d → w ≡ sw *ℤ m → x *ℤ sw -ℤ c *ℤ k ≡ (n *ℤ sw) *ℤ d
way c d n m w sw x k e ex ew =
    follows (c ∷ d ∷ n ∷ m ∷ w ∷ sw ∷ x ∷ k ∷ []) (at 6 ⊗ at 5 ⊖ at 0 ⊗ at 7) ((at 2 ⊗ at 5) ⊗ at 1)
    (given (at 5) (at 6) (at 0 ⊗ at 3 ⊕ at 2 ⊗ at 1) ex
    (given (neg (at 0)) (at 4) (at 5 ⊗ at 3) ew
    (given (neg (at 0)) (at 7) (at 4) e none))) tt

pub IsAhead-reached : (s : SpacePoint) (d : Vector) (n m x y z w : ℤ) (positive : pos 0 <ℤ w) → IsDirection d → pos 0 <ℤ n → IsReachedBy s d n m x y z w → IsAhead s d (point_at x y z w positive)
IsAhead-reached s d n m x y z w positive some p r =
    let k = pos-abs w positive in
    let stretched : IsStretched (toward s (point_at x y z w positive)) d = record {
      factor = n *ℤ pos s.w;
      positive = mul_pos n (pos s.w) p (weight-positive s);
      x_is = way s.x d.x n m w (pos s.w) x (pos (nat_abs w)) k r.x_is r.w_is;
      y_is = way s.y d.y n m w (pos s.w) y (pos (nat_abs w)) k r.y_is r.w_is;
      z_is = way s.z d.z n m w (pos s.w) z (pos (nat_abs w)) k r.z_is r.w_is;
    } in
    SameDirection-stretched (toward s (point_at x y z w positive)) d stretched some

pub IsCrossing-reached : (h : Form) (s : SpacePoint) (d : Vector) (n m x y z w : ℤ) (positive : pos 0 <ℤ w) → IsDirection d → pos 0 <ℤ n → IsReachedBy s d n m x y z w
    → n *ℤ slope h d +ℤ m *ℤ form_at h s ≡ pos 0 → slope h d ≢ pos 0 → IsCrossing s d h (point_at x y z w positive)
IsCrossing-reached h s d n m x y z w positive some p r balance passes = record {
  on = form_at-reached h s d n m x y z w positive r ∙ balance;
  ahead = IsAhead-reached s d n m x y z w positive some p r;
  passes = passes;
}

-- ---- the step
pos_times : (m : ℤ) (k : ℕ) → pos 0 <ℤ m → pos (nat_abs m * k) ≡ m *ℤ pos k
pos_times m k p = counted-times (nat_abs m) k ∙ ap (λ (n : ℤ). n *ℤ pos k) (pos-abs m p)

-- one coordinate
at_step : (c d n m w sw x k b l : ℤ) → k ≡ w → b ≡ m *ℤ sw → l ≡ sw *ℤ b → x ≡ c *ℤ m +ℤ n *ℤ d → w ≡ sw *ℤ m → x *ℤ l ≡ (c *ℤ b +ℤ n *ℤ sw *ℤ d) *ℤ k
at_step c d n m w sw x k b l ek eb el ex ew =
    rw (ek, el, eb, ew, ex)
    (ring (c ∷ d ∷ n ∷ m ∷ sw ∷ []) ((at 0 ⊗ at 3 ⊕ at 2 ⊗ at 1) ⊗ (at 4 ⊗ (at 3 ⊗ at 4))) ((at 0 ⊗ (at 3 ⊗ at 4) ⊕ at 2 ⊗ at 4 ⊗ at 1) ⊗ (at 4 ⊗ at 3)) tt)

pub IsReached-by : (s : SpacePoint) (d : Vector) (n m x y z w : ℤ) (positive : pos 0 <ℤ w) (below : pos 0 <ℤ m) → IsReachedBy s d n m x y z w → IsReached s d n m below (point_at x y z w positive)
IsReached-by s d n m x y z w positive below r =
    let ek = pos-abs w positive in
    let eb = pos_times m s.w below in
    let el : pos (s.w * (nat_abs m * s.w)) ≡ pos s.w *ℤ pos (nat_abs m * s.w) = omega (arith, ints) in
    record {
      along_x = at_step s.x d.x n m w (pos s.w) x _ _ _ ek eb el r.x_is r.w_is;
      along_y = at_step s.y d.y n m w (pos s.w) y _ _ _ ek eb el r.y_is r.w_is;
      along_z = at_step s.z d.z n m w (pos s.w) z _ _ _ ek eb el r.z_is r.w_is;
    }

-- ---- a ray that crosses a plane approaches it
balanced_signs : (t k v g : ℤ) → pos 0 <ℤ t → pos 0 <ℤ k → t *ℤ g +ℤ k *ℤ v ≡ pos 0 → g ≢ pos 0 → HasOppositeSigns v g
balanced_signs t k v g pt pk e some =
    by_order g (pos 0)
    (λ n. let m : (t *ℤ g) <ℤ pos 0 = mul_neg t g pt n in
    by_order v (pos 0)
    (λ l. absurd (let i : (k *ℤ v) <ℤ pos 0 = mul_neg k v pk l in omega (arith, ints)))
    (λ z. absurd (let i : k *ℤ v ≡ pos 0 = ap (λ r. k *ℤ r) z ∙ times-nought k in omega (arith, ints)))
    (λ l. inr (l, n)))
    (λ z. absurd (some z))
    (λ p. let m : pos 0 <ℤ (t *ℤ g) = mul_pos t g pt p in
    by_order v (pos 0)
    (λ l. inl (l, p))
    (λ z. absurd (let i : k *ℤ v ≡ pos 0 = ap (λ r. k *ℤ r) z ∙ times-nought k in omega (arith, ints)))
    (λ l. absurd (let i : pos 0 <ℤ (k *ℤ v) = mul_pos k v pk l in omega (arith, ints))))

-- variables: 0 to 3 the form, 4 to 7 the start, 8 to 10 the direction, 11 to 14 the point
abbrev way_poly : ℕ → Poly
way_poly i = at (11 + i) ⊗ at 7 ⊖ at (4 + i) ⊗ at 14

abbrev square_poly : Poly
square_poly = at 8 ⊗ at 8 ⊕ at 9 ⊗ at 9 ⊕ at 10 ⊗ at 10

abbrev forward_poly : Poly
forward_poly = way_poly 0 ⊗ at 8 ⊕ way_poly 1 ⊗ at 9 ⊕ way_poly 2 ⊗ at 10

pub opposite-crossing : (h : Form) (s : SpacePoint) (d : Vector) (q : SpacePoint) → IsDirection d → IsCrossing s d h q → HasOppositeSigns (form_at h s) (slope h d)
opposite-crossing h s d q some c =
    let t = toward s q in
    let cx : t.y *ℤ d.z -ℤ t.z *ℤ d.y ≡ pos 0 = c.ahead.parallel.0 in
    let cy : t.z *ℤ d.x -ℤ t.x *ℤ d.z ≡ pos 0 = c.ahead.parallel.1 in
    let cz : t.x *ℤ d.y -ℤ t.y *ℤ d.x ≡ pos 0 = c.ahead.parallel.2 in
    let o = num (pos 0) in
    balanced_signs (dot t d) (dot d d *ℤ pos q.w) (form_at h s) (slope h d) c.ahead.forward (mul_pos (dot d d) (pos q.w) (self-pos d some) (weight-positive q))
    (follows (h.a ∷ h.b ∷ h.c ∷ h.d ∷ s.x ∷ s.y ∷ s.z ∷ pos s.w ∷ d.x ∷ d.y ∷ d.z ∷ q.x ∷ q.y ∷ q.z ∷ pos q.w ∷ [])
    (forward_poly ⊗ slope_poly ⊕ (square_poly ⊗ at 14) ⊗ form_poly 4) o
    (given (square_poly ⊗ at 7) (form_poly 11) o c.on
    (given (at 2 ⊗ at 9 ⊖ at 1 ⊗ at 10) (way_poly 1 ⊗ at 10 ⊖ way_poly 2 ⊗ at 9) o cx
    (given (at 0 ⊗ at 10 ⊖ at 2 ⊗ at 8) (way_poly 2 ⊗ at 8 ⊖ way_poly 0 ⊗ at 10) o cy
    (given (at 1 ⊗ at 8 ⊖ at 0 ⊗ at 9) (way_poly 0 ⊗ at 9 ⊖ way_poly 1 ⊗ at 8) o cz none)))) tt)
    c.passes
