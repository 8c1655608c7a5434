-- A coordinate that hardly changes along a direction changes by less than one within the frame.
use Rattle.nef_plane.proofs.Prelude.{◌≡◌, ℕ, ◌+◌, ◌*◌, ◌<◌, ◌≤◌, ℤ, pos, neg_ℤ, ◌-ℤ◌, ◌*ℤ◌, ◌<ℤ◌, nat_abs, arith, true, ◌⊎◌, ◌↔◌, ⊎_elim, sym, ap, ◌∙◌, subst, w64, cond, ◌&&◌, List, length, [], ◌∷◌, refl, mul-pos, mul-le-mul_left, mul-le-mul_right, int_eq, cases_lt, Decides-int_eq, ints, unsigned_abs-mul, load, wrap, exact_of, abs_minus, abs_times, ring, at, num, ◌⊕◌, ◌⊖◌, ◌⊗◌, half_side, SpacePoint, Form, form, form_at, toward, InClosedFrame, IsAhead, Vector, vector, dot, form_of, ray_limit, Plane, through-at, through-slope, is-at_within, Vertex, StaysClose, IsCourseFirst, IsCoursePast, shifted_form, IsSwept, sweep_axis, sweep_form}
use Rattle.nef_geo.proofs.Cramer.{difference}
use mir.Val.{to_z, of_z}
use Rattle.nef_plane.proofs.Sweep.{first-swept}

-- ---- sizes
-- a n = b s, where b is at most 4096 m in size and n more than 4096 times s, so a is less than m
less : (a b s n : ℤ) (m : ℕ) → a *ℤ n ≡ b *ℤ s → nat_abs b ≤ 2 * half_side * m → 2 * half_side * nat_abs s < nat_abs n → 0 < m → nat_abs a < m
less a b s n m e l k p = ⊎_elim (λ x. x) (λ x. absurd (never x)) (cases_lt (nat_abs a) m)
  where
    never : m ≤ nat_abs a → ⊥
    never x =
        let f = unsigned_abs-mul a n in
        let g = unsigned_abs-mul b s in
        let h : nat_abs (a *ℤ n) ≡ nat_abs (b *ℤ s) = ap nat_abs e in
        let u : m * nat_abs n ≤ nat_abs a * nat_abs n = mul-le-mul_right (nat_abs n) x in
        let v : m * (2 * half_side * nat_abs s + 1) ≤ m * nat_abs n = mul-le-mul_left m (omega (arith, k)) in
        let w : nat_abs b * nat_abs s ≤ 2 * half_side * m * nat_abs s = mul-le-mul_right (nat_abs s) l in
        omega (arith, f, g, h, u, v, w, p)

-- two points of the closed frame are at most 4096 apart along a coordinate
apart : (x y : ℤ) (v w : ℕ) → nat_abs x ≤ half_side * v → nat_abs y ≤ half_side * w → nat_abs (y *ℤ pos v -ℤ x *ℤ pos w) ≤ 2 * half_side * (v * w)
apart x y v w i j =
    let f = abs_times y (pos v) (half_side * w) v j (omega arith) in
    let g = abs_times x (pos w) (half_side * v) w i (omega arith) in
    let h = abs_minus (y *ℤ pos v) (x *ℤ pos w) (half_side * w * v) (half_side * v * w) f g in
    omega (arith, h)

module _ (p q : SpacePoint) (i : InClosedFrame p) (j : InClosedFrame q) (d : Vector) (a : IsAhead p d q) where
  abbrev t : Vector
  t = toward p q

  x-by-y : 2 * half_side * nat_abs d.x < nat_abs d.y → nat_abs t.x < p.w * q.w
  x-by-y l = less t.x t.y d.x d.y (p.w * q.w) (difference (t.x *ℤ d.y) (t.y *ℤ d.x) a.parallel.2) (apart p.y q.y p.w q.w i.along_y j.along_y) l (mul-pos p.proper q.proper)

  x-by-z : 2 * half_side * nat_abs d.x < nat_abs d.z → nat_abs t.x < p.w * q.w
  x-by-z l = less t.x t.z d.x d.z (p.w * q.w) (sym (difference (t.z *ℤ d.x) (t.x *ℤ d.z) a.parallel.1)) (apart p.z q.z p.w q.w i.along_z j.along_z) l (mul-pos p.proper q.proper)

  y-by-z : 2 * half_side * nat_abs d.y < nat_abs d.z → nat_abs t.y < p.w * q.w
  y-by-z l = less t.y t.z d.y d.z (p.w * q.w) (difference (t.y *ℤ d.z) (t.z *ℤ d.y) a.parallel.0) (apart p.z q.z p.w q.w i.along_z j.along_z) l (mul-pos p.proper q.proper)

pub first-product : (v : Vector) → v.x ≡ dot (vector (pos 1) (pos 0) (pos 0)) v
first-product v = ring (v.x ∷ v.y ∷ v.z ∷ []) (at 0) (num (pos 1) ⊗ at 0 ⊕ num (pos 0) ⊗ at 1 ⊕ num (pos 0) ⊗ at 2) tt

pub second-product : (v : Vector) → v.y ≡ dot (vector (pos 0) (pos 1) (pos 0)) v
second-product v = ring (v.x ∷ v.y ∷ v.z ∷ []) (at 1) (num (pos 0) ⊗ at 0 ⊕ num (pos 1) ⊗ at 1 ⊕ num (pos 0) ⊗ at 2) tt

-- ---- the axes of planes
-- a plane that keeps the first coordinate is swept along the second
pub second-swept : (h : Plane) → h.c ≡ pos 0 → h.b ≡ pos 0 → true ≡ (int_eq h.c (pos 0) && int_eq h.b (pos 0))
second-swept h c b = sym (rw ((Decides-int_eq h.c (pos 0)).1 c, (Decides-int_eq h.b (pos 0)).1 b) refl)

pub close-first : (h : Plane) (d : Vector) → (h.c ≡ pos 0 → h.b ≡ pos 0 → ⊥) → (2 * half_side * nat_abs d.x < nat_abs d.y) ⊎ (2 * half_side * nat_abs d.x < nat_abs d.z) → StaysClose (sweep_axis (form_of h)) d
close-first h d n o =
    subst (λ (e : Vector). StaysClose e d) (ap (λ b. cond b (vector (pos 0) (pos 1) (pos 0)) (vector (pos 1) (pos 0) (pos 0))) (first-swept h n))
    (λ p q i j a. subst (λ (z : ℤ). nat_abs z < p.w * q.w) (first-product (toward p q)) (⊎_elim (x-by-y p q i j d a) (x-by-z p q i j d a) o))

pub close-second : (h : Plane) (d : Vector) → h.c ≡ pos 0 → h.b ≡ pos 0 → 2 * half_side * nat_abs d.y < nat_abs d.z → StaysClose (sweep_axis (form_of h)) d
close-second h d c b l =
    subst (λ (e : Vector). StaysClose e d) (ap (λ b. cond b (vector (pos 0) (pos 1) (pos 0)) (vector (pos 1) (pos 0) (pos 0))) (second-swept h c b))
    (λ p q i j a. subst (λ (z : ℤ). nat_abs z < p.w * q.w) (second-product (toward p q)) (y-by-z p q i j d a l))

-- a test of numbers that are read tells of the numbers
pub outweighed : (t : Type 0) (x y n k : ℤ) → x ≡ n → y ≡ k → nat_abs n ≤ ray_limit → nat_abs k ≤ ray_limit → (t ↔ (2 * half_side * nat_abs (to_z w64 (of_z w64 y)) < nat_abs (to_z w64 (of_z w64 x)))) → t → 2 * half_side * nat_abs k < nat_abs n
outweighed t x y n k e f i j r u =
    subst (λ z. 2 * half_side * nat_abs k < nat_abs z) (exact x n e i) (subst (λ z. 2 * half_side * nat_abs z < nat_abs (to_z w64 (of_z w64 x))) (exact y k f j) (r.0 u))
  where
    exact : (x y : ℤ) → x ≡ y → nat_abs y ≤ ray_limit → to_z w64 (of_z w64 x) ≡ y
    exact x y e l = exact_of (ray_limit ∷ []) (x ∷ []) (wrap w64 (load 0)) (subst (λ r. nat_abs r ≤ ray_limit) (sym e) l, tt) tt ∙ e

-- ---- lines beside a point
pub shifted-at : (h : Form) (p : SpacePoint) (z : ℤ) (q : SpacePoint) → form_at (shifted_form h p z) q ≡ dot (sweep_axis h) (toward p q) -ℤ z *ℤ (pos p.w *ℤ pos q.w)
shifted-at h p z q =
    let k = sweep_form h p in
    subst (λ (r : ℤ). form_at (shifted_form h p z) q ≡ r -ℤ z *ℤ (pos p.w *ℤ pos q.w)) (through-at (sweep_axis h) p q)
    (ring (k.a ∷ k.b ∷ k.c ∷ k.d ∷ z ∷ pos p.w ∷ q.x ∷ q.y ∷ q.z ∷ pos q.w ∷ [])
    (at 0 ⊗ at 6 ⊕ at 1 ⊗ at 7 ⊕ at 2 ⊗ at 8 ⊕ (at 3 ⊖ at 4 ⊗ at 5) ⊗ at 9)
    (at 0 ⊗ at 6 ⊕ at 1 ⊗ at 7 ⊕ at 2 ⊗ at 8 ⊕ at 3 ⊗ at 9 ⊖ at 4 ⊗ (at 5 ⊗ at 9)) tt)

pub shifted-swept : (h : Form) (p : SpacePoint) (z : ℤ) → IsSwept h (shifted_form h p z)
shifted-swept h p z = (pos p.w, (let m = p.proper in omega (arith, ints)), through-slope (sweep_axis h) p)

module _ (vs : List Vertex) (h : Form) (p : SpacePoint) (d : Vector) where
  -- all that the ray meets comes within one of its start
  module _ (z : ℤ) (close : StaysClose (sweep_axis h) d) (i : InClosedFrame p) where
    beyond : (x y : ℤ) (m : ℕ) → x ≡ y -ℤ z *ℤ (pos m) → z ≡ neg_ℤ (pos 1) → nat_abs y < m → pos 0 <ℤ x
    beyond x y m e f l = let g : z *ℤ pos m ≡ neg_ℤ (pos 1) *ℤ pos m = ap (λ r. r *ℤ pos m) f in omega (arith, ints)

    short : (x y : ℤ) (m : ℕ) → x ≡ y -ℤ z *ℤ (pos m) → z ≡ pos 1 → nat_abs y < m → x <ℤ pos 0
    short x y m e f l = let g : z *ℤ pos m ≡ pos 1 *ℤ pos m = ap (λ r. r *ℤ pos m) f in omega (arith, ints)

    pub ahead-beyond : z ≡ neg_ℤ (pos 1) → (q : SpacePoint) → InClosedFrame q → IsAhead p d q → pos 0 <ℤ form_at (shifted_form h p z) q
    ahead-beyond f q j a = beyond (form_at (shifted_form h p z) q) (dot (sweep_axis h) (toward p q)) (p.w * q.w) (shifted-at h p z q) f (close p q i j a)

    pub ahead-short : z ≡ pos 1 → (q : SpacePoint) → InClosedFrame q → IsAhead p d q → form_at (shifted_form h p z) q <ℤ pos 0
    ahead-short f q j a = short (form_at (shifted_form h p z) q) (dot (sweep_axis h) (toward p q)) (p.w * q.w) (shifted-at h p z q) f (close p q i j a)

  -- where nothing is known, all numbers are within
  whole : (z : ℤ) (q : SpacePoint) → form_at (form (pos 0) (pos 0) (pos 0) z) q ≡ z *ℤ pos q.w
  whole z q = ring (z ∷ q.x ∷ q.y ∷ q.z ∷ pos q.w ∷ []) (num (pos 0) ⊗ at 1 ⊕ num (pos 0) ⊗ at 2 ⊕ num (pos 0) ⊗ at 3 ⊕ at 0 ⊗ at 4) (at 0 ⊗ at 4) tt

  pub first-all : (n : ℕ) → n ≡ 0 → IsCourseFirst vs h p d n
  first-all n e = (
    form (pos 0) (pos 0) (pos 0) (pos 1),
    λ q j a. let m = q.proper in let f = whole (pos 1) q in omega (arith, ints),
    λ j v l. absurd (omega (arith, e, l)),
  )

  pub past-all : (n : ℕ) → n ≡ length vs → IsCoursePast vs h p d n
  past-all n e = (
    form (pos 0) (pos 0) (pos 0) (neg_ℤ (pos 1)),
    λ q j a. let m = q.proper in let f = whole (neg_ℤ (pos 1)) q in omega (arith, ints),
    λ j v l i. absurd (let m = is-at_within vs j v i in omega (arith, e, l, m)),
  )
