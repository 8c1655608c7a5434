-- The point where a ray crosses a plane, by the machine's numbers.
use Rattle.nef_ray.proofs.Prelude.{◌≡◌, ℕ, ◌≤◌, ℤ, pos, ◌+ℤ◌, ◌*ℤ◌, ◌<ℤ◌, neg_ℤ, nat_abs, List, [], ◌∷◌, inl, inr, arith, refl, ap, sym, ◌∙◌, w64, to_z, of_z, ints, sign, Code, load, wrap, ◌⊞◌, ◌⊠◌, Limited, exact_of, mul_pos, nought-is, pos-abs, ring, at, num, neg, ◌⊕◌, ◌⊗◌, normal_limit, offset_limit, ray_direction_limit, ray_point_limit, ray_weight_limit, SpacePoint, Form, form_at, slope, SamePoint, Vector, IsAtMost, IsCrossing, IsPointAtMost, IsReachedBy, form_of, vector_of, point_at, point_of, HasOppositeSigns, Dir, Plane, Point, sign-same, same-point_sym, ahead-same, start_form_limit, asked_slope_limit}
use Rattle.nef_geo.proofs.Crossings.{IsCrossing-reached, opposite-crossing}
use Rattle.nef_geo.proofs.Places.{form_at-point_of}

-- ---- a plane's form at the start
abbrev pub form_sizes : List ℕ
form_sizes = normal_limit ∷ normal_limit ∷ normal_limit ∷ offset_limit ∷ ray_point_limit ∷ ray_point_limit ∷ ray_point_limit ∷ ray_weight_limit ∷ []

pub form-limits : (h : Plane) (p : Point) → IsPointAtMost ray_point_limit ray_weight_limit (point_of p) → (a b e f x y z w : ℤ) → a ≡ h.a → b ≡ h.b → e ≡ h.c → f ≡ h.d → x ≡ p.x → y ≡ p.y → z ≡ p.z → w ≡ p.w
    → Limited form_sizes (a ∷ b ∷ e ∷ f ∷ x ∷ y ∷ z ∷ w ∷ [])
form-limits h p k a b e f x y z w ea eb ee ef ex ey ez ew = rw (ea, eb, ee, ef, ex, ey, ez, ew) (h.a_small, (h.b_small, (h.c_small, (h.d_small, (k.numbers.of_x, (k.numbers.of_y, (k.numbers.of_z, (k.weight, tt))))))))

pub form-is : (h : Plane) (p : Point) (a b e f x y z w : ℤ) → a ≡ h.a → b ≡ h.b → e ≡ h.c → f ≡ h.d → x ≡ p.x → y ≡ p.y → z ≡ p.z → w ≡ p.w
    → a *ℤ x +ℤ b *ℤ y +ℤ e *ℤ z +ℤ f *ℤ w ≡ form_at (form_of h) (point_of p)
form-is h p a b e f x y z w ea eb ee ef ex ey ez ew = rw (ea, eb, ee, ef, ex, ey, ez, ew) (sym (form_at-point_of (form_of h) p))

-- the product of the numbers at two places
abbrev pub times : ℕ → ℕ → Code
times i j = wrap w64 (load i) ⊠ wrap w64 (load j)

abbrev pub two : Code
two = wrap w64 (times 0 4) ⊞ wrap w64 (times 1 5)

abbrev pub three : Code
three = wrap w64 two ⊞ wrap w64 (times 2 6)

abbrev pub four : Code
four = wrap w64 three ⊞ wrap w64 (times 3 7)

-- ---- the product of its normal with the direction
abbrev pub slope_sizes : List ℕ
slope_sizes = normal_limit ∷ normal_limit ∷ normal_limit ∷ ray_direction_limit ∷ ray_direction_limit ∷ ray_direction_limit ∷ []

pub slope-limits : (h : Plane) (d : Dir) → IsAtMost ray_direction_limit (vector_of d) → (a b e x y z : ℤ) → a ≡ h.a → b ≡ h.b → e ≡ h.c → x ≡ d.x → y ≡ d.y → z ≡ d.z → Limited slope_sizes (a ∷ b ∷ e ∷ x ∷ y ∷ z ∷ [])
slope-limits h d k a b e x y z ea eb ee ex ey ez = rw (ea, eb, ee, ex, ey, ez) (h.a_small, (h.b_small, (h.c_small, (k.of_x, (k.of_y, (k.of_z, tt))))))

pub slope-is : (h : Plane) (d : Dir) (a b e x y z : ℤ) → a ≡ h.a → b ≡ h.b → e ≡ h.c → x ≡ d.x → y ≡ d.y → z ≡ d.z → a *ℤ x +ℤ b *ℤ y +ℤ e *ℤ z ≡ slope (form_of h) (vector_of d)
slope-is h d a b e x y z ea eb ee ex ey ez = rw (ea, eb, ee, ex, ey, ez) refl

abbrev pub first_two : Code
first_two = wrap w64 (times 0 3) ⊞ wrap w64 (times 1 4)

abbrev pub all_three : Code
all_three = wrap w64 first_two ⊞ wrap w64 (times 2 5)

-- ---- a number of the point at a step: x m + n d
abbrev pub step_sizes : List ℕ
step_sizes = ray_point_limit ∷ asked_slope_limit ∷ start_form_limit ∷ ray_direction_limit ∷ []

abbrev pub step_code : Code
step_code = wrap w64 (times 0 1) ⊞ wrap w64 (times 2 3)

pub step-limits : (x m n e y f : ℤ) → x ≡ y → e ≡ f → nat_abs y ≤ ray_point_limit → nat_abs m ≤ asked_slope_limit → nat_abs n ≤ start_form_limit → nat_abs f ≤ ray_direction_limit → Limited step_sizes (x ∷ m ∷ n ∷ e ∷ [])
step-limits x m n e y f ex ee i j k l = rw (ex, ee) (i, (j, (k, (l, tt))))

pub step-is : (x m n e y f : ℤ) → x ≡ y → e ≡ f → x *ℤ m +ℤ n *ℤ e ≡ y *ℤ m +ℤ n *ℤ f
step-is x m n e y f ex ee = rw (ex, ee) refl

-- its weight
abbrev pub weight_sizes : List ℕ
weight_sizes = ray_weight_limit ∷ asked_slope_limit ∷ []

pub weight-limits : (w m v : ℤ) → w ≡ v → nat_abs v ≤ ray_weight_limit → nat_abs m ≤ asked_slope_limit → Limited weight_sizes (w ∷ m ∷ [])
weight-limits w m v e i j = rw e (i, (j, tt))

-- equal numbers are those of one point
pub same-at : (x y z w a b e f : ℤ) (r : SpacePoint) → x ≡ a → y ≡ b → z ≡ e → w ≡ f → ((positive : pos 0 <ℤ w) → SamePoint (point_at x y z w positive) r) → (positive : pos 0 <ℤ f) → SamePoint (point_at a b e f positive) r
same-at x y z w a b e f r ex ey ez ew same = rw (sym ex, sym ey, sym ez, sym ew) same

-- a small number passes through the machine's type
pub kept : (n : ℤ) → nat_abs n ≤ start_form_limit → to_z w64 (of_z w64 n) ≡ n
kept n s = exact_of (start_form_limit ∷ []) (n ∷ []) (wrap w64 (load 0)) (s, tt) tt

pub size-small : (n v : ℤ) → n ≡ pos (nat_abs v) → nat_abs v ≤ start_form_limit → nat_abs n ≤ start_form_limit
size-small n v e s = rw e s

-- ---- the crossing
crossing-same : (p : SpacePoint) (d : Vector) (h : Form) (q r : SpacePoint) → SamePoint q r → IsCrossing p d h q → IsCrossing p d h r
crossing-same p d h q r e X = record {
  on = nought-is (form_at h r) (sym (sign-same h q r e) ∙ ap sign X.on);
  ahead = ahead-same p q r d (same-point_sym q r e) X.ahead;
  passes = X.passes;
}

-- with n and m the sizes of the form and of the slope, which have opposite signs
record IsBalanced (v g n m : ℤ) : Type 0 where
  above : pos 0 <ℤ n
  below : pos 0 <ℤ m
  nought : n *ℤ g +ℤ m *ℤ v ≡ pos 0

balanced : (v g n m : ℤ) → HasOppositeSigns v g → n ≡ pos (nat_abs v) → m ≡ pos (nat_abs g) → IsBalanced v g n m
balanced v g n m (inl (l, k)) en em = record {
  above = omega (arith, ints, l, en);
  below = omega (arith, ints, k, em);
  nought =
      let i : n ≡ neg_ℤ v = omega (arith, ints, l, en) in let j : m ≡ g = omega (arith, ints, k, em) in
      rw (i, j) (ring (v ∷ g ∷ []) (neg (at 0) ⊗ at 1 ⊕ at 1 ⊗ at 0) (num (pos 0)) tt);
}
balanced v g n m (inr (l, k)) en em = record {
  above = omega (arith, ints, l, en);
  below = omega (arith, ints, k, em);
  nought =
      let i : n ≡ v = omega (arith, ints, l, en) in let j : m ≡ neg_ℤ g = omega (arith, ints, k, em) in
      rw (i, j) (ring (v ∷ g ∷ []) (at 0 ⊗ at 1 ⊕ neg (at 1) ⊗ at 0) (num (pos 0)) tt);
}

-- the point at that step is the crossing
pub crossed-at : (h : Plane) (p : Point) (d : Dir) (q : SpacePoint) → IsCrossing (point_of p) (vector_of d) (form_of h) q → (v g n m : ℤ) → v ≡ form_at (form_of h) (point_of p) → g ≡ slope (form_of h) (vector_of d) → n ≡ pos (nat_abs v) → m ≡ pos (nat_abs g) → (r : SpacePoint)
    → ((positive : pos 0 <ℤ (p.w *ℤ m)) → SamePoint (point_at (p.x *ℤ m +ℤ n *ℤ d.x) (p.y *ℤ m +ℤ n *ℤ d.y) (p.z *ℤ m +ℤ n *ℤ d.z) (p.w *ℤ m) positive) r) → IsCrossing (point_of p) (vector_of d) (form_of h) r
crossed-at h p d q X v g n m ev eg en em r same =
    let s = opposite-crossing (form_of h) (point_of p) (vector_of d) q d.some X in
    let b = balanced (form_at (form_of h) (point_of p)) (slope (form_of h) (vector_of d)) n m s (en ∙ ap (λ (i : ℤ). pos (nat_abs i)) ev) (em ∙ ap (λ (i : ℤ). pos (nat_abs i)) eg) in
    let positive = mul_pos p.w m p.proper b.below in
    let by : IsReachedBy (point_of p) (vector_of d) n m (p.x *ℤ m +ℤ n *ℤ d.x) (p.y *ℤ m +ℤ n *ℤ d.y) (p.z *ℤ m +ℤ n *ℤ d.z) (p.w *ℤ m) = record { x_is = refl; y_is = refl; z_is = refl; w_is = ap (λ (k : ℤ). k *ℤ m) (sym (pos-abs p.w p.proper)) } in
    crossing-same (point_of p) (vector_of d) (form_of h) (point_at (p.x *ℤ m +ℤ n *ℤ d.x) (p.y *ℤ m +ℤ n *ℤ d.y) (p.z *ℤ m +ℤ n *ℤ d.z) (p.w *ℤ m) positive) r (same positive)
    (IsCrossing-reached (form_of h) (point_of p) (vector_of d) n m (p.x *ℤ m +ℤ n *ℤ d.x) (p.y *ℤ m +ℤ n *ℤ d.y) (p.z *ℤ m +ℤ n *ℤ d.z) (p.w *ℤ m) positive d.some b.above by b.nought X.passes)
