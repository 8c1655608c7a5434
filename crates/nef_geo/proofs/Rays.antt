-- Hits: their numbers and their sizes.
use Rattle.nef_geo.proofs.Prelude.{◌≡◌, ◌≢◌, ℕ, ◌+◌, ◌*◌, ◌^◌, ◌≤◌, ℤ, pos, ◌+ℤ◌, ◌*ℤ◌, ◌<ℤ◌, nat_abs, Option, Some, arith, ap, sym, ◌∙◌, subst, to_z, of_z, lit≤, IfSome, ints, normal_limit, point_limit, weight_limit, SpacePoint, form_at, slope, Vector, vector, IsAtMost, abs_plus, abs_times, pos-abs, IsReachedBy, IsVertical, IsPlaneDirSized, IsPointAtMost, form_of, point_at, point_of, IsZeroStep, point_form_limit, upright_limit, upright_weight_limit, plane_dir_limit, plane_dir_sum_limit, plane_dir_hit_limit, plane_dir_form_limit, Plane, Point, numbers}
use mir.Syntax.{w128}
use Rattle.nef_geo.proofs.Crossings.{form_at-reached}
use Rattle.nef_geo.proofs.Products.{kept_wide}
use Rattle.nef_geo.proofs.Sizes.{weaken_point, slope_size, reach_size, point_form_size, point_within, upright_sum, upright_sized}

-- the step that was found
pub step_is : (o : Option (ℤ × ℤ)) (v g n m : ℤ) → o ≡ Some (n, m) → IfSome o (λ s. IsZeroStep v g s.0 s.1) → IsZeroStep v g n m
step_is o v g n m e h = subst (λ (p : Option (ℤ × ℤ)). IfSome p (λ s. IsZeroStep v g s.0 s.1)) e h

-- the step for numbers that passed through the machine's type
pub step_meant : (v g v' g' n m n' m' : ℤ) → nat_abs v ≤ 2 ^ 126 → nat_abs g ≤ 2 ^ 126 → v ≡ v' → g ≡ g' → n' ≡ n → m' ≡ m → IsZeroStep (to_z w128 (of_z w128 v)) (to_z w128 (of_z w128 g)) n m → IsZeroStep v' g' n' m'
step_meant v g v' g' n m n' m' sv sg ev eg en em h = rw (en, em) (rw (kept_wide v sv ∙ ev, kept_wide g sg ∙ eg) at h)

-- the numbers of a hit, by the step that it keeps
pub reached_by : (sx sy sz sw : ℤ) (positive : pos 0 <ℤ sw) (d : Vector) (n m n' m' x y z w : ℤ) → n' ≡ n → m' ≡ m
    → x ≡ sx *ℤ m +ℤ n *ℤ d.x → y ≡ sy *ℤ m +ℤ n *ℤ d.y → z ≡ sz *ℤ m +ℤ n *ℤ d.z → w ≡ sw *ℤ m → IsReachedBy (point_at sx sy sz sw positive) d n' m' x y z w
reached_by sx sy sz sw positive d n m n' m' x y z w en em ex ey ez ew = rw (en, em) (record { x_is = ex; y_is = ey; z_is = ez; w_is = ew ∙ ap (λ (k : ℤ). k *ℤ m) (sym (pos-abs sw positive)) })

-- a growth whose size is that of a positive number isn't zero
pub growth_some : (g m : ℤ) → nat_abs m ≡ nat_abs g → pos 0 <ℤ m → g ≢ pos 0
growth_some g m e p z = omega (arith, ints)

-- ---- sizes
pub reached_within : (s : SpacePoint) (d : Vector) (n m x y z w : ℤ) (positive : pos 0 <ℤ w) (p u k l r : ℕ) → IsReachedBy s d n m x y z w → IsPointAtMost p u s → nat_abs m ≤ k → nat_abs n ≤ l → IsAtMost r d → IsPointAtMost (p * k + l * r) (u * k) (point_at x y z w positive)
reached_within s d n m x y z w positive p u k l r h i sm sn sd = record {
  numbers = record {
    of_x = subst (λ (a : ℤ). nat_abs a ≤ p * k + l * r) (sym h.x_is) (reach_size s.x m n d.x p k l r i.numbers.of_x sm sn sd.of_x);
    of_y = subst (λ (a : ℤ). nat_abs a ≤ p * k + l * r) (sym h.y_is) (reach_size s.y m n d.y p k l r i.numbers.of_y sm sn sd.of_y);
    of_z = subst (λ (a : ℤ). nat_abs a ≤ p * k + l * r) (sym h.z_is) (reach_size s.z m n d.z p k l r i.numbers.of_z sm sn sd.of_z);
  };
  weight = subst (λ (a : ℤ). nat_abs a ≤ u * k) (sym h.w_is) (abs_times (pos s.w) m u k i.weight sm);
}

-- a hit from a point, where the step is that of a plane
pub upright-within : (h : Plane) (p : Point) (d : Vector) (n m x y z w : ℤ) (positive : pos 0 <ℤ w) → IsReachedBy (point_of p) d n m x y z w → IsZeroStep (form_at (form_of h) (point_of p)) (slope (form_of h) d) n m → IsVertical d
    → IsPointAtMost upright_limit upright_weight_limit (point_at x y z w positive)
upright-within h p d n m x y z w positive r step u =
    let s = upright_sized d u in
    let sm : nat_abs m ≤ normal_limit * upright_sum = subst (λ (i : ℕ). i ≤ normal_limit * upright_sum) (sym step.den_size) (slope_size h d upright_sum s.sum) in
    let sn : nat_abs n ≤ point_form_limit = subst (λ (i : ℕ). i ≤ point_form_limit) (sym step.num_size) (point_form_size h p) in
    weaken_point (point_limit * (normal_limit * upright_sum) + point_form_limit * 2 ^ 26) (weight_limit * (normal_limit * upright_sum)) upright_limit upright_weight_limit (point_at x y z w positive) (lit≤ tt) (lit≤ tt)
    (reached_within (point_of p) d n m x y z w positive point_limit weight_limit (normal_limit * upright_sum) point_form_limit (2 ^ 26) r (point_within p) sm sn s.each)

pub plane_dir-within : (h : Plane) (p : Point) (d : Vector) (n m x y z w : ℤ) (positive : pos 0 <ℤ w) → IsReachedBy (point_of p) d n m x y z w → IsZeroStep (form_at (form_of h) (point_of p)) (slope (form_of h) d) n m → IsPlaneDirSized d
    → IsAtMost plane_dir_hit_limit (vector x y z)
plane_dir-within h p d n m x y z w positive r step s =
    let sm : nat_abs m ≤ normal_limit * plane_dir_sum_limit = subst (λ (i : ℕ). i ≤ normal_limit * plane_dir_sum_limit) (sym step.den_size) (slope_size h d plane_dir_sum_limit s.sum) in
    let sn : nat_abs n ≤ point_form_limit = subst (λ (i : ℕ). i ≤ point_form_limit) (sym step.num_size) (point_form_size h p) in
    let t = weaken_point (point_limit * (normal_limit * plane_dir_sum_limit) + point_form_limit * plane_dir_limit) (weight_limit * (normal_limit * plane_dir_sum_limit)) plane_dir_hit_limit (weight_limit * (normal_limit * plane_dir_sum_limit)) (point_at x y z w positive) (lit≤ tt) (lit≤ tt)
    (reached_within (point_of p) d n m x y z w positive point_limit weight_limit (normal_limit * plane_dir_sum_limit) point_form_limit plane_dir_limit r (point_within p) sm sn s.each) in
    t.numbers

-- a plane's form at such a hit
pub plane_dir-form : (g h : Plane) (p : Point) (d : Vector) (n m x y z w : ℤ) (positive : pos 0 <ℤ w) → IsReachedBy (point_of p) d n m x y z w → IsZeroStep (form_at (form_of h) (point_of p)) (slope (form_of h) d) n m → IsPlaneDirSized d
    → nat_abs (form_at (form_of g) (point_at x y z w positive)) ≤ plane_dir_form_limit
plane_dir-form g h p d n m x y z w positive r step s =
    let k = normal_limit * plane_dir_sum_limit in
    let sm : nat_abs m ≤ normal_limit * plane_dir_sum_limit = subst (λ (i : ℕ). i ≤ normal_limit * plane_dir_sum_limit) (sym step.den_size) (slope_size h d plane_dir_sum_limit s.sum) in
    let sn : nat_abs n ≤ point_form_limit = subst (λ (i : ℕ). i ≤ point_form_limit) (sym step.num_size) (point_form_size h p) in
    let t = abs_plus (n *ℤ slope (form_of g) d) (m *ℤ form_at (form_of g) (point_of p)) (point_form_limit * k) (k * point_form_limit)
    (abs_times n (slope (form_of g) d) point_form_limit k sn (slope_size g d plane_dir_sum_limit s.sum))
    (abs_times m (form_at (form_of g) (point_of p)) k point_form_limit sm (point_form_size g p)) in
    subst (λ (i : ℤ). nat_abs i ≤ plane_dir_form_limit) (sym (form_at-reached (form_of g) (point_of p) d n m x y z w positive r)) (omega (arith, t))
