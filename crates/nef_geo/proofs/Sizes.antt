-- Sizes of forms and of points on rays.
use Rattle.nef_geo.proofs.Prelude.{ℕ, ◌+◌, ◌*◌, ◌^◌, ◌≤◌, ℤ, pos, ◌+ℤ◌, ◌*ℤ◌, nat_abs, arith, sym, subst, inl, inr, lit≤, of_z, normal_limit, offset_limit, point_limit, weight_limit, SpacePoint, form_at, slope, Vector, opposite, up, IsAtMost, abs_plus, abs_times, IsVertical, IsPointAtMost, form_of, point_of, hit_point, far_point, point_form_limit, hit_limit, hit_weight_limit, far_limit, far_weight_limit, FarHit, Hit, Plane, Point, numbers}

-- ---- forms
pub form_size : (h : Plane) (m n : ℕ) (q : SpacePoint) → IsPointAtMost m n q → nat_abs (form_at (form_of h) q) ≤ normal_limit * m + normal_limit * m + normal_limit * m + offset_limit * n
form_size h m n q s =
    abs_plus (h.a *ℤ q.x +ℤ h.b *ℤ q.y +ℤ h.c *ℤ q.z) (h.d *ℤ pos q.w) (normal_limit * m + normal_limit * m + normal_limit * m) (offset_limit * n)
    (abs_plus (h.a *ℤ q.x +ℤ h.b *ℤ q.y) (h.c *ℤ q.z) (normal_limit * m + normal_limit * m) (normal_limit * m)
    (abs_plus (h.a *ℤ q.x) (h.b *ℤ q.y) (normal_limit * m) (normal_limit * m)
    (abs_times h.a q.x normal_limit m h.a_small s.numbers.of_x) (abs_times h.b q.y normal_limit m h.b_small s.numbers.of_y))
    (abs_times h.c q.z normal_limit m h.c_small s.numbers.of_z))
    (abs_times h.d (pos q.w) offset_limit n h.d_small s.weight)

pub point_within : (p : Point) → IsPointAtMost point_limit weight_limit (point_of p)
point_within p = record { numbers = record { of_x = p.x_small; of_y = p.y_small; of_z = p.z_small }; weight = p.w_small }

pub hit_within : (q : Hit) → IsPointAtMost hit_limit hit_weight_limit (hit_point q)
hit_within q = record { numbers = record { of_x = q.x_small; of_y = q.y_small; of_z = q.z_small }; weight = q.w_small }

pub far_within : (q : FarHit) → IsPointAtMost far_limit far_weight_limit (far_point q)
far_within q = record { numbers = record { of_x = q.x_small; of_y = q.y_small; of_z = q.z_small }; weight = q.w_small }

pub weaken_point : (m n m' n' : ℕ) (q : SpacePoint) → m ≤ m' → n ≤ n' → IsPointAtMost m n q → IsPointAtMost m' n' q
weaken_point m n m' n' q hm hn i = record {
  numbers = record { of_x = omega (arith, i.numbers.of_x); of_y = omega (arith, i.numbers.of_y); of_z = omega (arith, i.numbers.of_z) };
  weight = omega (arith, i.weight);
}

-- a hit's numbers are as small as a far hit's
pub hit_far : (q : Hit) → IsPointAtMost far_limit far_weight_limit (hit_point q)
hit_far q = weaken_point hit_limit hit_weight_limit far_limit far_weight_limit (hit_point q) (lit≤ tt) (lit≤ tt) (hit_within q)

pub point_form_size : (h : Plane) (p : Point) → nat_abs (form_at (form_of h) (point_of p)) ≤ point_form_limit
point_form_size h p = let s = form_size h point_limit weight_limit (point_of p) (point_within p) in omega (arith, s)

-- ---- slopes, by the sum of the sizes of a direction's numbers
pub slope_size : (h : Plane) (d : Vector) (k : ℕ) → nat_abs d.x + nat_abs d.y + nat_abs d.z ≤ k → nat_abs (slope (form_of h) d) ≤ normal_limit * k
slope_size h d k s =
    let m = abs_plus (h.a *ℤ d.x +ℤ h.b *ℤ d.y) (h.c *ℤ d.z) (normal_limit * nat_abs d.x + normal_limit * nat_abs d.y) (normal_limit * nat_abs d.z)
    (abs_plus (h.a *ℤ d.x) (h.b *ℤ d.y) (normal_limit * nat_abs d.x) (normal_limit * nat_abs d.y)
    (abs_times h.a d.x normal_limit (nat_abs d.x) h.a_small (omega arith)) (abs_times h.b d.y normal_limit (nat_abs d.y) h.b_small (omega arith)))
    (abs_times h.c d.z normal_limit (nat_abs d.z) h.c_small (omega arith)) in
    omega (arith, m, s)

-- ---- a coordinate s den + num d
pub reach_size : (s den num d : ℤ) (p k n l : ℕ) → nat_abs s ≤ p → nat_abs den ≤ k → nat_abs num ≤ n → nat_abs d ≤ l → nat_abs (s *ℤ den +ℤ num *ℤ d) ≤ p * k + n * l
reach_size s den num d p k n l hs hk hn hl = abs_plus (s *ℤ den) (num *ℤ d) (p * k) (n * l) (abs_times s den p k hs hk) (abs_times num d n l hn hl)

-- ---- the upward direction and the downward one
abbrev pub upright_sum : ℕ
upright_sum = 2 ^ 26 + 2 ^ 13 + 1

pub record IsUprightSized (d : Vector) : Type 0 where
  pub each : IsAtMost (2 ^ 26) d
  pub sum : nat_abs d.x + nat_abs d.y + nat_abs d.z ≤ upright_sum

up_sized : IsUprightSized up
up_sized = record { each = record { of_x = lit≤ tt; of_y = lit≤ tt; of_z = lit≤ tt }; sum = lit≤ tt }

down_sized : IsUprightSized (opposite up)
down_sized = record { each = record { of_x = lit≤ tt; of_y = lit≤ tt; of_z = lit≤ tt }; sum = lit≤ tt }

pub upright_sized : (d : Vector) → IsVertical d → IsUprightSized d
upright_sized d (inl e) = subst IsUprightSized (sym e) up_sized
upright_sized d (inr e) = subst IsUprightSized (sym e) down_sized
