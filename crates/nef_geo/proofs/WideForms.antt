-- Forms at points whose numbers passed through the machine's type.
use Rattle.nef_geo.proofs.Prelude.{◌≡◌, ◌≤◌, ℤ, pos, ◌+ℤ◌, ◌*ℤ◌, ◌<ℤ◌, nat_abs, lit≤, ap, sym, to_z, of_z, form_at, IsPointAtMost, form_of, point_at, far_limit, far_weight_limit, Plane, pos-abs}
use mir.Syntax.{w128}
use Rattle.nef_geo.proofs.Products.{kept_small, kept_wide, wide_enough}

abbrev passed : ℤ → ℤ
passed n = to_z w128 (of_z w128 n)

module _ (x y z w : ℤ) (positive : pos 0 <ℤ w) (s : IsPointAtMost far_limit far_weight_limit (point_at x y z w positive)) where
  pub passed_x : nat_abs (passed x) ≤ far_limit
  passed_x = kept_small x far_limit s.numbers.of_x (lit≤ tt)

  pub passed_y : nat_abs (passed y) ≤ far_limit
  passed_y = kept_small y far_limit s.numbers.of_y (lit≤ tt)

  pub passed_z : nat_abs (passed z) ≤ far_limit
  passed_z = kept_small z far_limit s.numbers.of_z (lit≤ tt)

  pub passed_w : nat_abs (passed w) ≤ far_weight_limit
  passed_w = kept_small w far_weight_limit s.weight (lit≤ tt)

  pub form_at-passed : (h : Plane) → h.a *ℤ passed x +ℤ h.b *ℤ passed y +ℤ h.c *ℤ passed z +ℤ h.d *ℤ passed w ≡ form_at (form_of h) (point_at x y z w positive)
  form_at-passed h =
      rw (kept_wide x (wide_enough x far_limit s.numbers.of_x (lit≤ tt)), kept_wide y (wide_enough y far_limit s.numbers.of_y (lit≤ tt)), kept_wide z (wide_enough z far_limit s.numbers.of_z (lit≤ tt)), kept_wide w (wide_enough w far_weight_limit s.weight (lit≤ tt)))
      (ap (λ (n : ℤ). h.a *ℤ x +ℤ h.b *ℤ y +ℤ h.c *ℤ z +ℤ h.d *ℤ n) (sym (pos-abs w positive)))
