-- A plane whose last number outweighs the others anywhere in the frame holds no point of the open frame.
use Rattle.nef_cand.proofs.Prelude.{◌≡◌, ℕ, ◌+◌, ◌-◌, ◌*◌, ◌<◌, ◌≤◌, ℤ, pos, ◌+ℤ◌, ◌*ℤ◌, nat_abs, arith, ap, ints, unsigned_abs-mul, mul-le-mul_right, abs_plus, abs_times, half_side, SpacePoint, Form, form_at, normal_of, InFrame, IsDirection}

-- a + b + c is the sum of the numbers of the normal, n + 1 half the length of the frame's sides times w
outweighed : (a b c d w n : ℕ) → half_side * (a + b + c) ≤ d → 0 < a + b + c → n + 1 ≡ half_side * w → a * n + b * n + c * n < d * w
outweighed a b c d w n l some e =
    let x = ap (λ (m : ℕ). a * m) e in
    let y = ap (λ (m : ℕ). b * m) e in
    let z = ap (λ (m : ℕ). c * m) e in
    omega (arith, mul-le-mul_right w l, x, y, z)

module _ (h : Form) (far : half_side * (nat_abs h.a + nat_abs h.b + nat_abs h.c) ≤ nat_abs h.d) (normal : IsDirection (normal_of h)) where
  some : 0 < nat_abs h.a + nat_abs h.b + nat_abs h.c
  some = by (nat_abs h.a + nat_abs h.b + nat_abs h.c) (λ e. normal (omega (arith, ints, e), omega (arith, ints, e), omega (arith, ints, e)))
    where
      by : (n : ℕ) → (n ≡ 0 → ⊥) → 0 < n
      by n off = grind (arith, off)

  pub missing : (y : SpacePoint) → InFrame y → form_at h y ≡ pos 0 → ⊥
  missing y i on =
      let n = half_side * y.w - 1 in
      let m = y.proper in
      let e : n + 1 ≡ half_side * y.w = omega arith in
      let x = abs_times h.a y.x (nat_abs h.a) n (omega arith) (let a = i.along_x in omega arith) in
      let b = abs_times h.b y.y (nat_abs h.b) n (omega arith) (let a = i.along_y in omega arith) in
      let z = abs_times h.c y.z (nat_abs h.c) n (omega arith) (let a = i.along_z in omega arith) in
      let xy = abs_plus (h.a *ℤ y.x) (h.b *ℤ y.y) (nat_abs h.a * n) (nat_abs h.b * n) x b in
      let all = abs_plus (h.a *ℤ y.x +ℤ h.b *ℤ y.y) (h.c *ℤ y.z) (nat_abs h.a * n + nat_abs h.b * n) (nat_abs h.c * n) xy z in
      let s = outweighed (nat_abs h.a) (nat_abs h.b) (nat_abs h.c) (nat_abs h.d) y.w n far some e in
      apart (h.a *ℤ y.x +ℤ h.b *ℤ y.y +ℤ h.c *ℤ y.z) (h.d *ℤ pos y.w) (nat_abs h.d * y.w) (nat_abs h.a * n + nat_abs h.b * n + nat_abs h.c * n) all s (unsigned_abs-mul h.d (pos y.w)) on
    where
      apart : (r t : ℤ) (u k : ℕ) → nat_abs r ≤ k → k < u → nat_abs t ≡ u → r +ℤ t ≡ pos 0 → ⊥
      apart r t u k l m e f = omega (arith, ints)
