-- A number that divides the same multiple of numbers in lowest terms divides the factor.
use Rattle.nef_geo.proofs.Prelude.{◌≡◌, ℕ, zero, suc, ◌+◌, ◌-◌, ◌*◌, ◌≤◌, ℤ, [], ◌∷◌, ◌*ℤ◌, nat_abs, arith, sym, ap, ◌∙◌, subst, inl, inr, ◌∣◌, IsGcd, unsigned_abs-mul, IsGcd-from_zero, IsGcd-from_sub, IsGcd-swap, dvd_trans, cases_lt, IsLowest}
use Rattle.std.proofs.Math.Nat.{mul-le-mul_left, mul-sub}
use native.Mathlib.Nat.{mul-one, mul-zero, one-mul, dvd-mul_right}

-- a greatest common divisor, which every factor scales
record Scaled (a b : ℕ) : Type 0 where
  divisor : ℕ
  scales : (c : ℕ) → IsGcd (c * a) (c * b) (c * divisor)

swapped : (a b : ℕ) → Scaled a b → Scaled b a
swapped a b s = record { divisor = s.divisor; scales = λ c. IsGcd-swap (c * a) (c * b) (c * s.divisor) (s.scales c) }

minus_step : (a b : ℕ) → b ≤ a → Scaled (a - b) b → Scaled a b
minus_step a b h s = record {
  divisor = s.divisor;
  scales = λ c.
      IsGcd-from_sub (c * a) (c * b) (c * s.divisor) (mul-le-mul_left {m = b} {n = a} c h)
      (subst (λ (m : ℕ). IsGcd m (c * b) (c * s.divisor)) (mul-sub c a b) (s.scales c));
}

scaled : (n a b : ℕ) → a + b ≤ n → Scaled a b
scaled n a zero h = record { divisor = a; scales = λ c. IsGcd-from_zero (c * a) (c * 0) (mul-zero c) }
scaled n zero (suc b) h = swapped (suc b) 0 (record { divisor = suc b; scales = λ c. IsGcd-from_zero (c * suc b) (c * 0) (mul-zero c) })
scaled zero (suc a) (suc b) h = absurd (omega arith)
scaled (suc n) (suc a) (suc b) h =
    elim (cases_lt (suc a) (suc b)) [
      | inl k ↦ swapped (suc b) (suc a) (minus_step (suc b) (suc a) (omega arith) (scaled n (suc b - suc a) (suc a) (omega arith)))
      | inr k ↦ minus_step (suc a) (suc b) k (scaled n (suc a - suc b) (suc b) (omega arith))
    ]

divides_factor : (k c x y z w : ℕ) → ((j : ℕ) → j ∣ x → j ∣ y → j ∣ z → j ∣ w → j ≡ 1) → k ∣ c * x → k ∣ c * y → k ∣ c * z → k ∣ c * w → k ∣ c
divides_factor k c x y z w only p q r s =
    let f = scaled (x + y) x y (omega arith) in
    let g = scaled (f.divisor + z) f.divisor z (omega arith) in
    let h = scaled (g.divisor + w) g.divisor w (omega arith) in
    let f1 = plain x y f.divisor (f.scales 1) in
    let g1 = plain f.divisor z g.divisor (g.scales 1) in
    let h1 = plain g.divisor w h.divisor (h.scales 1) in
    let one : h.divisor ≡ 1 = only h.divisor
    (dvd_trans h.divisor h1.0 (dvd_trans g.divisor g1.0 f1.0))
    (dvd_trans h.divisor h1.0 (dvd_trans g.divisor g1.0 f1.1))
    (dvd_trans h.divisor h1.0 g1.1) h1.1 in
    let all : k ∣ c * h.divisor = (h.scales c).2 k ((g.scales c).2 k ((f.scales c).2 k p q) r) s in
    subst (λ (n : ℕ). k ∣ n) (ap (λ n. c * n) one ∙ mul-one c) all
  where
    plain : (a b g : ℕ) → IsGcd (1 * a) (1 * b) (1 * g) → IsGcd a b g
    plain a b g h = simp one-mul at h

-- the sizes of two numbers with equal cross products
multiple : (m n a b : ℤ) → m *ℤ b ≡ a *ℤ n → nat_abs m ∣ nat_abs n * nat_abs a
multiple m n a b e =
    let k : nat_abs m * nat_abs b ≡ nat_abs n * nat_abs a = sym (unsigned_abs-mul m b) ∙ ap nat_abs e ∙ unsigned_abs-mul a n ∙ commute (nat_abs a) (nat_abs n) in
    subst (λ (i : ℕ). nat_abs m ∣ i) k (dvd-mul_right (nat_abs m) (nat_abs b))
  where
    commute : (i j : ℕ) → i * j ≡ j * i
    commute i j = grind arith

-- m is one of x, y, z, w in lowest terms, and n the corresponding one of four numbers of the same ratios: m divides n
pub divides_same : (m n x y z w x' y' z' w' : ℤ) → IsLowest (x ∷ y ∷ z ∷ w ∷ []) → m *ℤ x' ≡ x *ℤ n → m *ℤ y' ≡ y *ℤ n → m *ℤ z' ≡ z *ℤ n → m *ℤ w' ≡ w *ℤ n → nat_abs m ∣ nat_abs n
divides_same m n x y z w x' y' z' w' h ex ey ez ew =
    divides_factor (nat_abs m) (nat_abs n) (nat_abs x) (nat_abs y) (nat_abs z) (nat_abs w) (λ j a b c d. h j (a, (b, (c, (d, tt)))))
    (multiple m n x x' ex) (multiple m n y y' ey) (multiple m n z z' ez) (multiple m n w w' ew)
