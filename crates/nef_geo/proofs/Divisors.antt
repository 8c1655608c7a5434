-- Greatest common divisors of four numbers, and what is left after a division by one.
use Rattle.nef_geo.proofs.Prelude.{◌≡◌, ℕ, zero, suc, ◌*◌, ◌/◌, ◌<◌, ◌≤◌, ℤ, pos, negsuc, neg_ℤ, ◌∙◌, [], ◌∷◌, ◌<ℤ◌, ◌≤ℤ◌, ◌*ℤ◌, nat_abs, arith, sym, ap, subst, inl, inr, ◌⊎◌, refl, to_z, of_z, w64, FitsSigned, ◌∣◌, IsGcd, ints, unsigned_abs-mul, to_z-of_z, dvd_trans, dvd-zero, le_of_dvd, mul-le, DividesAll, IsLowest, at, neg, ◌⊗◌, ring, IsAtMostFour, IsSomeOfFour, IsGcdOfFour, IsReduced}
use Rattle.std.specs.Int.RustNames.{int_div}
use native.Mathlib.Nat.{dvd-one, mul-dvd-mul_left, dvd_of_mul-dvd-mul_left, mul-one, pos_of_dvd_of_pos, mul-div_cancel'}

-- the last number is taken first: it is mostly the least
pub divides_all : (x y z w : ℤ) (f g h : ℕ) → IsGcd (nat_abs w) (nat_abs x) f → IsGcd f (nat_abs y) g → IsGcd g (nat_abs z) h → DividesAll h (x ∷ y ∷ z ∷ w ∷ [])
divides_all x y z w f g h p q r =
    let to_f = dvd_trans h r.0 q.0 in (dvd_trans h to_f p.1, (dvd_trans h r.0 q.1, (r.1, (dvd_trans h to_f p.0, tt))))

pub IsGcdOfFour-from_steps : (x y z w : ℤ) (f g h : ℕ) → IsGcd (nat_abs w) (nat_abs x) f → IsGcd f (nat_abs y) g → IsGcd g (nat_abs z) h → 0 < h → IsGcdOfFour x y z w (pos h)
IsGcdOfFour-from_steps x y z w f g h p q r positive = record {
  positive = omega (arith, ints);
  divides = divides_all x y z w f g h p q r;
  greatest = λ k d. r.2 k (q.2 k (p.2 k d.1.1.1.0 d.0) d.1.0) d.1.1.0;
}

-- ---- a divisor of numbers that aren't all zero is at most as large as they are
pub record IsBetweenOne (n h : ℕ) : Type 0 where
  pub positive : 0 < h
  pub small : h ≤ n

zero_or : (x : ℤ) → (x ≡ pos 0) ⊎ (0 < nat_abs x)
zero_or (pos zero) = inl refl
zero_or (pos (suc n)) = inr (omega arith)
zero_or (negsuc n) = inr (omega arith)

from_size : (n h : ℕ) (x : ℤ) → 0 < nat_abs x → h ∣ nat_abs x → nat_abs x ≤ n → IsBetweenOne n h
from_size n h x p d s = let l : h ≤ nat_abs x = le_of_dvd p d in record { positive = pos_of_dvd_of_pos d p; small = omega arith }

pub divisor_small : (n h : ℕ) (x y z w : ℤ) → IsAtMostFour n x y z w → IsSomeOfFour x y z w → DividesAll h (x ∷ y ∷ z ∷ w ∷ []) → IsBetweenOne n h
divisor_small n h x y z w s some d =
    elim (zero_or x) [
      | inr p ↦ from_size n h x p d.0 s.x_small
      | inl ex ↦ elim (zero_or y) [
        | inr p ↦ from_size n h y p d.1.0 s.y_small
        | inl ey ↦ elim (zero_or z) [
          | inr p ↦ from_size n h z p d.1.1.0 s.z_small
          | inl ez ↦ elim (zero_or w) [ inr p ↦ from_size n h w p d.1.1.1.0 s.w_small | inl ew ↦ absurd (some (ex, ey, ez, ew)) ]
        ]
      ]
    ]

-- ---- exact quotients
pub quot_exact : (x d : ℤ) → pos 0 <ℤ d → nat_abs d ∣ nat_abs x → x ≡ d *ℤ int_div x d
quot_exact (pos x) (pos d) p h = ap pos (sym (mul-div_cancel' d h))
quot_exact (negsuc x) (pos d) p h = sym (neg_back d (suc x / d) (mul-div_cancel' d h))
  where
    neg_back : (d q : ℕ) → d * q ≡ suc x → pos d *ℤ neg_ℤ (pos q) ≡ negsuc x
    neg_back d q e = ring (pos d ∷ pos q ∷ []) (at 0 ⊗ neg (at 1)) (neg (at 0 ⊗ at 1)) tt ∙ ap (λ n. neg_ℤ (pos n)) e
quot_exact x (negsuc d) p h = absurd (omega (arith, ints))

-- a divisor of a part, times g, divides the whole
times_divides : (g x' x : ℤ) (k : ℕ) → x ≡ g *ℤ x' → k ∣ nat_abs x' → nat_abs g * k ∣ nat_abs x
times_divides g x' x k e d = rw (e, unsigned_abs-mul g x') (mul-dvd-mul_left k (nat_abs g) d)

one_left : (g k : ℕ) → 0 < g → g * k ∣ g → k ≡ 1
one_left g k p d = (dvd-one).0 (dvd_of_mul-dvd-mul_left k p (subst (λ (n : ℕ). g * k ∣ n) (sym (mul-one g)) d))

pub IsReduced-from_parts : (x y z w g x' y' z' w' : ℤ) → IsGcdOfFour x y z w g → x ≡ g *ℤ x' → y ≡ g *ℤ y' → z ≡ g *ℤ z' → w ≡ g *ℤ w' → IsReduced x y z w x' y' z' w'
IsReduced-from_parts x y z w g x' y' z' w' h ex ey ez ew = record {
  factor = g;
  positive = h.positive;
  x_is = ex;
  y_is = ey;
  z_is = ez;
  w_is = ew;
  lowest = λ k d.
      one_left (nat_abs g) k (let p : pos 0 <ℤ g = h.positive in omega (arith, ints))
      (h.greatest (nat_abs g * k) (times_divides g x' x k ex d.0, (times_divides g y' y k ey d.1.0, (times_divides g z' z k ez d.1.1.0, (times_divides g w' w k ew d.1.1.1.0, tt)))));
}

-- ---- what a positive factor tells of the parts
pub part_small : (n : ℕ) (g x x' : ℤ) → pos 0 <ℤ g → x ≡ g *ℤ x' → nat_abs x ≤ n → nat_abs x' ≤ n
part_small n (pos zero) x x' p e s = absurd (omega (arith, ints))
part_small n (negsuc g) x x' p e s = absurd (omega (arith, ints))
part_small n (pos (suc g)) x x' p e s =
    let k : nat_abs x ≡ suc g * nat_abs x' = ap nat_abs e ∙ unsigned_abs-mul (pos (suc g)) x' in
    omega (arith, mul-le 1 (nat_abs x') (suc g) (nat_abs x') (omega arith) (omega arith))

pub part_positive : (g x x' : ℤ) → pos 0 <ℤ g → pos 0 <ℤ x → x ≡ g *ℤ x' → pos 0 <ℤ x'
part_positive (pos g) x (pos zero) p q e = absurd (omega (arith, ints))
part_positive (pos g) x (pos (suc n)) p q e = omega (arith, ints)
part_positive (pos zero) x (negsuc n) p q e = absurd (omega (arith, ints))
part_positive (pos (suc g)) x (negsuc n) p q e = absurd (omega (arith, ints))
part_positive (negsuc g) x x' p q e = absurd (omega (arith, ints))

pub part_not_negative : (g x x' : ℤ) → pos 0 <ℤ g → pos 0 ≤ℤ x → x ≡ g *ℤ x' → pos 0 ≤ℤ x'
part_not_negative g x (pos n) p q e = omega (arith, ints)
part_not_negative (pos zero) x (negsuc n) p q e = absurd (omega (arith, ints))
part_not_negative (pos (suc g)) x (negsuc n) p q e = absurd (omega (arith, ints))
part_not_negative (negsuc g) x (negsuc n) p q e = absurd (omega (arith, ints))

-- ---- numbers that pass through the machine's type
pub IsReduced-kept : (x y z w x' y' z' w' : ℤ) → FitsSigned w64 x → FitsSigned w64 y → FitsSigned w64 z → FitsSigned w64 w → FitsSigned w64 x' → FitsSigned w64 y' → FitsSigned w64 z' → FitsSigned w64 w'
    → IsReduced (to_z w64 (of_z w64 x)) (to_z w64 (of_z w64 y)) (to_z w64 (of_z w64 z)) (to_z w64 (of_z w64 w)) x' y' z' w'
    → IsReduced x y z w (to_z w64 (of_z w64 x')) (to_z w64 (of_z w64 y')) (to_z w64 (of_z w64 z')) (to_z w64 (of_z w64 w'))
IsReduced-kept x y z w x' y' z' w' fx fy fz fw fx' fy' fz' fw' h =
    rw (to_z-of_z w64 x' fx', to_z-of_z w64 y' fy', to_z-of_z w64 z' fz', to_z-of_z w64 w' fw')
    (rw (to_z-of_z w64 x fx, to_z-of_z w64 y fy, to_z-of_z w64 z fz, to_z-of_z w64 w fw) at h)

-- three numbers in lowest terms, of which the fourth is zero
pub lowest_three : (x y z x' y' z' w' : ℤ) → IsReduced x y z (pos 0) x' y' z' w' → IsLowest (x' ∷ y' ∷ z' ∷ [])
lowest_three x y z x' y' z' w' h = λ k d. h.lowest k (d.0, (d.1.0, (d.1.1.0, (subst (λ (n : ℕ). k ∣ n) (sym (no_size w' (no_part h.factor w' h.positive h.w_is))) (divides_zero k), tt))))
  where
    no_part : (g n : ℤ) → pos 0 <ℤ g → pos 0 ≡ g *ℤ n → n ≡ pos 0
    no_part g (pos zero) p e = refl
    no_part (pos zero) (pos (suc n)) p e = absurd (omega (arith, ints))
    no_part (pos (suc g)) (pos (suc n)) p e = absurd (omega (arith, ints))
    no_part (negsuc g) (pos (suc n)) p e = absurd (omega (arith, ints))
    no_part (pos zero) (negsuc n) p e = absurd (omega (arith, ints))
    no_part (pos (suc g)) (negsuc n) p e = absurd (omega (arith, ints))
    no_part (negsuc g) (negsuc n) p e = absurd (omega (arith, ints))

    no_size : (n : ℤ) → n ≡ pos 0 → nat_abs n ≡ 0
    no_size n e = omega (arith, ints)

    divides_zero : (k : ℕ) → k ∣ 0
    divides_zero k = dvd-zero k
