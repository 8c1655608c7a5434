-- Orders and signs of whole numbers, beyond what is linear.
use Rattle.nef_space.proofs.Prelude.{◌≡◌, ℕ, zero, suc, ◌+◌, ◌*◌, ◌≤◌, ℤ, pos, negsuc, ◌+ℤ◌, ◌-ℤ◌, ◌*ℤ◌, neg_ℤ, ◌≤ℤ◌, ◌<ℤ◌, arith, refl, ap, sym, ◌∙◌, nat_abs, List, [], ◌∷◌, ◌↔◌, ◌⊎◌, inl, inr, ◌<◌, ints, unsigned_abs-mul, by_lt_z, mul-le}
use lib.IntN.{zero-*ℤ, *ℤ-zero, *ℤ_comm}
pub use Rattle.nef_space.specs.Signs.{Sign, minus, nought, plus, sign, sign_times, Lies}
use Rattle.nef_space.proofs.Ring.{ring, is_zero, IsNought, value, at, num, ◌⊖◌, ◌⊗◌, Poly}

pub mul_pos : (a b : ℤ) → pos 0 <ℤ a → pos 0 <ℤ b → pos 0 <ℤ (a *ℤ b)
mul_pos (pos zero) b h k = absurd (omega (arith, ints))
mul_pos (pos (suc a)) (pos zero) h k = absurd (omega (arith, ints))
mul_pos (pos (suc a)) (pos (suc b)) h k = omega (arith, ints)
mul_pos (negsuc a) b h k = absurd (omega (arith, ints))
mul_pos (pos (suc a)) (negsuc b) h k = absurd (omega (arith, ints))

pub mul_nonneg : (a b : ℤ) → pos 0 ≤ℤ a → pos 0 ≤ℤ b → pos 0 ≤ℤ (a *ℤ b)
mul_nonneg (pos a) (pos b) h k = omega (arith, ints)
mul_nonneg (negsuc a) b h k = absurd (omega (arith, ints))
mul_nonneg (pos a) (negsuc b) h k = absurd (omega (arith, ints))

pub square_nonneg : (a : ℤ) → pos 0 ≤ℤ (a *ℤ a)
square_nonneg a = grind (arith, ints)

-- the difference that a polynomial identity gives decides an order
pub lt_by : (xs : List ℤ) (p q r : Poly) → IsNought (q ⊖ p ⊖ r) → pos 0 <ℤ value xs r → value xs p <ℤ value xs q
lt_by xs p q r n h = let e = is_zero xs (q ⊖ p ⊖ r) n in omega (arith, ints)

pub le_by : (xs : List ℤ) (p q r : Poly) → IsNought (q ⊖ p ⊖ r) → pos 0 ≤ℤ value xs r → value xs p ≤ℤ value xs q
le_by xs p q r n h = let e = is_zero xs (q ⊖ p ⊖ r) n in omega (arith, ints)

pub sub_pos : (a b : ℤ) → a <ℤ b → pos 0 <ℤ (b -ℤ a)
sub_pos a b h = omega (arith, ints)

pub sub_nonneg : (a b : ℤ) → a ≤ℤ b → pos 0 ≤ℤ (b -ℤ a)
sub_nonneg a b h = omega (arith, ints)

pub mul_lt_right : (a b c : ℤ) → pos 0 <ℤ c → a <ℤ b → (a *ℤ c) <ℤ (b *ℤ c)
mul_lt_right a b c h k = lt_by (a ∷ b ∷ c ∷ []) (at 0 ⊗ at 2) (at 1 ⊗ at 2) ((at 1 ⊖ at 0) ⊗ at 2) tt (mul_pos (b -ℤ a) c (sub_pos a b k) h)

pub mul_le_right : (a b c : ℤ) → pos 0 ≤ℤ c → a ≤ℤ b → (a *ℤ c) ≤ℤ (b *ℤ c)
mul_le_right a b c h k = le_by (a ∷ b ∷ c ∷ []) (at 0 ⊗ at 2) (at 1 ⊗ at 2) ((at 1 ⊖ at 0) ⊗ at 2) tt (mul_nonneg (b -ℤ a) c (sub_nonneg a b k) h)

-- one of three
pub by_order : {P : Type 0} (a b : ℤ) → (a <ℤ b → P) → (a ≡ b → P) → (b <ℤ a → P) → P
by_order {P} a b f g h = by_lt_z a b f (λ k. by_lt_z b a h (λ l. g (omega (arith, ints))))

pub nought-or : (z : ℤ) → (z ≡ pos 0) ⊎ (z ≡ pos 0 → ⊥)
nought-or z = by_order z (pos 0) (λ b. inr (λ e. omega (arith, ints))) (λ e. inl e) (λ b. inr (λ e. omega (arith, ints)))

pub square_pos : (a : ℤ) → (a ≡ pos 0 → ⊥) → pos 0 <ℤ (a *ℤ a)
square_pos a f = by_order a (pos 0)
    (λ b. let p = mul_pos (pos 0 -ℤ a) (pos 0 -ℤ a) (omega (arith, ints)) (omega (arith, ints)) in let e = ring (a ∷ []) ((num (pos 0) ⊖ at 0) ⊗ (num (pos 0) ⊖ at 0)) (at 0 ⊗ at 0) tt in omega (arith, ints))
    (λ e. absurd (f e)) (λ b. mul_pos a a b b)

pub pos-abs : (z : ℤ) → pos 0 <ℤ z → pos (nat_abs z) ≡ z
pos-abs z h = omega (arith, ints)

pub abs-pos : (z : ℤ) → pos 0 <ℤ z → 0 < nat_abs z
abs-pos z h = omega (arith, ints)

pub mul_neg : (a b : ℤ) → pos 0 <ℤ a → b <ℤ pos 0 → (a *ℤ b) <ℤ pos 0
mul_neg a b h k = let p = mul_pos a (pos 0 -ℤ b) h (sub_pos b (pos 0) k) in let e = ring (a ∷ b ∷ []) (at 0 ⊗ (num (pos 0) ⊖ at 1)) (num (pos 0) ⊖ at 0 ⊗ at 1) tt in omega (arith, ints)

pub cancel_lt : (a b c : ℤ) → pos 0 <ℤ c → (a *ℤ c) <ℤ (b *ℤ c) → a <ℤ b
cancel_lt a b c h k = by_order a b (λ l. l) (λ e. let q = ap (λ z. z *ℤ c) e in absurd (omega (arith, ints))) (λ l. let q = mul_lt_right b a c h l in absurd (omega (arith, ints)))

pub cancel_le : (a b c : ℤ) → pos 0 <ℤ c → (a *ℤ c) ≤ℤ (b *ℤ c) → a ≤ℤ b
cancel_le a b c h k = by_lt_z b a (λ l. let q = mul_lt_right b a c h l in absurd (omega (arith, ints))) (λ l. l)

pub cancel_eq : (a b c : ℤ) → pos 0 <ℤ c → a *ℤ c ≡ b *ℤ c → a ≡ b
cancel_eq a b c h k = by_order a b (λ l. let q = mul_lt_right a b c h l in absurd (omega (arith, ints))) (λ e. e) (λ l. let q = mul_lt_right b a c h l in absurd (omega (arith, ints)))

-- ---- sizes
pub abs_minus : (x y : ℤ) (k l : ℕ) → nat_abs x ≤ k → nat_abs y ≤ l → nat_abs (x -ℤ y) ≤ k + l
abs_minus x y k l h g = omega (arith, ints)

pub abs_plus : (x y : ℤ) (k l : ℕ) → nat_abs x ≤ k → nat_abs y ≤ l → nat_abs (x +ℤ y) ≤ k + l
abs_plus x y k l h g = omega (arith, ints)

pub abs_times : (x y : ℤ) (k l : ℕ) → nat_abs x ≤ k → nat_abs y ≤ l → nat_abs (x *ℤ y) ≤ k * l
abs_times x y k l h g = omega (arith, unsigned_abs-mul x y, mul-le (nat_abs x) (nat_abs y) k l h g)

pub abs_minors : (a b c d : ℤ) (m n : ℕ) → nat_abs a ≤ m → nat_abs b ≤ m → nat_abs c ≤ n → nat_abs d ≤ n → nat_abs (a *ℤ d -ℤ b *ℤ c) ≤ 2 * (m * n)
abs_minors a b c d m n ha hb hc hd =
    let h = abs_minus (a *ℤ d) (b *ℤ c) (m * n) (m * n) (abs_times a d m n ha hd) (abs_times b c m n hb hc) in
    omega (arith, h)

-- ---- signs
pub sign-plus : (a : ℤ) → pos 0 <ℤ a → sign a ≡ plus
sign-plus (pos zero) h = absurd (omega (arith, ints))
sign-plus (pos (suc n)) h = refl
sign-plus (negsuc n) h = absurd (omega (arith, ints))

pub sign-minus : (a : ℤ) → a <ℤ pos 0 → sign a ≡ minus
sign-minus (pos zero) h = absurd (omega (arith, ints))
sign-minus (pos (suc n)) h = absurd (omega (arith, ints))
sign-minus (negsuc n) h = refl

pub plus-is : (a : ℤ) → sign a ≡ plus → pos 0 <ℤ a
plus-is (pos zero) h = cc
plus-is (pos (suc n)) h = omega (arith, ints)
plus-is (negsuc n) h = cc

pub minus-is : (a : ℤ) → sign a ≡ minus → a <ℤ pos 0
minus-is (pos zero) h = cc
minus-is (pos (suc n)) h = cc
minus-is (negsuc n) h = omega (arith, ints)

pub nought-is : (a : ℤ) → sign a ≡ nought → a ≡ pos 0
nought-is (pos zero) h = refl
nought-is (pos (suc n)) h = cc
nought-is (negsuc n) h = cc

pub sign_of_product : (a b : ℤ) → sign (a *ℤ b) ≡ sign_times (sign a) (sign b)
sign_of_product (pos zero) b = ap sign (zero-*ℤ b)
sign_of_product (pos (suc a)) (pos zero) = ap sign (*ℤ-zero (pos (suc a)))
sign_of_product (pos (suc a)) (pos (suc b)) = sign-plus (pos (suc a) *ℤ pos (suc b)) (mul_pos (pos (suc a)) (pos (suc b)) (omega (arith, ints)) (omega (arith, ints)))
sign_of_product (pos (suc a)) (negsuc b) = sign-minus (pos (suc a) *ℤ negsuc b) (mul_neg (pos (suc a)) (negsuc b) (omega (arith, ints)) (omega (arith, ints)))
sign_of_product (negsuc a) (pos zero) = ap sign (*ℤ-zero (negsuc a))
sign_of_product (negsuc a) (pos (suc b)) = ap sign (*ℤ_comm (negsuc a) (pos (suc b))) ∙ sign-minus (pos (suc b) *ℤ negsuc a) (mul_neg (pos (suc b)) (negsuc a) (omega (arith, ints)) (omega (arith, ints)))
sign_of_product (negsuc a) (negsuc b) = sign-plus (negsuc a *ℤ negsuc b) (mul_pos (pos (suc a)) (pos (suc b)) (omega (arith, ints)) (omega (arith, ints)))

-- a positive factor leaves the sign
pub sign-scaled : (k x : ℤ) → pos 0 <ℤ k → sign (k *ℤ x) ≡ sign x
sign-scaled k x h = sign_of_product k x ∙ ap (λ r. sign_times r (sign x)) (sign-plus k h)

-- what a positive factor times it says
pub plus-of : (k x : ℤ) → pos 0 <ℤ k → pos 0 <ℤ (k *ℤ x) → pos 0 <ℤ x
plus-of k x h p = plus-is x (sym (sign-scaled k x h) ∙ sign-plus (k *ℤ x) p)

pub minus-of : (k x : ℤ) → pos 0 <ℤ k → (k *ℤ x) <ℤ pos 0 → x <ℤ pos 0
minus-of k x h p = minus-is x (sym (sign-scaled k x h) ∙ sign-minus (k *ℤ x) p)

pub nonneg-of : (k x : ℤ) → pos 0 <ℤ k → pos 0 ≤ℤ (k *ℤ x) → pos 0 ≤ℤ x
nonneg-of k x h p = by_order x (pos 0) (λ l. let m = mul_neg k x h l in omega (arith, ints)) (λ e. omega (arith, ints)) (λ l. omega (arith, ints))

-- ---- the opposite sign
abbrev pub sign_turned : Sign → Sign
sign_turned minus = plus
sign_turned nought = nought
sign_turned plus = minus

pub sign-neg : (a : ℤ) → sign (neg_ℤ a) ≡ sign_turned (sign a)
sign-neg (pos zero) = refl
sign-neg (pos (suc n)) = refl
sign-neg (negsuc n) = refl

pub sign-turned : (x y : ℤ) → sign x ≡ sign y → sign (negsuc 0 *ℤ x) ≡ sign (negsuc 0 *ℤ y)
sign-turned x y e = sign_of_product (negsuc 0) x ∙ ap (sign_times minus) e ∙ sym (sign_of_product (negsuc 0) y)

pub sign_of_sum : (a b : ℤ) (s : Sign) → sign a ≡ s → sign b ≡ s → sign (a +ℤ b) ≡ s
sign_of_sum a b minus h k = let p = minus-is a h in let q = minus-is b k in sign-minus (a +ℤ b) (omega (arith, ints))
sign_of_sum a b nought h k = let p = nought-is a h in let q = nought-is b k in ap sign (let r : a +ℤ b ≡ pos 0 = omega (arith, ints) in r)
sign_of_sum a b plus h k = let p = plus-is a h in let q = plus-is b k in sign-plus (a +ℤ b) (omega (arith, ints))

-- the sign says the order
pub signs_are_orders : (a : ℤ) → ((sign a ≡ plus) ↔ (pos 0 <ℤ a)) × ((sign a ≡ minus) ↔ (a <ℤ pos 0)) × ((sign a ≡ nought) ↔ (a ≡ pos 0))
signs_are_orders a = ((plus-is a, sign-plus a), (minus-is a, sign-minus a), (nought-is a, λ e. ap sign e))
