-- Sizes of sums of products, and numbers that are small beside others.
use Rattle.nef_space.proofs.Prelude.{◌≡◌, ℕ, ◌+◌, ◌*◌, ◌<◌, ◌≤◌, ℤ, pos, ◌+ℤ◌, ◌*ℤ◌, neg_ℤ, ◌<ℤ◌, nat_abs, arith, ap, inl, inr, refl, List, [], ◌∷◌, length, ◌↔◌, ints, unsigned_abs-mul, mul-le, mul-lt-mul_of_pos_right, lt_of_mul-lt-mul_right}
use Rattle.nef_space.specs.ArithmeticLaws.{IsSmallRatio}
use Rattle.nef_space.specs.Linear.{dot_list}
use Rattle.nef_space.proofs.Order.{Lies, abs_plus, abs_times}

pub size_of_sum : (m n : ℕ) (xs ys : List ℤ) → ((x : ℤ) → Lies xs x → nat_abs x ≤ m) → ((y : ℤ) → Lies ys y → nat_abs y ≤ n) → nat_abs (dot_list xs ys) ≤ length xs * (m * n)
size_of_sum m n [] ys f g = omega arith
size_of_sum m n (x ∷ xs) [] f g = omega arith
size_of_sum m n (x ∷ xs) (y ∷ ys) f g =
    let h = abs_plus (x *ℤ y) (dot_list xs ys) (m * n) (length xs * (m * n)) (abs_times x y m n (f x (inl refl)) (g y (inl refl))) (size_of_sum m n xs ys (λ z l. f z (inr l)) (λ z l. g z (inr l))) in
    omega (arith, h)

pub small_weakens : (m n : ℕ) (a : ℤ) (b : ℕ) → m ≤ n → IsSmallRatio n a b → IsSmallRatio m a b
small_weakens m n a b l h = omega (arith, mul-le m (nat_abs a) n (nat_abs a) l (omega arith))

pub small_adds : (n : ℕ) (a c : ℤ) (b : ℕ) → IsSmallRatio (2 * n) a b → IsSmallRatio (2 * n) c b → IsSmallRatio n (a +ℤ c) b
small_adds n a c b h k =
    let s : nat_abs (a +ℤ c) ≤ nat_abs a + nat_abs c = omega (arith, ints) in
    let t = mul-le n (nat_abs (a +ℤ c)) n (nat_abs a + nat_abs c) (omega arith) s in
    omega arith

abs_scaled : (a : ℤ) (k : ℕ) → nat_abs (pos k *ℤ a) ≡ k * nat_abs a
abs_scaled a k = unsigned_abs-mul (pos k) a

pub small_scales : (n : ℕ) (a : ℤ) (b k : ℕ) → 0 < k → IsSmallRatio n a b ↔ IsSmallRatio n (pos k *ℤ a) (k * b)
small_scales n a b k p =
    let e = ap (λ (r : ℕ). n * r) (abs_scaled a k) in (
      λ h. let m = mul-lt-mul_of_pos_right {k = k} h p in omega arith,
      λ h. lt_of_mul-lt-mul_right k {m = n * nat_abs a} {n = b} (omega arith),
    )

pub small_two_sided : (n : ℕ) (a : ℤ) (b : ℕ) → IsSmallRatio n a b ↔ (neg_ℤ (pos b) <ℤ (pos n *ℤ a)) × (pos n *ℤ a) <ℤ pos b
small_two_sided n a b = let e = abs_scaled a n in (λ h. (omega (arith, ints), omega (arith, ints)), λ h. let h0 = h.0 in let h1 = h.1 in omega (arith, ints))
