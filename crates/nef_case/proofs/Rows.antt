-- The row of a key, and a test of all keys that computes.
use Rattle.nef_case.proofs.Prelude.{◌≡◌, ℕ, zero, suc, ◌+◌, ◌*◌, ◌^◌, ◌<◌, ◌≤◌, ℤ, pos, negsuc, List, [], ◌∷◌, length, Bool, false, cond, refl, arith, pow_more, ints, w8, to_z, of_z, unsigned_abs, All, IsSign, digit_of}
use lib.IntN.{◌+ℤ◌}
use Rattle.std.proofs.Math.Nat.{pow-le-pow_right}
use lib.Dec.{T}
use Rattle.nef_space.proofs.Machine.{both_left, both_right}

pub row_step : (row i N n : ℕ) → row < 3 ^ i → i < N → n ≡ 3 ^ N → n < 2 ^ 64 → row * 3 + 2 < 2 ^ 64
row_step row i N n h k e l = omega (arith, pow_more 3 i, pow-le-pow_right {n = 3} (omega arith) {i = i + 1} {j = N} (omega arith))

pub row_below : (row i N n : ℕ) → row < 3 ^ i → i ≡ N → n ≡ 3 ^ N → row < n
row_below row i N n h e f = rw (f, ← e) h

pub digit_small : (z : ℤ) → IsSign z → digit_of z ≤ 2
digit_small z s = omega (arith, ints, s.low, s.high)

-- a digit as the machine makes it of a sign of eight bits
pub digit_read : (z : ℤ) → IsSign z → unsigned_abs (to_z w8 (of_z w8 (to_z w8 (of_z w8 z) +ℤ pos 1))) ≡ digit_of z
digit_read (pos zero) s = refl
digit_read (pos (suc zero)) s = refl
digit_read (pos (suc (suc m))) s = absurd (omega (arith, ints, s.high))
digit_read (negsuc zero) s = refl
digit_read (negsuc (suc m)) s = absurd (omega (arith, ints, s.low))

-- ---- every key of n signs passes a test
abbrev pub every_key : ℕ → (List ℤ → Bool) → Bool
every_key zero p = p []
every_key (suc n) p = cond (every_key n (λ k. p (negsuc 0 ∷ k))) (cond (every_key n (λ k. p (pos 0 ∷ k))) (every_key n (λ k. p (pos 1 ∷ k))) false) false

tail : (z : ℤ) (key : List ℤ) → All IsSign (z ∷ key) → All IsSign key
tail z key s = λ k d h. s (suc k) d (omega arith)

pub passes_at : (n : ℕ) (p : List ℤ → Bool) → T (every_key n p) → (key : List ℤ) → length key ≡ n → All IsSign key → T (p key)
passes_at zero p t [] e s = t
passes_at zero p t (z ∷ key) e s = absurd (omega arith)
passes_at (suc n) p t [] e s = absurd (omega arith)
passes_at (suc n) p t (pos zero ∷ key) e s = passes_at n (λ k. p (pos 0 ∷ k)) (both_left _ _ (both_right (every_key n (λ k. p (negsuc 0 ∷ k))) _ t)) key (omega arith) (tail _ key s)
passes_at (suc n) p t (pos (suc zero) ∷ key) e s = passes_at n (λ k. p (pos 1 ∷ k)) (both_right (every_key n (λ k. p (pos 0 ∷ k))) _ (both_right (every_key n (λ k. p (negsuc 0 ∷ k))) _ t)) key (omega arith) (tail _ key s)
passes_at (suc n) p t (pos (suc (suc m)) ∷ key) e s = absurd (omega (arith, ints, (s 0 (pos 0) (omega arith)).high))
passes_at (suc n) p t (negsuc zero ∷ key) e s = passes_at n (λ k. p (negsuc 0 ∷ k)) (both_left _ _ t) key (omega arith) (tail _ key s)
passes_at (suc n) p t (negsuc (suc m) ∷ key) e s = absurd (omega (arith, ints, (s 0 (pos 0) (omega arith)).low))
