-- Four numbers are a positive multiple of four in lowest terms; vectors in lowest terms are at most as large as those that they are parallel to.
use Rattle.nef_statement.proofs.text.existence.Prelude.{◌≡◌, ℕ, zero, suc, ◌+◌, ◌-◌, ◌*◌, ◌<◌, ◌≤◌, ℤ, pos, negsuc, ◌+ℤ◌, ◌*ℤ◌, ◌<ℤ◌, nat_abs, arith, refl, sym, ap, ◌∙◌, inl, inr, List, ◌∷◌, of_z, [], ◌∣◌, IsGcd, ints, unsigned_abs-mul, cases_lt, mul-le, IsGcd-from_zero, IsGcd-swap, IsGcd-from_sub, ring, at, num, ◌⊕◌, ◌⊖◌, ◌⊗◌, follows, given, none, DividesAll, IsLowest, Vector, IsZero, IsDirection, cross, dot, IsAtMost, direction_numbers, IsPrimitive, IsReduced, divides_all, IsGcdOfFour-from_steps, quot_exact, IsReduced-from_parts}
use Rattle.std.specs.Int.RustNames.{int_div}
use native.Mathlib.Nat.{pos_of_dvd_of_pos}

-- ---- greatest common divisors
gcd-within : (n a b : ℕ) → a + b ≤ n → (g : ℕ) × IsGcd a b g
gcd-within n a zero l = (a, IsGcd-from_zero a 0 refl)
gcd-within n zero (suc b) l = (suc b, IsGcd-swap (suc b) 0 (suc b) (IsGcd-from_zero (suc b) 0 refl))
gcd-within zero (suc a) (suc b) l = absurd (omega (arith, l))
gcd-within (suc n) (suc a) (suc b) l =
    elim (cases_lt (suc a) (suc b)) as (λ o. (g : ℕ) × IsGcd (suc a) (suc b) g) [
      | inl k ↦ let r = gcd-within n (suc b - suc a) (suc a) (omega (arith, l, k)) in (r.0, IsGcd-swap (suc b) (suc a) r.0 (IsGcd-from_sub (suc b) (suc a) r.0 (omega (arith, k)) r.1))
      | inr k ↦ let r = gcd-within n (suc a - suc b) (suc b) (omega (arith, l, k)) in (r.0, IsGcd-from_sub (suc a) (suc b) r.0 k r.1)
    ]

gcd-of : (a b : ℕ) → (g : ℕ) × IsGcd a b g
gcd-of a b = gcd-within (a + b) a b (omega arith)

-- four numbers of which the last is positive
pub record Reduced (x y z w : ℤ) : Type 0 where
  pub x' : ℤ
  pub y' : ℤ
  pub z' : ℤ
  pub w' : ℤ
  pub reduced : IsReduced x y z w x' y' z' w'

pub reduce-by : (x y z w : ℤ) → ((h : ℕ) → DividesAll h (x ∷ y ∷ z ∷ w ∷ []) → 0 < h) → Reduced x y z w
reduce-by x y z w positive-by = by (gcd-of (nat_abs w) (nat_abs x))
  where
    by : ((f : ℕ) × IsGcd (nat_abs w) (nat_abs x) f) → Reduced x y z w
    by (f, F) = then (gcd-of f (nat_abs y))
      where
        then : ((g : ℕ) × IsGcd f (nat_abs y) g) → Reduced x y z w
        then (g, G) = last (gcd-of g (nat_abs z))
          where
            last : ((h : ℕ) × IsGcd g (nat_abs z) h) → Reduced x y z w
            last (h, H) =
                let d : DividesAll h (x ∷ y ∷ z ∷ w ∷ []) = divides_all x y z w f g h F G H in
                let some : 0 < h = positive-by h d in
                let positive : pos 0 <ℤ pos h = omega (arith, ints, some) in
                record {
                  x' = int_div x (pos h);
                  y' = int_div y (pos h);
                  z' = int_div z (pos h);
                  w' = int_div w (pos h);
                  reduced = IsReduced-from_parts x y z w (pos h) (int_div x (pos h)) (int_div y (pos h)) (int_div z (pos h)) (int_div w (pos h)) (IsGcdOfFour-from_steps x y z w f g h F G H some)
                      (quot_exact x (pos h) positive d.0) (quot_exact y (pos h) positive d.1.0) (quot_exact z (pos h) positive d.1.1.0) (quot_exact w (pos h) positive d.1.1.1.0);
                }

pub reduce : (x y z w : ℤ) → pos 0 <ℤ w → Reduced x y z w
reduce x y z w p = reduce-by x y z w (λ h d. pos_of_dvd_of_pos d.1.1.1.0 (omega (arith, ints, p)))

-- ---- vectors in lowest terms
-- a number of which k divides the size is a multiple of k
multiple : (k : ℕ) (x : ℤ) → 0 < k → k ∣ nat_abs x → x ≡ pos k *ℤ int_div x (pos k)
multiple k x p d = quot_exact x (pos k) (omega (arith, ints, p)) d

divides-one : (k : ℕ) (m : ℤ) → pos k *ℤ m ≡ pos 1 → k ≡ 1
divides-one k m e =
    let f : k * nat_abs m ≡ 1 = sym (unsigned_abs-mul (pos k) m) ∙ ap nat_abs e in
    one k (nat_abs m) f
  where
    one : (a b : ℕ) → a * b ≡ 1 → a ≡ 1
    one zero b e = absurd (omega (arith, e))
    one (suc zero) b e = refl
    one (suc (suc a)) zero e = absurd (omega (arith, e))
    one (suc (suc a)) (suc b) e = absurd (omega (arith, e, mul-le (suc (suc a)) 1 (suc (suc a)) (suc b) (omega arith) (omega arith)))

pub primitive-lowest : (d : Vector) → IsPrimitive d → IsLowest (direction_numbers d)
primitive-lowest d P k D = by k D
  where
    by : (k : ℕ) → DividesAll k (direction_numbers d) → k ≡ 1
    by zero D = absurd (nothing (zero-size d.x D.0) (zero-size d.y D.1.0) (zero-size d.z D.1.1.0))
      where
        zero-size : (x : ℤ) → 0 ∣ nat_abs x → x ≡ pos 0
        zero-size x h = no (nat_abs x) refl h
          where
            no : (n : ℕ) → nat_abs x ≡ n → 0 ∣ n → x ≡ pos 0
            no zero e h = omega (arith, ints, e)
            no (suc n) e h = absurd (let l : 0 < 0 = pos_of_dvd_of_pos h (omega arith) in omega (arith, l))

        nothing : d.x ≡ pos 0 → d.y ≡ pos 0 → d.z ≡ pos 0 → ⊥
        nothing a b c =
            let xs = P.by.x ∷ P.by.y ∷ P.by.z ∷ d.x ∷ d.y ∷ d.z ∷ [] in
            let e : pos 1 ≡ pos 0 = follows xs (num (pos 1)) (num (pos 0))
            (given (at 0) (at 3) (num (pos 0)) a (given (at 1) (at 4) (num (pos 0)) b (given (at 2) (at 5) (num (pos 0)) c (given (num (negsuc 0)) (at 0 ⊗ at 3 ⊕ at 1 ⊗ at 4 ⊕ at 2 ⊗ at 5) (num (pos 1)) P.one none)))) tt in
            omega (arith, ints, e)
    by (suc k) D =
        let a = int_div d.x (pos (suc k)) in let b = int_div d.y (pos (suc k)) in let c = int_div d.z (pos (suc k)) in
        let xs = P.by.x ∷ P.by.y ∷ P.by.z ∷ d.x ∷ d.y ∷ d.z ∷ a ∷ b ∷ c ∷ pos (suc k) ∷ [] in
        divides-one (suc k) (P.by.x *ℤ a +ℤ P.by.y *ℤ b +ℤ P.by.z *ℤ c)
        (follows xs (at 9 ⊗ (at 0 ⊗ at 6 ⊕ at 1 ⊗ at 7 ⊕ at 2 ⊗ at 8)) (num (pos 1))
        (given (num (negsuc 0) ⊗ at 0) (at 3) (at 9 ⊗ at 6) (multiple (suc k) d.x (omega arith) D.0)
        (given (num (negsuc 0) ⊗ at 1) (at 4) (at 9 ⊗ at 7) (multiple (suc k) d.y (omega arith) D.1.0)
        (given (num (negsuc 0) ⊗ at 2) (at 5) (at 9 ⊗ at 8) (multiple (suc k) d.z (omega arith) D.1.1.0)
        (given (num (pos 1)) (at 0 ⊗ at 3 ⊕ at 1 ⊗ at 4 ⊕ at 2 ⊗ at 5) (num (pos 1)) P.one none)))) tt)

-- a direction that is parallel to one in lowest terms is a multiple of that, which is at most as large
module _ (v d : Vector) (i : IsDirection v) (z : IsZero (cross v d)) (P : IsPrimitive d) where
  factor : ℤ
  factor = dot P.by v

  abbrev xs : List ℤ
  xs = P.by.x ∷ P.by.y ∷ P.by.z ∷ d.x ∷ d.y ∷ d.z ∷ v.x ∷ v.y ∷ v.z ∷ []

  of-x : v.x ≡ dot P.by v *ℤ d.x
  of-x = follows xs (at 6) ((at 0 ⊗ at 6 ⊕ at 1 ⊗ at 7 ⊕ at 2 ⊗ at 8) ⊗ at 3)
      (given (num (negsuc 0) ⊗ at 6) (at 0 ⊗ at 3 ⊕ at 1 ⊗ at 4 ⊕ at 2 ⊗ at 5) (num (pos 1)) P.one
      (given (at 1) (at 6 ⊗ at 4 ⊖ at 7 ⊗ at 3) (num (pos 0)) z.2
      (given (num (negsuc 0) ⊗ at 2) (at 8 ⊗ at 3 ⊖ at 6 ⊗ at 5) (num (pos 0)) z.1 none))) tt

  of-y : v.y ≡ dot P.by v *ℤ d.y
  of-y = follows xs (at 7) ((at 0 ⊗ at 6 ⊕ at 1 ⊗ at 7 ⊕ at 2 ⊗ at 8) ⊗ at 4)
      (given (num (negsuc 0) ⊗ at 7) (at 0 ⊗ at 3 ⊕ at 1 ⊗ at 4 ⊕ at 2 ⊗ at 5) (num (pos 1)) P.one
      (given (num (negsuc 0) ⊗ at 0) (at 6 ⊗ at 4 ⊖ at 7 ⊗ at 3) (num (pos 0)) z.2
      (given (at 2) (at 7 ⊗ at 5 ⊖ at 8 ⊗ at 4) (num (pos 0)) z.0 none))) tt

  of-z : v.z ≡ dot P.by v *ℤ d.z
  of-z = follows xs (at 8) ((at 0 ⊗ at 6 ⊕ at 1 ⊗ at 7 ⊕ at 2 ⊗ at 8) ⊗ at 5)
      (given (num (negsuc 0) ⊗ at 8) (at 0 ⊗ at 3 ⊕ at 1 ⊗ at 4 ⊕ at 2 ⊗ at 5) (num (pos 1)) P.one
      (given (at 0) (at 8 ⊗ at 3 ⊖ at 6 ⊗ at 5) (num (pos 0)) z.1
      (given (num (negsuc 0) ⊗ at 1) (at 7 ⊗ at 5 ⊖ at 8 ⊗ at 4) (num (pos 0)) z.0 none))) tt

  zero-times : (x m e : ℤ) → x ≡ m *ℤ e → m ≡ pos 0 → x ≡ pos 0
  zero-times x m e q h = q ∙ ap (λ k. k *ℤ e) h ∙ ring (e ∷ []) (num (pos 0) ⊗ at 0) (num (pos 0)) tt

  some : dot P.by v ≡ pos 0 → ⊥
  some h = i (zero-times v.x (dot P.by v) d.x of-x h, zero-times v.y (dot P.by v) d.y of-y h, zero-times v.z (dot P.by v) d.z of-z h)

  part : (n : ℕ) (x m e : ℤ) → (m ≡ pos 0 → ⊥) → x ≡ m *ℤ e → nat_abs x ≤ n → nat_abs e ≤ n
  part n x m e f q l = by (nat_abs m) refl
    where
      by : (k : ℕ) → nat_abs m ≡ k → nat_abs e ≤ n
      by zero h = absurd (f (omega (arith, ints, h)))
      by (suc k) h =
          let r : nat_abs x ≡ nat_abs m * nat_abs e = ap nat_abs q ∙ unsigned_abs-mul m e in
          let s : nat_abs x ≡ suc k * nat_abs e = r ∙ ap (λ j. j * nat_abs e) h in
          omega (arith, s, l, mul-le 1 (nat_abs e) (suc k) (nat_abs e) (omega arith) (omega arith))

  pub lowest-small : (n : ℕ) → IsAtMost n v → IsAtMost n d
  lowest-small n l = record { of_x = part n v.x (dot P.by v) d.x some of-x l.of_x; of_y = part n v.y (dot P.by v) d.y some of-y l.of_y; of_z = part n v.z (dot P.by v) d.z some of-z l.of_z }
