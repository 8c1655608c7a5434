-- Numbers that only 1 divides have whole multiples that add up to 1.
use Rattle.nef_smap.proofs.Prelude.{◌≡◌, ℕ, zero, suc, ◌+◌, ◌-◌, ◌≤◌, ℤ, pos, negsuc, ◌+ℤ◌, ◌-ℤ◌, ◌*ℤ◌, nat_abs, [], ◌∷◌, arith, ap, subst, inl, inr, ◌∣◌, dvd-add, ints, dvd_trans, dvd-zero, cases_lt, at, num, neg, ◌⊕◌, ◌⊖◌, ◌⊗◌, follows, given, none, IsLowest, Vector, vector, direction_numbers, vector_of, Dir, IsPrimitive}
use Rattle.std.proofs.lemmas.Nat.Gcd.{dvd_refl}

-- a common divisor that is a sum of multiples
record Combined (a b : ℕ) : Type 0 where
  divisor : ℕ
  first : ℤ
  second : ℤ
  is : first *ℤ pos a +ℤ second *ℤ pos b ≡ pos divisor
  left : divisor ∣ a
  right : divisor ∣ b

swapped : (a b : ℕ) → Combined a b → Combined b a
swapped a b s = record {
  divisor = s.divisor;
  first = s.second;
  second = s.first;
  is =
      follows (s.first ∷ s.second ∷ pos a ∷ pos b ∷ pos s.divisor ∷ []) (at 1 ⊗ at 3 ⊕ at 0 ⊗ at 2) (at 4)
      (given (num (pos 1)) (at 0 ⊗ at 2 ⊕ at 1 ⊗ at 3) (at 4) s.is none) tt;
  left = s.right;
  right = s.left;
}

with_none : (a : ℕ) → Combined a 0
with_none a = record { divisor = a; first = pos 1; second = pos 0; is = omega (arith, ints); left = dvd_refl a; right = dvd-zero a }

minus_step : (a b : ℕ) → b ≤ a → Combined (a - b) b → Combined a b
minus_step a b h s =
    let e : pos (a - b) ≡ pos a -ℤ pos b = omega (arith, ints, h) in
    let f : a - b + b ≡ a = omega (arith, h) in
    record {
      divisor = s.divisor;
      first = s.first;
      second = s.second -ℤ s.first;
      is =
          follows (s.first ∷ s.second ∷ pos a ∷ pos b ∷ pos (a - b) ∷ pos s.divisor ∷ []) (at 0 ⊗ at 2 ⊕ (at 1 ⊖ at 0) ⊗ at 3) (at 5)
          (given (neg (at 0)) (at 4) (at 2 ⊖ at 3) e (given (num (pos 1)) (at 0 ⊗ at 4 ⊕ at 1 ⊗ at 3) (at 5) s.is none)) tt;
      left = subst (λ (n : ℕ). s.divisor ∣ n) f (dvd-add s.divisor {b = a - b} {c = b} s.left s.right);
      right = s.right;
    }

combine : (n a b : ℕ) → a + b ≤ n → Combined a b
combine n a zero h = with_none a
combine n zero (suc b) h = swapped (suc b) 0 (with_none (suc b))
combine zero (suc a) (suc b) h = absurd (omega arith)
combine (suc n) (suc a) (suc b) h =
    elim (cases_lt (suc a) (suc b)) [
      | inl k ↦ swapped (suc b) (suc a) (minus_step (suc b) (suc a) (omega arith) (combine n (suc b - suc a) (suc a) (omega arith)))
      | inr k ↦ minus_step (suc a) (suc b) k (combine n (suc a - suc b) (suc b) (omega arith))
    ]

-- a number's size is a multiple of it
sized : (x : ℤ) → (s : ℤ) × (pos (nat_abs x) ≡ s *ℤ x)
sized (pos n) = (pos 1, omega (arith, ints))
sized (negsuc n) = (negsuc 0, omega (arith, ints))

pub primitive : (d : Vector) → IsLowest (direction_numbers d) → IsPrimitive d
primitive d lowest =
    let x = nat_abs d.x in let y = nat_abs d.y in let z = nat_abs d.z in
    let f = combine (x + y) x y (omega arith) in let g = combine (f.divisor + z) f.divisor z (omega arith) in
    let sx = sized d.x in let sy = sized d.y in let sz = sized d.z in
    let one : g.divisor ≡ 1 = lowest g.divisor (dvd_trans g.divisor g.left f.left, (dvd_trans g.divisor g.left f.right, (g.right, tt))) in
    record {
      by = vector (g.first *ℤ f.first *ℤ sx.0) (g.first *ℤ f.second *ℤ sy.0) (g.second *ℤ sz.0);
      one =
          follows (g.first ∷ f.first ∷ f.second ∷ g.second ∷ sx.0 ∷ sy.0 ∷ sz.0 ∷ d.x ∷ d.y ∷ d.z ∷ pos x ∷ pos y ∷ pos z ∷ pos f.divisor ∷ pos g.divisor ∷ [])
          (at 0 ⊗ at 1 ⊗ at 4 ⊗ at 7 ⊕ at 0 ⊗ at 2 ⊗ at 5 ⊗ at 8 ⊕ at 3 ⊗ at 6 ⊗ at 9) (num (pos 1))
          (given (neg (at 0 ⊗ at 1)) (at 10) (at 4 ⊗ at 7) sx.1
          (given (neg (at 0 ⊗ at 2)) (at 11) (at 5 ⊗ at 8) sy.1
          (given (neg (at 3)) (at 12) (at 6 ⊗ at 9) sz.1
          (given (at 0) (at 1 ⊗ at 10 ⊕ at 2 ⊗ at 11) (at 13) f.is
          (given (num (pos 1)) (at 0 ⊗ at 13 ⊕ at 3 ⊗ at 12) (at 14) g.is
          (given (num (pos 1)) (at 14) (num (pos 1)) (ap pos one) none)))))) tt;
    }

pub dir-primitive : (d : Dir) → IsPrimitive (vector_of d)
dir-primitive d = primitive (vector_of d) d.lowest
