-- The values of a line's words, as the calls take them.
use Rattle.nef_script.proofs.Prelude.{◌≡◌, ℕ, ◌<◌, ◌≤◌, ◌^◌, ℤ, pos, negsuc, ◌<ℤ◌, nat_abs, Bool, true, false, ◌&&◌, refl, subst, arith, w64, to_z, of_z, eqb-true, ints, to_z-of_z, form, SamePoint, vector, IsZero, point_at, point_of, Point, is_zero, IsQuotient}
use Rattle.std.specs.Int.Signed.{mag}
use Rattle.nef_script.proofs.Accepted.{and_parts}

pub quotient : (p : Point) (x y z w x' y' z' w' : ℤ) → x' ≡ x → y' ≡ y → z' ≡ z → w' ≡ w → pos 0 <ℤ w → ((positive : pos 0 <ℤ w') → SamePoint (point_at x' y' z' w' positive) (point_of p)) → IsQuotient p x y z w
quotient p x y z w x' y' z' w' is_x is_y is_z is_w positive same =
    let at_x = subst (λ n. (positive : pos 0 <ℤ w') → SamePoint (point_at n y' z' w' positive) (point_of p)) is_x same in
    let at_y = subst (λ n. (positive : pos 0 <ℤ w') → SamePoint (point_at x n z' w' positive) (point_of p)) is_y at_x in
    let at_z = subst (λ n. (positive : pos 0 <ℤ w') → SamePoint (point_at x y n w' positive) (point_of p)) is_z at_y in
    let at_w = subst (λ n. (positive : pos 0 <ℤ n) → SamePoint (point_at x y z n positive) (point_of p)) is_w at_z in
    (positive, at_w positive)

pub same_form : (a b c d a' b' c' d' : ℤ) → a' ≡ a → b' ≡ b → c' ≡ c → d' ≡ d → form a' b' c' d' ≡ form a b c d
same_form a b c d a' b' c' d' is_a is_b is_c is_d = rw (is_a, is_b, is_c, is_d) refl

pub same_vector : (x y z x' y' z' : ℤ) → x' ≡ x → y' ≡ y → z' ≡ z → vector x' y' z' ≡ vector x y z
same_vector x y z x' y' z' is_x is_y is_z = rw (is_x, is_y, is_z) refl

-- three numbers are zero
pub zero-are : (a b c : ℤ) → IsZero (vector a b c) → (is_zero a && is_zero b && is_zero c) ≡ true
zero-are a b c none = rw (none.0, none.1, none.2) refl

is-zero : (z : ℤ) → is_zero z ≡ true → z ≡ pos 0
is-zero z e = (let none = eqb-true (nat_abs z) 0 e in omega (arith, ints, none))

pub not-zero : (a b c : ℤ) → (IsZero (vector a b c) → ⊥) → (is_zero a && is_zero b && is_zero c) ≡ false
not-zero a b c some = by (is_zero a && is_zero b && is_zero c) refl
  where
    by : (t : Bool) → (is_zero a && is_zero b && is_zero c) ≡ t → t ≡ false
    by false e = refl
    by true e =
        let first = and_parts (is_zero a && is_zero b) (is_zero c) e in
        let second = and_parts (is_zero a) (is_zero b) first.0 in
        absurd (some (is-zero a second.0, is-zero b second.1, is-zero c first.1))

-- a small number is passed on as it is
mag-small : (z : ℤ) (m : ℕ) → nat_abs z ≤ m → m < 2 ^ 63 → mag z < 2 ^ 63
mag-small (pos n) m small fits = omega (arith, small, fits)
mag-small (negsuc n) m small fits = omega (arith, small, fits)

pub passed : (z : ℤ) (m : ℕ) → nat_abs z ≤ m → m < 2 ^ 63 → to_z w64 (of_z w64 z) ≡ z
passed z m small fits = to_z-of_z w64 z (record { sfits = mag-small z m small fits })
