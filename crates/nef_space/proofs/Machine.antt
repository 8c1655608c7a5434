-- A computation on machine integers, read as one on whole numbers: where the sizes of its variables
-- are bounded, a test that computes shows that no step leaves its type.
use Rattle.nef_space.proofs.Prelude.{◌≡◌, ℕ, zero, suc, ◌+◌, ◌*◌, ◌^◌, ◌≤◌, ℤ, ◌+ℤ◌, ◌*ℤ◌, neg_ℤ, Bool, true, false, cond, ltb, List, [], ◌∷◌, arith, refl, ap, ◌∙◌, FitsSigned, to_z, of_z, ints, to_z-of_z, fits_signed_from_abs, unsigned_abs-mul, entry, value}
use Rattle.std.specs.Prelude.{◌-ℤ◌}
use Rattle.std.specs.Int.RustNames.{unsigned_abs}
use lib.Dec.{T, ltb→lt, leb, leb→le}
use mir.Syntax.{Width}
use mir.Val.{hbits}
pub use Rattle.nef_space.specs.Machine.{Code, load, const, wrap, negate, ◌⊞◌, ◌⊟◌, ◌⊠◌, run, meant, limit, fits, Limited}
use Rattle.nef_space.specs.Machine.{limit_at}

pub record Meant (bs : List ℕ) (xs : List ℤ) (e : Code) : Type 0 where
  pub exact : run xs e ≡ value xs (meant e)
  pub small : unsigned_abs (value xs (meant e)) ≤ limit bs e

pub both_left : (a b : Bool) → T (cond a b false) → T a
both_left true b h = tt
both_left false b h = absurd h

pub both_right : (a b : Bool) → T (cond a b false) → T b
both_right true b h = h
both_right false b h = absurd h

entry-limited : (bs : List ℕ) (xs : List ℤ) (n : ℕ) → Limited bs xs → unsigned_abs (entry xs n) ≤ limit_at bs n
entry-limited [] [] n h = omega arith
entry-limited (b ∷ bs) [] n h = omega arith
entry-limited [] (x ∷ xs) zero h = h.0
entry-limited [] (x ∷ xs) (suc n) h = entry-limited [] xs n h.1
entry-limited (b ∷ bs) (x ∷ xs) zero h = h.0
entry-limited (b ∷ bs) (x ∷ xs) (suc n) h = entry-limited bs xs n h.1

abs-add : (a b : ℤ) (m n : ℕ) → unsigned_abs a ≤ m → unsigned_abs b ≤ n → unsigned_abs (a +ℤ b) ≤ m + n
abs-add a b m n p q = omega (arith, ints)

abs-sub : (a b : ℤ) (m n : ℕ) → unsigned_abs a ≤ m → unsigned_abs b ≤ n → unsigned_abs (a -ℤ b) ≤ m + n
abs-sub a b m n p q = omega (arith, ints)

abs-neg : (a : ℤ) (m : ℕ) → unsigned_abs a ≤ m → unsigned_abs (neg_ℤ a) ≤ m
abs-neg a m p = omega (arith, ints)

mul_le : (a b m n : ℕ) → a ≤ m → b ≤ n → a * b ≤ m * n
mul_le a b m n p q = grind arith

abs-mul : (a b : ℤ) (m n : ℕ) → unsigned_abs a ≤ m → unsigned_abs b ≤ n → unsigned_abs (a *ℤ b) ≤ m * n
abs-mul a b m n p q = rw (unsigned_abs-mul a b) (mul_le _ _ m n p q)

pub meant_of : (bs : List ℕ) (xs : List ℤ) (e : Code) → Limited bs xs → T (fits bs e) → Meant bs xs e
meant_of bs xs (load n) l t = record { exact = refl; small = entry-limited bs xs n l }
meant_of bs xs (const z) l t = record { exact = refl; small = omega arith }
meant_of bs xs (wrap w e) l t =
    let h : Meant bs xs e = meant_of bs xs e l (both_right (ltb (limit bs e) (2 ^ hbits w)) (fits bs e) t) in
    let f : FitsSigned w (value xs (meant e)) = fits_signed_from_abs w (value xs (meant e)) (omega (arith, h.small, ltb→lt (limit bs e) (2 ^ hbits w) (both_left (ltb (limit bs e) (2 ^ hbits w)) (fits bs e) t))) in
    record { exact = ap (λ x. to_z w (of_z w x)) h.exact ∙ to_z-of_z w (value xs (meant e)) f; small = h.small }
meant_of bs xs (negate a) l t =
    let h : Meant bs xs a = meant_of bs xs a l t in
    record { exact = ap neg_ℤ h.exact; small = abs-neg (value xs (meant a)) _ h.small }
meant_of bs xs (a ⊞ b) l t =
    let h : Meant bs xs a = meant_of bs xs a l (both_left _ _ t) in
    let k : Meant bs xs b = meant_of bs xs b l (both_right _ _ t) in
    record { exact = ap (λ x. x +ℤ run xs b) h.exact ∙ ap (λ x. value xs (meant a) +ℤ x) k.exact; small = abs-add (value xs (meant a)) (value xs (meant b)) _ _ h.small k.small }
meant_of bs xs (a ⊟ b) l t =
    let h : Meant bs xs a = meant_of bs xs a l (both_left _ _ t) in
    let k : Meant bs xs b = meant_of bs xs b l (both_right _ _ t) in
    record { exact = ap (λ x. x -ℤ run xs b) h.exact ∙ ap (λ x. value xs (meant a) -ℤ x) k.exact; small = abs-sub (value xs (meant a)) (value xs (meant b)) _ _ h.small k.small }
meant_of bs xs (a ⊠ b) l t =
    let h : Meant bs xs a = meant_of bs xs a l (both_left _ _ t) in
    let k : Meant bs xs b = meant_of bs xs b l (both_right _ _ t) in
    record { exact = ap (λ x. x *ℤ run xs b) h.exact ∙ ap (λ x. value xs (meant a) *ℤ x) k.exact; small = abs-mul (value xs (meant a)) (value xs (meant b)) _ _ h.small k.small }

-- the computation is the one on whole numbers
pub exact_of : (bs : List ℕ) (xs : List ℤ) (e : Code) → Limited bs xs → T (fits bs e) → run xs e ≡ value xs (meant e)
exact_of bs xs e l t = (meant_of bs xs e l t).exact

-- its last step does not leave the type
pub fits_of : (bs : List ℕ) (xs : List ℤ) (w : Width) (e : Code) → Limited bs xs → T (fits bs (wrap w e)) → FitsSigned w (run xs e)
fits_of bs xs w e l t =
    let h : Meant bs xs e = meant_of bs xs e l (both_right (ltb (limit bs e) (2 ^ hbits w)) (fits bs e) t) in
    rw h.exact (fits_signed_from_abs w (value xs (meant e)) (omega (arith, h.small, ltb→lt (limit bs e) (2 ^ hbits w) (both_left (ltb (limit bs e) (2 ^ hbits w)) (fits bs e) t))))

-- a bound on what it gives
pub size_of : (bs : List ℕ) (xs : List ℤ) (n : ℕ) (e : Code) → Limited bs xs → T (fits bs e) → T (leb (limit bs e) n) → unsigned_abs (run xs e) ≤ n
size_of bs xs n e l t s =
    let h : Meant bs xs e = meant_of bs xs e l t in
    rw h.exact (omega (arith, h.small, leb→le (limit bs e) n s))
