-- A computation on machine integers, the polynomial that it is meant to be, and a test that computes from bounds on the
-- variables whether every step stays in its type.
use Rattle.std.specs.Prelude.{ℕ, zero, suc, ◌+◌, ◌*◌, ◌^◌, ◌≤◌, ℤ, ◌+ℤ◌, ◌-ℤ◌, ◌*ℤ◌, neg_ℤ, Bool, true, false, cond, ltb, List, [], ◌∷◌, unsigned_abs}
use Rattle.std.proofs.Common.{to_z, of_z}
use mir.Syntax.{Width}
use mir.Val.{hbits}
use Rattle.nef_space.specs.Polynomial.{Poly, at, num, neg, ◌⊕◌, ◌⊖◌, ◌⊗◌, entry}

-- `wrap w e` is e kept in the signed type of width w, shown in goals as to_z w (of_z w e)
infixl 6 ◌⊞◌ ◌⊟◌
infixl 7 ◌⊠◌
pub data Code : Type 0 where
  load : ℕ → Code
  const : ℤ → Code
  wrap : Width → Code → Code
  negate : Code → Code
  ◌⊞◌ : Code → Code → Code
  ◌⊟◌ : Code → Code → Code
  ◌⊠◌ : Code → Code → Code

-- what the machine computes at the values xs
abbrev pub run : List ℤ → Code → ℤ
run xs (load n) = entry xs n
run xs (const z) = z
run xs (wrap w e) = to_z w (of_z w (run xs e))
run xs (negate a) = neg_ℤ (run xs a)
run xs (a ⊞ b) = run xs a +ℤ run xs b
run xs (a ⊟ b) = run xs a -ℤ run xs b
run xs (a ⊠ b) = run xs a *ℤ run xs b

-- the polynomial that the computation is meant to be
abbrev pub meant : Code → Poly
meant (load n) = at n
meant (const z) = num z
meant (wrap w e) = meant e
meant (negate a) = neg (meant a)
meant (a ⊞ b) = meant a ⊕ meant b
meant (a ⊟ b) = meant a ⊖ meant b
meant (a ⊠ b) = meant a ⊗ meant b

abbrev pub limit_at : List ℕ → ℕ → ℕ
limit_at [] n = 0
limit_at (x ∷ xs) zero = x
limit_at (x ∷ xs) (suc n) = limit_at xs n

-- a bound on the size of the result, computed from the bounds on the variables
abbrev pub limit : List ℕ → Code → ℕ
limit bs (load n) = limit_at bs n
limit bs (const z) = unsigned_abs z
limit bs (wrap w e) = limit bs e
limit bs (negate a) = limit bs a
limit bs (a ⊞ b) = limit bs a + limit bs b
limit bs (a ⊟ b) = limit bs a + limit bs b
limit bs (a ⊠ b) = limit bs a * limit bs b

-- the test: the bound of each wrapped step is below that of its type
abbrev pub fits : List ℕ → Code → Bool
fits bs (load n) = true
fits bs (const z) = true
fits bs (wrap w e) = cond (ltb (limit bs e) (2 ^ hbits w)) (fits bs e) false
fits bs (negate a) = fits bs a
fits bs (a ⊞ b) = cond (fits bs a) (fits bs b) false
fits bs (a ⊟ b) = cond (fits bs a) (fits bs b) false
fits bs (a ⊠ b) = cond (fits bs a) (fits bs b) false

-- each variable is within its bound
abbrev pub Limited : List ℕ → List ℤ → Type 0
Limited bs [] = Unit {0}
Limited [] (x ∷ xs) = (unsigned_abs x ≤ 0) × Limited [] xs
Limited (b ∷ bs) (x ∷ xs) = (unsigned_abs x ≤ b) × Limited bs xs
