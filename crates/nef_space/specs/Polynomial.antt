-- Polynomials with whole coefficients, their values, and a computed test whether a polynomial is nought for all values.
use Rattle.std.specs.Prelude.{◌≡◌, ℕ, zero, suc, ℤ, pos, negsuc, ◌+ℤ◌, ◌-ℤ◌, ◌*ℤ◌, neg_ℤ, Bool, true, false, ◌&&◌, T, ltb, eqb, List, [], ◌∷◌, ◌++◌}

-- a variable by its number in the list of values, a number, and sums, differences, products and negatives
infixl 6 ◌⊕◌ ◌⊖◌
infixl 7 ◌⊗◌
pub data Poly : Type 0 where
  at : ℕ → Poly
  num : ℤ → Poly
  neg : Poly → Poly
  ◌⊕◌ : Poly → Poly → Poly
  ◌⊖◌ : Poly → Poly → Poly
  ◌⊗◌ : Poly → Poly → Poly

-- number n of the list, or nought past its end
abbrev pub entry : List ℤ → ℕ → ℤ
entry [] n = pos zero
entry (x ∷ xs) zero = x
entry (x ∷ xs) (suc n) = entry xs n

-- the value of the polynomial where the variables have the values xs
abbrev pub value : List ℤ → Poly → ℤ
value xs (at n) = entry xs n
value xs (num z) = z
value xs (neg p) = neg_ℤ (value xs p)
value xs (p ⊕ q) = value xs p +ℤ value xs q
value xs (p ⊖ q) = value xs p -ℤ value xs q
value xs (p ⊗ q) = value xs p *ℤ value xs q

-- ---- the normal form: terms, each a coefficient and a list of variables in increasing order
abbrev pub insert_variable : ℕ → List ℕ → List ℕ
insert_variable n [] = n ∷ []
insert_variable n (k ∷ m) = elim (ltb k n) [ true ↦ k ∷ insert_variable n m | false ↦ n ∷ k ∷ m ]

abbrev pub insert_variables : List ℕ → List ℕ → List ℕ
insert_variables [] m = m
insert_variables (n ∷ l) m = insert_variable n (insert_variables l m)

pub record Term : Type 0 where
  pub by : ℤ
  pub of : List ℕ

abbrev pub times_term : Term → List Term → List Term
times_term t [] = []
times_term t (s ∷ ss) = record { by = t.by *ℤ s.by; of = insert_variables t.of s.of } ∷ times_term t ss

abbrev pub times_terms : List Term → List Term → List Term
times_terms [] ss = []
times_terms (t ∷ ts) ss = times_term t ss ++ times_terms ts ss

abbrev pub negated_terms : List Term → List Term
negated_terms [] = []
negated_terms (t ∷ ts) = record { by = neg_ℤ t.by; of = t.of } ∷ negated_terms ts

abbrev pub terms : Poly → List Term
terms (at n) = record { by = pos 1; of = n ∷ [] } ∷ []
terms (num z) = record { by = z; of = [] } ∷ []
terms (neg p) = negated_terms (terms p)
terms (p ⊕ q) = terms p ++ terms q
terms (p ⊖ q) = terms p ++ negated_terms (terms q)
terms (p ⊗ q) = times_terms (terms p) (terms q)

-- the terms in a search tree by their variables, where coefficients of equal variables are added
pub data Tree : Type 0 where
  leaf : Tree
  node : Tree → List ℕ → ℤ → Tree → Tree

pub data KeyOrder : Type 0 where
  key_less key_same key_more : KeyOrder

abbrev pub order_keys : List ℕ → List ℕ → KeyOrder
order_keys [] [] = key_same
order_keys [] (k ∷ m) = key_less
order_keys (n ∷ l) [] = key_more
order_keys (n ∷ l) (k ∷ m) = elim (eqb n k) [ true ↦ order_keys l m | false ↦ elim (ltb n k) [ true ↦ key_less | false ↦ key_more ] ]

abbrev pub gather_term : List ℕ → ℤ → Tree → Tree
gather_term m z leaf = node leaf m z leaf
gather_term m z (node l k w r) = elim (order_keys m k) [ key_less ↦ node (gather_term m z l) k w r | key_same ↦ node l k (z +ℤ w) r | key_more ↦ node l k w (gather_term m z r) ]

abbrev pub gather_terms : List Term → Tree
gather_terms [] = leaf
gather_terms (t ∷ ts) = gather_term t.of t.by (gather_terms ts)

abbrev pub is_nought : ℤ → Bool
is_nought (pos n) = eqb n 0
is_nought (negsuc n) = false

abbrev pub all_nought : Tree → Bool
all_nought leaf = true
all_nought (node l k w r) = is_nought w && (all_nought l && all_nought r)

-- the test: each coefficient of the normal form is nought
abbrev pub IsNought : Poly → Type 0
IsNought p = T (all_nought (gather_terms (terms p)))

-- ---- equations l = r that are given, each with a polynomial m by which it is multiplied
pub data GivenEquations (xs : List ℤ) : Type 0 where
  none : GivenEquations xs
  given : (m l r : Poly) → value xs l ≡ value xs r → GivenEquations xs → GivenEquations xs

-- the sum of all m (l - r)
abbrev pub weighted_sum : {xs : List ℤ} → GivenEquations xs → Poly
weighted_sum none = num (pos 0)
weighted_sum (given m l r e g) = m ⊗ (l ⊖ r) ⊕ weighted_sum g
