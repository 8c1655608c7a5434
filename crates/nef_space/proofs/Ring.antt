-- Equations between polynomials with whole coefficients, decided by computation.
use Rattle.nef_space.proofs.Prelude.{◌≡◌, ℕ, ℤ, pos, negsuc, ◌+ℤ◌, ◌*ℤ◌, neg_ℤ, arith, refl, ap, sym, ◌∙◌, Bool, true, false, ◌&&◌, T, ltb, eqb, List, [], ◌∷◌, ◌++◌, ints, insert_variable, insert_variables, Term, times_term, times_terms, negated_terms, terms, Tree, leaf, node, KeyOrder, key_less, key_same, key_more, order_keys, gather_term, gather_terms, is_nought, all_nought}
use Rattle.std.proofs.lemmas.Bool.{eqb-true}
use Rattle.nef_space.proofs.Products.{*ℤ_distribute, *ℤ_assoc, neg-*ℤ}
pub use Rattle.nef_space.specs.Polynomial.{Poly, at, num, neg, ◌⊕◌, ◌⊖◌, ◌⊗◌, entry, value, IsNought}
use lib.Dec.{eqb→eq}
use lib.IntN.{*ℤ_comm, zero-*ℤ, *ℤ-zero}

-- a product of variables
abbrev pub product : List ℤ → List ℕ → ℤ
product xs [] = pos 1
product xs (n ∷ m) = entry xs n *ℤ product xs m

abbrev pub term_value : List ℤ → Term → ℤ
term_value xs t = t.by *ℤ product xs t.of

abbrev pub terms_value : List ℤ → List Term → ℤ
terms_value xs [] = pos 0
terms_value xs (t ∷ ts) = term_value xs t +ℤ terms_value xs ts

-- ---- that the computation is right
swap : (a b c : ℤ) → a *ℤ (b *ℤ c) ≡ b *ℤ (a *ℤ c)
swap a b c = sym (*ℤ_assoc a b c) ∙ ap (λ z. z *ℤ c) (*ℤ_comm a b) ∙ *ℤ_assoc b a c

distribute_right : (a b c : ℤ) → (a +ℤ b) *ℤ c ≡ a *ℤ c +ℤ b *ℤ c
distribute_right a b c = *ℤ_comm (a +ℤ b) c ∙ *ℤ_distribute c a b ∙ ap (λ z. z +ℤ c *ℤ b) (*ℤ_comm c a) ∙ ap (λ z. a *ℤ c +ℤ z) (*ℤ_comm c b)

pub one_times : (a : ℤ) → pos 1 *ℤ a ≡ a
one_times a = omega (arith, ints)

put-value : (xs : List ℤ) (n : ℕ) (m : List ℕ) → product xs (insert_variable n m) ≡ entry xs n *ℤ product xs m
put-value xs n [] = refl
put-value xs n (k ∷ m) = by (ltb k n) (put-value xs n m)
  where
    by : (t : Bool) → product xs (insert_variable n m) ≡ entry xs n *ℤ product xs m → product xs (elim t [ true ↦ k ∷ insert_variable n m | false ↦ n ∷ k ∷ m ]) ≡ entry xs n *ℤ (entry xs k *ℤ product xs m)
    by true h = ap (λ z. entry xs k *ℤ z) h ∙ swap (entry xs k) (entry xs n) (product xs m)
    by false h = refl

insert_variables-value : (xs : List ℤ) (l m : List ℕ) → product xs (insert_variables l m) ≡ product xs l *ℤ product xs m
insert_variables-value xs [] m = sym (one_times (product xs m))
insert_variables-value xs (n ∷ l) m = put-value xs n (insert_variables l m) ∙ ap (λ z. entry xs n *ℤ z) (insert_variables-value xs l m) ∙ sym (*ℤ_assoc (entry xs n) (product xs l) (product xs m))

append-value : (xs : List ℤ) (ts ss : List Term) → terms_value xs (ts ++ ss) ≡ terms_value xs ts +ℤ terms_value xs ss
append-value xs [] ss = omega (arith, ints)
append-value xs (t ∷ ts) ss = let h = append-value xs ts ss in omega (arith, ints)

negated-value : (xs : List ℤ) (ts : List Term) → terms_value xs (negated_terms ts) ≡ neg_ℤ (terms_value xs ts)
negated-value xs [] = refl
negated-value xs (t ∷ ts) = let h = negated-value xs ts in let e = neg-*ℤ t.by (product xs t.of) in omega (arith, ints)

times_term-value : (xs : List ℤ) (t : Term) (ss : List Term) → terms_value xs (times_term t ss) ≡ term_value xs t *ℤ terms_value xs ss
times_term-value xs t [] = sym (*ℤ-zero (term_value xs t))
times_term-value xs t (s ∷ ss) =
    let h = times_term-value xs t ss in
    let e = ap (λ z. t.by *ℤ s.by *ℤ z) (insert_variables-value xs t.of s.of) ∙ *ℤ_assoc t.by s.by (product xs t.of *ℤ product xs s.of) ∙ ap (λ z. t.by *ℤ z) (swap s.by (product xs t.of) (product xs s.of)) ∙ sym (*ℤ_assoc t.by (product xs t.of) (s.by *ℤ product xs s.of)) in
    ap (λ z. z +ℤ terms_value xs (times_term t ss)) e ∙ ap (λ z. term_value xs t *ℤ term_value xs s +ℤ z) h ∙ sym (*ℤ_distribute (term_value xs t) (term_value xs s) (terms_value xs ss))

times-value : (xs : List ℤ) (ts ss : List Term) → terms_value xs (times_terms ts ss) ≡ terms_value xs ts *ℤ terms_value xs ss
times-value xs [] ss = sym (zero-*ℤ (terms_value xs ss))
times-value xs (t ∷ ts) ss = append-value xs (times_term t ss) (times_terms ts ss) ∙ ap (λ z. z +ℤ terms_value xs (times_terms ts ss)) (times_term-value xs t ss) ∙ ap (λ z. term_value xs t *ℤ terms_value xs ss +ℤ z) (times-value xs ts ss) ∙ sym (distribute_right (term_value xs t) (terms_value xs ts) (terms_value xs ss))

terms-value : (xs : List ℤ) (p : Poly) → terms_value xs (terms p) ≡ value xs p
terms-value xs (at n) = omega (arith, ints)
terms-value xs (num z) = omega (arith, ints)
terms-value xs (neg p) = negated-value xs (terms p) ∙ ap neg_ℤ (terms-value xs p)
terms-value xs (p ⊕ q) = append-value xs (terms p) (terms q) ∙ ap (λ z. z +ℤ terms_value xs (terms q)) (terms-value xs p) ∙ ap (λ z. value xs p +ℤ z) (terms-value xs q)
terms-value xs (p ⊖ q) = append-value xs (terms p) (negated_terms (terms q)) ∙ ap (λ z. z +ℤ terms_value xs (negated_terms (terms q))) (terms-value xs p) ∙ ap (λ z. value xs p +ℤ z) (negated-value xs (terms q) ∙ ap neg_ℤ (terms-value xs q))
terms-value xs (p ⊗ q) = times-value xs (terms p) (terms q) ∙ ap (λ z. z *ℤ terms_value xs (terms q)) (terms-value xs p) ∙ ap (λ z. value xs p *ℤ z) (terms-value xs q)

abbrev pub tree_value : List ℤ → Tree → ℤ
tree_value xs leaf = pos 0
tree_value xs (node l k w r) = tree_value xs l +ℤ (w *ℤ product xs k +ℤ tree_value xs r)

order-same : (l m : List ℕ) → order_keys l m ≡ key_same → l ≡ m
order-same [] [] e = refl
order-same [] (k ∷ m) e = cc
order-same (n ∷ l) [] e = cc
order-same (n ∷ l) (k ∷ m) e = by (eqb n k) refl (order-same l m) e
  where
    by : (t : Bool) → eqb n k ≡ t → (order_keys l m ≡ key_same → l ≡ m) → elim t [ true ↦ order_keys l m | false ↦ elim (ltb n k) [ true ↦ key_less | false ↦ key_more ] ] ≡ key_same → n ∷ l ≡ k ∷ m
    by true q r h = ap (λ i. i ∷ l) (eqb-true n k q) ∙ ap (λ i. k ∷ i) (r h)
    by false q r h = absurd (never (ltb n k) h)
      where
        never : (t : Bool) → elim t [ true ↦ key_less | false ↦ key_more ] ≡ key_same → ⊥
        never true e = cc
        never false e = cc

gather_term-value : (xs : List ℤ) (m : List ℕ) (z : ℤ) (t : Tree) → tree_value xs (gather_term m z t) ≡ z *ℤ product xs m +ℤ tree_value xs t
gather_term-value xs m z leaf = omega (arith, ints)
gather_term-value xs m z (node l k w r) = by (order_keys m k) refl (gather_term-value xs m z l) (gather_term-value xs m z r)
  where
    by : (o : KeyOrder) → order_keys m k ≡ o → tree_value xs (gather_term m z l) ≡ z *ℤ product xs m +ℤ tree_value xs l → tree_value xs (gather_term m z r) ≡ z *ℤ product xs m +ℤ tree_value xs r → tree_value xs (elim o [ key_less ↦ node (gather_term m z l) k w r | key_same ↦ node l k (z +ℤ w) r | key_more ↦ node l k w (gather_term m z r) ]) ≡ z *ℤ product xs m +ℤ tree_value xs (node l k w r)
    by key_less e f g = omega (arith, ints)
    by key_same e f g = let q = ap (product xs) (order-same m k e) in let d = distribute_right z w (product xs k) in let h = ap (λ i. z *ℤ i) q in omega (arith, ints)
    by key_more e f g = omega (arith, ints)

gather-value : (xs : List ℤ) (ts : List Term) → tree_value xs (gather_terms ts) ≡ terms_value xs ts
gather-value xs [] = refl
gather-value xs (t ∷ ts) = gather_term-value xs t.of t.by (gather_terms ts) ∙ ap (λ z. t.by *ℤ product xs t.of +ℤ z) (gather-value xs ts)

both : (a b : Bool) → T (a && b) → T a × T b
both true true h = (tt, tt)
both true false h = absurd h
both false b h = absurd h

nought-is : (z : ℤ) → T (is_nought z) → z ≡ pos 0
nought-is (pos n) h = ap pos (eqb→eq n 0 h)
nought-is (negsuc n) h = absurd h

all_nought-value : (xs : List ℤ) (t : Tree) → T (all_nought t) → tree_value xs t ≡ pos 0
all_nought-value xs leaf h = refl
all_nought-value xs (node l k w r) h =
    let a = both (is_nought w) (all_nought l && all_nought r) h in
    let b = both (all_nought l) (all_nought r) a.1 in
    let e = nought-is w a.0 in
    let f = ap (λ z. z *ℤ product xs k) e ∙ zero-*ℤ (product xs k) in
    let g = all_nought-value xs l b.0 in
    let i = all_nought-value xs r b.1 in
    omega (arith, ints)

-- a polynomial whose gathered terms are all nought is nought everywhere
pub is_zero : (xs : List ℤ) (p : Poly) → IsNought p → value xs p ≡ pos 0
is_zero xs p h = sym (terms-value xs p) ∙ sym (gather-value xs (terms p)) ∙ all_nought-value xs (gather_terms (terms p)) h

-- two polynomials whose difference gathers to nought are equal everywhere
pub ring : (xs : List ℤ) (p q : Poly) → IsNought (p ⊖ q) → value xs p ≡ value xs q
ring xs p q h = let e = is_zero xs (p ⊖ q) h in omega (arith, ints)
