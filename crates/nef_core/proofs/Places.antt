-- Places of lists, with one of them set.
use Rattle.nef_core.proofs.Prelude.{◌≡◌, ℕ, zero, suc, ◌+◌, ◌<◌, ◌≢◌, List, [], ◌∷◌, ◌++◌, length, refl, ap, sym, Some, slice_get, slice_set, replicate, arith, ◌⊎◌, ◌∙◌, inl, inr, Option, None}
use mathlib.Core.Option.{some, some-injective, some-ne-none}
use lib.ListN.{get_elem?}

pub get_set_here : {X : Type 0} (xs : List X) (i : ℕ) (x : X) → i < length xs → slice_get (slice_set xs i x) i ≡ Some x
get_set_here [] i x h = absurd (omega arith)
get_set_here (y ∷ ys) zero x h = refl
get_set_here (y ∷ ys) (suc i) x h = get_set_here ys i x (omega arith)

pub get_set_other : {X : Type 0} (xs : List X) (i j : ℕ) (x : X) → j ≢ i → slice_get (slice_set xs i x) j ≡ slice_get xs j
get_set_other [] i j x n = refl
get_set_other (y ∷ ys) zero zero x n = absurd (n refl)
get_set_other (y ∷ ys) zero (suc j) x n = refl
get_set_other (y ∷ ys) (suc i) zero x n = refl
get_set_other (y ∷ ys) (suc i) (suc j) x n = get_set_other ys i j x (λ e. n (ap suc e))

pub same_or_not : (i j : ℕ) → (i ≡ j) ⊎ (i ≢ j)
same_or_not zero zero = inl refl
same_or_not zero (suc j) = inr (λ e. omega arith)
same_or_not (suc i) zero = inr (λ e. omega arith)
same_or_not (suc i) (suc j) = elim (same_or_not i j) [ inl e ↦ inl (ap suc e) | inr n ↦ inr (λ e. n (omega arith)) ]

pub get_replicate : {X : Type 0} (n j : ℕ) (x : X) → j < n → slice_get (replicate n x) j ≡ Some x
get_replicate zero j x h = absurd (omega arith)
get_replicate (suc n) zero x h = refl
get_replicate (suc n) (suc j) x h = get_replicate n j x (omega arith)

-- one time more, at the end
pub replicate_more : {X : Type 0} (n : ℕ) (x : X) → replicate n x ++ x ∷ [] ≡ replicate (n + 1) x
replicate_more zero x = refl
replicate_more (suc n) x =
    let e : suc (n + 1) ≡ suc n + 1 = omega arith in
    ap (λ l. x ∷ l) (replicate_more n x) ∙ ap (λ (k : ℕ). replicate k x) e

-- a place more, with nothing there
pub none_more : {X : Type 0} (list : List (Option X)) → ((k : ℕ) (x : X) → slice_get list k ≡ Some (Some x) → ⊥) → (k : ℕ) (x : X) → slice_get (list ++ None ∷ []) k ≡ Some (Some x) → ⊥
none_more [] none zero x e = cc
none_more [] none (suc k) x e = cc
none_more (y ∷ ys) none zero x e = none 0 x e
none_more (y ∷ ys) none (suc k) x e = none_more ys (λ j z h. none (suc j) z h) k x e

-- places of a list of views
pub within : {A : Type 0} (l : List A) (i : ℕ) (a : A) → get_elem? l i ≡ some a → i < length l
within [] i a e = absurd (some-ne-none a (sym e))
within (x ∷ xs) zero a e = omega arith
within (x ∷ xs) (suc i) a e = let h = within xs i a e in omega arith

pub at_length : {A : Type 0} (l : List A) (a : A) → get_elem? (l ++ a ∷ []) (length l) ≡ some a
at_length [] a = refl
at_length (x ∷ xs) a = at_length xs a

pub below_last : {A : Type 0} (l : List A) (a : A) (j : ℕ) (b : A) → j ≢ length l → get_elem? (l ++ a ∷ []) j ≡ some b → get_elem? l j ≡ some b
below_last [] a zero b n e = absurd (n refl)
below_last [] a (suc j) b n e = absurd (some-ne-none b (sym e))
below_last (x ∷ xs) a zero b n e = e
below_last (x ∷ xs) a (suc j) b n e = below_last xs a j b (λ q. n (ap suc q)) e

pub only_one : {A : Type 0} (place : ℕ) (v u : A) → get_elem? (v ∷ []) place ≡ some u → (place ≡ 0) × (v ≡ u)
only_one zero v u h = (refl, some-injective v u h)
only_one (suc place) v u h = absurd (some-ne-none u (sym h))
