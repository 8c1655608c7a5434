-- What the queue of a round holds after a number or an end is put.
use Rattle.nef_sched.proofs.Prelude.{◌≡◌, ◌∙◌, ℕ, ◌+◌, List, [], ◌∷◌, ◌++◌, length, refl, ap, arith, Option, Some, None, Bool, true, false, ◌||◌, ◌⊎◌, inl, inr, numbers_in, ends_in, EndsLast}

pub one_of : (a b : Bool) → (a || b) ≡ true → (a ≡ true) ⊎ (b ≡ true)
one_of true b e = inl refl
one_of false b e = inr e

pub cons_not_nil : (x : ℕ) (xs : List ℕ) → x ∷ xs ≡ [] → ⊥
cons_not_nil x xs e = cc

pub numbers_more : (items : List (Option ℕ)) (x : ℕ) → numbers_in (items ++ Some x ∷ []) ≡ numbers_in items ++ x ∷ []
numbers_more [] x = refl
numbers_more (None ∷ items) x = numbers_more items x
numbers_more (Some y ∷ items) x = ap (λ l. y ∷ l) (numbers_more items x)

pub numbers_end : (items : List (Option ℕ)) → numbers_in (items ++ None ∷ []) ≡ numbers_in items
numbers_end [] = refl
numbers_end (None ∷ items) = numbers_end items
numbers_end (Some y ∷ items) = ap (λ l. y ∷ l) (numbers_end items)

pub ends_more : (items : List (Option ℕ)) (x : ℕ) → ends_in (items ++ Some x ∷ []) ≡ ends_in items
ends_more [] x = refl
ends_more (None ∷ items) x = ap (λ n. 1 + n) (ends_more items x)
ends_more (Some y ∷ items) x = ends_more items x

pub ends_end : (items : List (Option ℕ)) → ends_in (items ++ None ∷ []) ≡ ends_in items + 1
ends_end [] = refl
ends_end (None ∷ items) = let e = ends_end items in omega arith
ends_end (Some y ∷ items) = ends_end items

pub last_more : (items : List (Option ℕ)) (x : ℕ) → EndsLast items → ends_in items ≡ 0 → EndsLast (items ++ Some x ∷ [])
last_more [] x last none = tt
last_more (None ∷ items) x last none = absurd (omega arith)
last_more (Some y ∷ items) x last none = last_more items x last none

pub last_end : (items : List (Option ℕ)) → EndsLast items → EndsLast (items ++ None ∷ [])
last_end [] last = refl
last_end (None ∷ items) last = numbers_end items ∙ last
last_end (Some y ∷ items) last = last_end items last

-- where no number is left, only ends are
pub last_none : (items : List (Option ℕ)) → numbers_in items ≡ [] → EndsLast items
last_none [] e = tt
last_none (None ∷ items) e = e
last_none (Some y ∷ items) e = absurd (cons_not_nil y (numbers_in items) e)

pub length_in : (items : List (Option ℕ)) → length items ≡ length (numbers_in items) + ends_in items
length_in [] = refl
length_in (None ∷ items) = let e = length_in items in omega arith
length_in (Some y ∷ items) = let e = length_in items in omega arith
