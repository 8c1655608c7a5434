-- The elements of lists that are put together or made one by one, and elements by their places.
use Rattle.nef_space.proofs.Prelude.{◌≡◌, ℕ, zero, suc, ◌+◌, ◌<◌, ◌⊎◌, inl, inr, ⊎_elim, refl, sym, ◌∙◌, ap, arith, List, [], ◌∷◌, ◌++◌, length, subst}
use Rattle.std.proofs.Common.{All, Option, Some, None, map, option_map, get_or, zero-add}
use Rattle.std.proofs.lemmas.Option.{none-some, same_Some, slice_get_within, slice_get-get_or, get_or_from_slice_get, slice_get-map}
use Rattle.nef_space.specs.Signs.{Lies}
use Rattle.nef_space.specs.Lists.{IsAt}

abbrev pub each : {A B : Type 0} → (A → B) → List A → List B
each f [] = []
each f (x ∷ xs) = f x ∷ each f xs

abbrev pub pairs : {A B C : Type 0} → (A → B → C) → List A → List B → List C
pairs f [] ys = []
pairs f (x ∷ xs) ys = each (f x) ys ++ pairs f xs ys

pub lies-left : {A : Type 0} (ks ls : List A) (h : A) → Lies ks h → Lies (ks ++ ls) h
lies-left [] ls h l = absurd l
lies-left (k ∷ ks) ls h (inl e) = inl e
lies-left (k ∷ ks) ls h (inr l) = inr (lies-left ks ls h l)

pub lies-right : {A : Type 0} (ks ls : List A) (h : A) → Lies ls h → Lies (ks ++ ls) h
lies-right [] ls h l = l
lies-right (k ∷ ks) ls h l = inr (lies-right ks ls h l)

pub lies-each : {A B : Type 0} (f : A → B) (xs : List A) (x : A) → Lies xs x → Lies (each f xs) (f x)
lies-each f [] x l = l
lies-each f (y ∷ ys) x (inl e) = inl (ap f e)
lies-each f (y ∷ ys) x (inr l) = inr (lies-each f ys x l)

pub lies-pairs : {A B C : Type 0} (f : A → B → C) (xs : List A) (ys : List B) (x : A) (y : B) → Lies xs x → Lies ys y → Lies (pairs f xs ys) (f x y)
lies-pairs f [] ys x y l m = absurd l
lies-pairs {A} {B} {C} f (z ∷ zs) ys x y (inl e) m = lies-left (each (f z) ys) (pairs f zs ys) (f x y) (subst (λ (a : A). Lies (each (f z) ys) (f a y)) e (lies-each (f z) ys y m))
lies-pairs f (z ∷ zs) ys x y (inr l) m = lies-right (each (f z) ys) (pairs f zs ys) (f x y) (lies-pairs f zs ys x y l m)

pub lies-append : {A : Type 0} (ks ls : List A) (x : A) → Lies (ks ++ ls) x → Lies ks x ⊎ Lies ls x
lies-append [] ls x l = inr l
lies-append (k ∷ ks) ls x (inl e) = inl (inl e)
lies-append (k ∷ ks) ls x (inr l) = ⊎_elim (λ m. inl (inr m)) (λ m. inr m) (lies-append ks ls x l)

-- ---- elements by their places
-- an empty list has no element
pub is-at_none : {A : Type 0} {x : A} → ◌≡◌ {A = Option A} None (Some x) → ⊥
is-at_none {A} {x} e = none-some x e

-- the first element of a list is its head
pub is-at_first : {A : Type 0} {x y : A} → ◌≡◌ {A = Option A} (Some x) (Some y) → x ≡ y
is-at_first {A} {x} {y} e = same_Some x y e

pub is-at_one : {X : Type 0} (xs : List X) (k : ℕ) (x y : X) → IsAt xs k x → IsAt xs k y → x ≡ y
is-at_one xs k x y a b = same_Some x y (sym a ∙ b)

pub is-at_nowhere : {X : Type 0} (xs : List X) → ((k : ℕ) (x : X) → IsAt xs k x → ⊥) → xs ≡ []
is-at_nowhere [] n = refl
is-at_nowhere (x ∷ xs) n = absurd (n 0 x refl)

pub is-at_within : {X : Type 0} (xs : List X) (k : ℕ) (x : X) → IsAt xs k x → k < length xs
is-at_within xs k x a = slice_get_within xs k x a

pub is-at_some : {X : Type 0} (xs : List X) (k : ℕ) → k < length xs → (x : X) × IsAt xs k x
is-at_some [] k h = absurd (omega arith)
is-at_some (y ∷ xs) zero h = (y, refl)
is-at_some (y ∷ xs) (suc k) h = is-at_some xs k (omega arith)

pub is-at_get : {X : Type 0} (xs : List X) (k : ℕ) (d : X) → k < length xs → IsAt xs k (get_or xs k d)
is-at_get xs k d h = slice_get-get_or xs k d h

pub all-of : {X : Type 0} (P : X → Type 0) (xs : List X) → ((k : ℕ) (x : X) → IsAt xs k x → P x) → All P xs
all-of P xs f k d h = f k (get_or xs k d) (is-at_get xs k d h)

pub is-at_is : {X : Type 0} (xs : List X) (k : ℕ) (x d : X) → IsAt xs k x → get_or xs k d ≡ x
is-at_is xs k x d a = get_or_from_slice_get xs k x d a

-- what indexing gives
pub is-at_read : {X : Type 0} (xs : List X) (k : ℕ) (x : X) → k < length xs → x ≡ get_or xs k x → IsAt xs k x
is-at_read xs k x h e = is-at_get xs k x h ∙ ap Some (sym e)

pub is-at_left : {X : Type 0} (xs ys : List X) (k : ℕ) (x : X) → IsAt xs k x → IsAt (xs ++ ys) k x
is-at_left [] ys k x a = absurd (is-at_none a)
is-at_left (y ∷ xs) ys zero x a = a
is-at_left (y ∷ xs) ys (suc k) x a = is-at_left xs ys k x a

pub is-at_right : {X : Type 0} (xs ys : List X) (j : ℕ) (x : X) → IsAt ys j x → IsAt (xs ++ ys) (length xs + j) x
is-at_right {X} [] ys j x a = subst (λ (n : ℕ). IsAt {X = X} ys n x) {x = j} {y = zero + j} (omega arith) a
is-at_right {X} (z ∷ xs) ys j x a = subst (λ (n : ℕ). IsAt {X = X} (z ∷ xs ++ ys) n x) {x = suc (length xs + j)} {y = suc (length xs) + j} (omega arith) (is-at_right xs ys j x a)

pub is-at_last : {X : Type 0} (xs : List X) (x : X) → IsAt (xs ++ x ∷ []) (length xs) x
is-at_last [] x = refl
is-at_last (y ∷ xs) x = is-at_last xs x

-- an element of two lists one after the other is one of the first, or of the second
pub is-at_parts : {X : Type 0} (xs ys : List X) (k : ℕ) (x : X) → IsAt (xs ++ ys) k x → IsAt xs k x ⊎ ((j : ℕ) × (k ≡ length xs + j) × IsAt ys j x)
is-at_parts [] ys k x a = inr (k, sym (zero-add k), a)
is-at_parts (z ∷ xs) ys zero x a = inl a
is-at_parts (z ∷ xs) ys (suc k) x a = ⊎_elim (λ b. inl b) (λ r. inr (r.0, (let e = r.1 in let h : suc k ≡ suc (length xs) + r.0 = omega arith in h), r.2)) (is-at_parts xs ys k x a)

pub is-at_either : {X : Type 0} (xs ys : List X) (k : ℕ) (x : X) → IsAt (xs ++ ys) k x → IsAt xs k x ⊎ ((j : ℕ) × IsAt ys j x)
is-at_either xs ys k x h = ⊎_elim (λ a. inl a) (λ r. inr (r.0, r.2)) (is-at_parts xs ys k x h)

-- an element of a list with one more is one of the list, or the last
pub is-at_more : {X : Type 0} (xs : List X) (y : X) (k : ℕ) (x : X) → IsAt (xs ++ y ∷ []) k x → IsAt xs k x ⊎ ((k ≡ length xs) × (y ≡ x))
is-at_more [] y zero x a = inr (refl, is-at_first a)
is-at_more [] y (suc k) x a = absurd (is-at_none a)
is-at_more (z ∷ xs) y zero x a = inl a
is-at_more (z ∷ xs) y (suc k) x a = ⊎_elim (λ b. inl b) (λ r. inr (ap suc r.0, r.1)) (is-at_more xs y k x a)

-- ---- what a function makes of each
pub map-is_at : {X Y : Type 0} (f : X → Y) (xs : List X) (k : ℕ) (x : X) → IsAt xs k x → IsAt (map f xs) k (f x)
map-is_at f xs k x a = slice_get-map f xs k ∙ ap (option_map f) a

pub is-at_map : {X Y : Type 0} (f : X → Y) (xs : List X) (k : ℕ) (y : Y) → IsAt (map f xs) k y → (x : X) × IsAt xs k x × (f x ≡ y)
is-at_map f [] k y a = absurd (is-at_none a)
is-at_map f (x ∷ xs) zero y a = (x, refl, is-at_first a)
is-at_map f (x ∷ xs) (suc k) y a = is-at_map f xs k y a
