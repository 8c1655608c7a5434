-- What is sorted by a total order and kept once stands in order, and what stands in order is sorted.
use Rattle.nef_smap.proofs.Prelude.{◌≡◌, ℕ, ◌<◌, ◌+◌, List, get_or, Bool, true, false, Ordering, Less, Equal, Greater, arith, refl, sym, ap, subst, IsTotalOrder, Contains, dedup, eq_by_cmp, is_eq, is_lt, slice_get-get_or, IsAt, InOrder, map}
use Rattle.std.specs.Cmp.{IsEquivalence}
use Rattle.std.specs.List.Sorted.{IsSorted, IsPermutation}
use Rattle.std.proofs.lemmas.Cmp.{tied_itself}
use Rattle.std.proofs.lemmas.List.Kept.{Contains-from_dedup, IsStrictlySortedBy-dedup}
use Rattle.std.proofs.lemmas.List.Sorted.{Contains-permutation, IsPermutation-sym}
use Rattle.std.proofs.lemmas.Map.Keys.{Less-from_sorted}
use Rattle.nef_space.proofs.Lists.{is-at_is, is-at_within, is-at_map, map-is_at}

-- what holds of the elements that are read at two places holds of those that stand there
pub both-at : {A : Type 0} (P : A → A → Type 0) (xs : List A) (i k : ℕ) (x y : A) → IsAt xs i x → IsAt xs k y → ((d : A) → P (get_or xs i d) (get_or xs k d)) → P x y
both-at P xs i k x y a b h = subst (P x) (is-at_is xs k y x b) (subst (λ z. P z (get_or xs k x)) (is-at_is xs i x x a) (h x))

-- what stands in order by its images has its images in order, and the other way round
pub in-order_map : {A B : Type 0} (R : B → B → Type 0) (f : A → B) (xs : List A) → InOrder (λ x y. R (f x) (f y)) xs → InOrder R (map f xs)
in-order_map R f xs h i k x y l a b =
    let u = is-at_map f xs i x a in let v = is-at_map f xs k y b in
    subst (R x) v.2 (subst (λ z. R z (f v.0)) u.2 (h i k u.0 v.0 l u.1 v.1))

pub map-in_order : {A B : Type 0} (R : B → B → Type 0) (f : A → B) (xs : List A) → InOrder R (map f xs) → InOrder (λ x y. R (f x) (f y)) xs
map-in_order R f xs h i k x y l a b = h i k (f x) (f y) l (map-is_at f xs i x a) (map-is_at f xs k y b)

-- ---- a test for equality
one_test : (b c : Bool) → (b ≡ true → c ≡ true) → (c ≡ true → b ≡ true) → b ≡ c
one_test true c f g = sym (f refl)
one_test false true f g = g refl
one_test false false f g = refl

is_equal : (o : Ordering) → is_eq o ≡ true → o ≡ Equal
is_equal Less h = cc
is_equal Equal h = refl
is_equal Greater h = cc

-- where both the test and the order tell one element from another, the test passes just what ties
pub ties-from : {A : Type 0} {order : A → A → Ordering} (total : IsTotalOrder order) {test : A → A → Bool} (equivalence : IsEquivalence test)
    → ((x y : A) → test x y ≡ true → x ≡ y) → ((x y : A) → order x y ≡ Equal → x ≡ y) → (x y : A) → test x y ≡ eq_by_cmp order x y
ties-from {order = order} total {test = test} equivalence tested tied x y = one_test (test x y) (eq_by_cmp order x y)
    (λ h. ap is_eq (subst (λ z. order x z ≡ Equal) (tested x y h) (tied_itself total x)))
    (λ h. subst (λ z. test x z ≡ true) (tied x y (is_equal (order x y) h)) (equivalence.refl x))

-- ---- sorted, each once
pub once-in_order : {A : Type 0} {order : A → A → Ordering} (total : IsTotalOrder order) {test : A → A → Bool} (ties : (x y : A) → test x y ≡ eq_by_cmp order x y)
    (Below : A → A → Type 0) → ((x y : A) → order x y ≡ Less → Below x y) → (xs : List A) → IsSorted order xs → InOrder Below (dedup test xs)
once-in_order {order = order} total {test = test} ties Below less xs sorted i k x y l a b =
    let once = dedup test xs in
    less x y (both-at (λ v w. order v w ≡ Less) once i k x y a b (λ d. Less-from_sorted order once i k d (IsStrictlySortedBy-dedup total ties xs sorted) l (is-at_within once k y b)))

pub once-only : {A : Type 0} (test : A → A → Bool) (xs ys : List A) (x : A) → IsPermutation xs ys → Contains (dedup test ys) x → Contains xs x
once-only test xs ys x moved h = Contains-permutation ys xs x (IsPermutation-sym xs ys moved) (Contains-from_dedup test ys x h)

-- ---- the way back
pub sorted-from_order : {A : Type 0} (order : A → A → Ordering) (Below : A → A → Type 0) → ((x y : A) → Below x y → order y x ≡ Greater)
    → (xs : List A) → ((i k : ℕ) (x y : A) → i < k → IsAt xs i x → IsAt xs k y → Below x y) → IsSorted order xs
sorted-from_order order Below later xs ordered k d _ l =
    ap is_lt (later (get_or xs k d) (get_or xs (k + 1) d) (ordered k (k + 1) (get_or xs k d) (get_or xs (k + 1) d) (omega arith) (slice_get-get_or xs k d (omega arith)) (slice_get-get_or xs (k + 1) d l)))
