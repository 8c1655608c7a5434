-- What is apart in an order stands in order once it is sorted.
use Rattle.nef_spair.proofs.Prelude.{◌≡◌, ℕ, ◌<◌, ⊎_elim, List, get_or, false, Ordering, Equal, arith, sym, ap, subst, ◌∙◌, IsDistinct, IsPermutation, IsSorted, MatchOrdering, eq_by_cmp, is_lt, is_eq, IsTotalOrder, false≢true, by_ranked, eq_by_cmp_equiv, tied_back, ranks_by, sorted_far, Contains-permutation, IsPermutation-sym, IsAt, InOrder, is-at_within, is-at_get, at-contains, contains-at, StandApart}
use Rattle.std.proofs.lemmas.Bool.{cases_order}
use Rattle.std.proofs.lemmas.Map.Keys.{IsDistinct-from_apart, IsDistinct-IsPermutation, apart_from_distinct}
use Rattle.nef_smap.proofs.SortedOnce.{both-at}

-- ---- what is moved stays listed
module _ {A : Type 0} (xs ys : List A) (moved : IsPermutation xs ys) where
  pub was-listed : (k : ℕ) (y : A) → IsAt ys k y → (j : ℕ) × IsAt xs j y
  was-listed k y a = contains-at xs y (Contains-permutation ys xs y (IsPermutation-sym xs ys moved) (at-contains ys k y a))

  pub still-listed : (j : ℕ) (x : A) → IsAt xs j x → (k : ℕ) × IsAt ys k x
  still-listed j x a = contains-at ys x (Contains-permutation xs ys x moved (at-contains xs j x a))

-- ---- what is apart stays so, and is in order once it is sorted
module _ {A : Type 0} (order : A → A → Ordering) (total : IsTotalOrder order) (Below Same : A → A → Type 0) (ranks : (a b : A) → MatchOrdering (order a b) (Below a b) (Same a b) (Below b a)) (equal : (a b : A) → Same a b → order a b ≡ Equal) where
  not-equal : (a b : A) → (Same a b → ⊥) → eq_by_cmp order a b ≡ false
  not-equal a b n = by_ranked (Below a b) (Same a b) (Below b a) (order a b) (ranks a b) (λ e _. ap is_eq e) (λ _ s. absurd (n s)) (λ e _. ap is_eq e)

  turned-same : (a b : A) → Same a b → Same b a
  turned-same a b s = subst (λ o. MatchOrdering o (Below b a) (Same b a) (Below a b)) (tied_back total a b (equal a b s)) (ranks b a)

  distinct : (xs : List A) → StandApart Same xs → IsDistinct (eq_by_cmp order) xs
  distinct xs h = IsDistinct-from_apart (eq_by_cmp order) xs (λ j k d l m. not-equal (get_or xs j d) (get_or xs k d)
      (λ s. let e : j ≡ k = h j k (get_or xs j d) (get_or xs k d) (is-at_get xs j d (omega arith)) (is-at_get xs k d m) s in omega (arith, e, l)))

  apart : (xs : List A) → IsDistinct (eq_by_cmp order) xs → StandApart Same xs
  apart xs h j k a b l r s = ⊎_elim (λ e. e) (λ d. absurd (⊎_elim (λ m. differ j k a b m l r s) (λ m. differ k j b a m r l (turned-same a b s)) d)) (cases_order j k)
    where
      differ : (j k : ℕ) (a b : A) → j < k → IsAt xs j a → IsAt xs k b → Same a b → ⊥
      differ j k a b m l r s = false≢true (sym (both-at (λ v w. eq_by_cmp order v w ≡ false) xs j k a b l r (λ d. apart_from_distinct (eq_by_cmp order) xs j k d h m (is-at_within xs k b r))) ∙ ap is_eq (equal a b s))

  pub still-apart : (xs ys : List A) → IsPermutation xs ys → StandApart Same xs → StandApart Same ys
  still-apart xs ys moved h = apart ys (IsDistinct-IsPermutation (eq_by_cmp order) (eq_by_cmp_equiv total).symm xs ys moved (distinct xs h))

  pub sorted-in_order : (xs ys : List A) → IsPermutation xs ys → StandApart Same xs → IsSorted order ys → InOrder Below ys
  sorted-in_order xs ys moved h s i k x y l a b = by_ranked (Below y x) (Same y x) (Below x y) (order y x) (ranks y x)
      (λ e _. absurd (false≢true (sym test ∙ ap is_lt e)))
      (λ _ t. let same : k ≡ i = still-apart xs ys moved h k i y x b a t in absurd (omega (arith, same, l)))
      (λ _ m. m)
    where
      test : is_lt (order y x) ≡ false
      test = both-at (λ v w. is_lt (order w v) ≡ false) ys i k x y a b
          (λ d. sorted_far (λ a b. is_lt (order a b)) (ranks_by total (λ (a : A). a)) ys s i k d (omega (arith, l)) (is-at_within ys k y b))
