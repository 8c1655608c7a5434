-- Elements by their places, in lists, in longer ones and in what a function makes of them.
use Rattle.nef_smap.proofs.Prelude.{◌≡◌, ℕ, zero, suc, ◌+◌, ◌<◌, ◌≤◌, List, [], ◌∷◌, ◌++◌, length, map, slice_get, None, arith, sym, subst, Contains, IsAt, is-at_get, is-at_is, is-at_right, is-at_within}
use Rattle.nef_space.proofs.Lists.{is-at_map}

module _ {A : Type 0} where
  -- ---- what reading gives
  pub get-past : (xs : List A) (k : ℕ) → slice_get xs k ≡ None → length xs ≤ k
  get-past [] k e = omega arith
  get-past (x ∷ xs) zero e = cc
  get-past (x ∷ xs) (suc k) e = omega (arith, get-past xs k e)

  pub at-contains : (xs : List A) (k : ℕ) (x : A) → IsAt xs k x → Contains xs x
  at-contains xs k x h = (k, is-at_within xs k x h, is-at_is xs k x x h)

  pub contains-at : (xs : List A) (x : A) → Contains xs x → (k : ℕ) × IsAt xs k x
  contains-at xs x (k, l, e) = (k, subst (IsAt xs k) e (is-at_get xs k x l))

  -- ---- two lists put together
  pub at-right : (xs ys : List A) (k n : ℕ) (x : A) → n ≡ length xs + k → IsAt ys k x → IsAt (xs ++ ys) n x
  at-right xs ys k n x e h = subst (λ (r : ℕ). IsAt (xs ++ ys) r x) (sym e) (is-at_right xs ys k x h)

  -- an element of the second of two lists put together, by its place in both
  abbrev pub InSecond : List A → List A → ℕ → A → Type 0
  InSecond xs ys k x = (j : ℕ) × (k ≡ length xs + j) × IsAt ys j x

-- ---- what a function makes of each
module _ {A B : Type 0} (f : A → B) where
  pub map-within : (xs : List A) (k : ℕ) (y : B) → IsAt (map f xs) k y → k < length xs
  map-within xs k y h = let x = is-at_map f xs k y h in is-at_within xs k x.0 x.1
