-- Places in a list with one element more.
use Rattle.nef_expr.proofs.Prelude.{◌≡◌, ℕ, zero, suc, ◌<◌, ◌⊎◌, List, [], ◌∷◌, ◌++◌, length, Some, refl, ap, sym, ◌∙◌, arith, inl, inr, length-append, slice_get, cases_lt, slice_get_within}

pub slice_get-left : {X : Type 0} (xs ys : List X) (k : ℕ) (x : X) → slice_get xs k ≡ Some x → slice_get (xs ++ ys) k ≡ Some x
slice_get-left [] ys k x e = cc
slice_get-left (z ∷ xs) ys zero x e = e
slice_get-left (z ∷ xs) ys (suc k) x e = slice_get-left xs ys k x e

pub slice_get-seam : {X : Type 0} (xs : List X) (y : X) (ys : List X) → slice_get (xs ++ y ∷ ys) (length xs) ≡ Some y
slice_get-seam [] y ys = refl
slice_get-seam (x ∷ xs) y ys = slice_get-seam xs y ys

-- a place below the end is one of the first list
pub slice_get-below : {X : Type 0} (xs ys : List X) (k : ℕ) → k < length xs → slice_get (xs ++ ys) k ≡ slice_get xs k
slice_get-below [] ys k below = absurd (omega (arith, below))
slice_get-below (x ∷ xs) ys zero below = refl
slice_get-below (x ∷ xs) ys (suc k) below = slice_get-below xs ys k (omega (arith, below))

-- each place is an earlier one or the last
pub place-push : {X : Type 0} (xs : List X) (y : X) (n : ℕ) (x : X) → slice_get (xs ++ y ∷ []) n ≡ Some x → ((n < length xs) × (slice_get xs n ≡ Some x)) ⊎ ((n ≡ length xs) × (x ≡ y))
place-push xs y n x at = elim (cases_lt n (length xs)) [
  | inl below ↦ inl (below, sym (slice_get-below xs (y ∷ []) n below) ∙ at)
  | inr past ↦ (
      let within : n < length (xs ++ y ∷ []) = slice_get_within (xs ++ y ∷ []) n x at in
      let longer = length-append xs (y ∷ []) in
      let here : n ≡ length xs = omega (arith, past, within, longer) in
      let found : Some y ≡ Some x = sym (slice_get-seam xs y []) ∙ ap (slice_get (xs ++ y ∷ [])) (sym here) ∙ at in
      inr (here, cc))
]

pub one-there : {X : Type 0} (xs : List X) (k : ℕ) (x y : X) → slice_get xs k ≡ Some x → slice_get xs k ≡ Some y → x ≡ y
one-there xs k x y a b = let e : Some x ≡ Some y = sym a ∙ b in cc
