-- The first place in a list where a test passes.
use Rattle.nef_script.proofs.Prelude.{◌≡◌, ℕ, ◌+◌, ◌<◌, Bool, true, false, cond, List, [], ◌∷◌, ◌++◌, length, Option, Some, None, is_some, ◌||◌, refl, ap, sym, ◌∙◌, arith, inl, inr, cases_Bool, position, position_from, list_any}
use Rattle.std.proofs.lemmas.Iterator.Adapters.{position_from-zero}

-- the first of two answers, or else the second
abbrev first_some : Option ℕ → Option ℕ → Option ℕ
first_some None b = b
first_some (Some a) b = Some a

first_some-cond : (t : Bool) (a b : Option ℕ) (n : ℕ) → cond t (Some n) (first_some a b) ≡ first_some (cond t (Some n) a) b
first_some-cond true a b n = refl
first_some-cond false a b n = refl

from-push : {X : Type 0} (p : X → Bool) (n m : ℕ) (xs : List X) (y : X) → n + length xs ≡ m → position_from p n (xs ++ y ∷ []) ≡ first_some (position_from p n xs) (cond (p y) (Some m) None)
from-push p n m [] y e = ap (λ k. cond (p y) (Some k) None) (omega arith)
from-push p n m (x ∷ xs) y e =
    ap (λ o. cond (p x) (Some n) o) (from-push p (n + 1) m xs y (omega arith))
    ∙ first_some-cond (p x) (position_from p (n + 1) xs) (cond (p y) (Some m) None) n

pub position-push_new : {X : Type 0} (p : X → Bool) (xs : List X) (y : X) → position p xs ≡ None → position p (xs ++ y ∷ []) ≡ cond (p y) (Some (length xs)) None
position-push_new p xs y new =
    position_from-zero p (xs ++ y ∷ [])
    ∙ from-push p 0 (length xs) xs y (omega arith)
    ∙ ap (λ o. first_some o (cond (p y) (Some (length xs)) None)) (sym (position_from-zero p xs) ∙ new)

pub position-push_other : {X : Type 0} (p : X → Bool) (xs : List X) (y : X) → p y ≡ false → position p (xs ++ y ∷ []) ≡ position p xs
position-push_other p xs y other =
    position_from-zero p (xs ++ y ∷ [])
    ∙ from-push p 0 (length xs) xs y (omega arith)
    ∙ ap (λ t. first_some (position_from p 0 xs) (cond t (Some (length xs)) None)) other
    ∙ same (position_from p 0 xs)
    ∙ sym (position_from-zero p xs)
  where
    same : (o : Option ℕ) → first_some o None ≡ o
    same None = refl
    same (Some a) = refl

from-any : {X : Type 0} (p : X → Bool) (n : ℕ) (xs : List X) → is_some (position_from p n xs) ≡ list_any p xs
from-any p n [] = refl
from-any p n (x ∷ xs) = either (p x) (position_from p (n + 1) xs) (list_any p xs) (from-any p (n + 1) xs)
  where
    either : (t : Bool) (o : Option ℕ) (b : Bool) → is_some o ≡ b → is_some (cond t (Some n) o) ≡ (t || b)
    either true o b e = refl
    either false o b e = e

-- there is a place exactly where some element passes
pub position-any : {X : Type 0} (p : X → Bool) (xs : List X) → is_some (position p xs) ≡ list_any p xs
position-any p xs = ap is_some (position_from-zero p xs) ∙ from-any p 0 xs

from-below : {X : Type 0} (p : X → Bool) (n k : ℕ) (xs : List X) → position_from p n xs ≡ Some k → k < n + length xs
from-below p n k [] e = cc
from-below p n k (x ∷ xs) e = elim (cases_Bool (p x)) [
  | inl passes ↦ (
      let found : Some n ≡ Some k = sym (ap (λ t. cond t (Some n) (position_from p (n + 1) xs)) passes) ∙ e in
      let here : n ≡ k = cc in
      omega arith)
  | inr fails ↦ (
      let later = from-below p (n + 1) k xs (sym (ap (λ t. cond t (Some n) (position_from p (n + 1) xs)) fails) ∙ e) in
      omega arith)
]

-- the place lies in the list
pub position-below : {X : Type 0} (p : X → Bool) (xs : List X) (k : ℕ) → position p xs ≡ Some k → k < length xs
position-below p xs k e = (let below = from-below p 0 k xs (sym (position_from-zero p xs) ∙ e) in omega arith)
