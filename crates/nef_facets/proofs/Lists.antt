-- Elements of lists by their places.
use Rattle.nef_facets.proofs.Prelude.{◌≡◌, ℕ, ◌+◌, List, [], ◌∷◌, ◌++◌, length, ◌≤◌, arith, refl, sym, ◌∙◌, subst, length-append, IsAt, Either, earlier, last, is-at_pushed, is-at_one, is-at_within}

-- one element for each of the first n of a list
pub record HasOneForEach {A B : Type 0} (P : A → B → Type 0) (n : ℕ) (xs : List A) (ys : List B) : Type 0 where
  pub as_many : length xs ≡ n
  pub within : n ≤ length ys
  pub each : (i : ℕ) (x : A) (y : B) → IsAt xs i x → IsAt ys i y → P x y

pub each-none : {A B : Type 0} (P : A → B → Type 0) (ys : List B) → HasOneForEach P 0 [] ys
each-none P ys = record { as_many = refl; within = omega arith; each = λ i x y a b. cc }

pub each-more : {A B : Type 0} (P : A → B → Type 0) (n : ℕ) (xs : List A) (ys : List B) (x : A) (y : B) → HasOneForEach P n xs ys → IsAt ys n y → P x y → HasOneForEach P (n + 1) (xs ++ x ∷ []) ys
each-more {A} {B} P n xs ys x y E b p = record {
  as_many = let e = E.as_many in let f = length-append xs (x ∷ []) in omega arith;
  within = let h = is-at_within ys n y b in omega arith;
  each = λ i u v a d. by i u v d (is-at_pushed xs i u x a);
}
  where
    by : (i : ℕ) (u : A) (v : B) → IsAt ys i v → Either xs i u x → P u v
    by i u v d (earlier a) = E.each i u v a d
    by i u v d (last e f) =
        let same : n ≡ i = sym (e ∙ E.as_many) in
        subst (λ (w : A). P w v) (sym f) (subst (λ (w : B). P x w) (is-at_one ys n y v b (subst (λ (j : ℕ). IsAt ys j v) (sym same) d)) p)
