-- Lists of images, made one after the other.
use Rattle.nef_turn.proofs.Prelude.{◌≡◌, ℕ, ◌+◌, ◌<◌, ◌≤◌, List, [], ◌∷◌, ◌++◌, length, get_or, arith, refl, sym, ap, subst, ◌∙◌, ⊎_elim, IsAt, is-at_one, is-at_within, is-at_more, is-at_read, AreImages, is-at_none}
use Rattle.nef_smap.proofs.SideLists.{is-at_some as at-length}
use Rattle.std.proofs.lemmas.List.{length_push}

module _ {A B : Type 0} (R : ℕ → A → B → Type 0) (xs : List A) where
  pub images-none : AreImages R 0 xs []
  images-none = record { count = refl; each = λ j y a. absurd (is-at_none a) }

  pub images-more : (n : ℕ) (ys : List B) (x : A) (y : B) → AreImages R n xs ys → IsAt xs n x → R n x y → AreImages R (n + 1) xs (ys ++ y ∷ [])
  images-more n ys x y I a r = record {
    count = length_push ys y ∙ ap (λ m. m + 1) I.count;
    each = λ j z b. ⊎_elim (λ c. I.each j z c)
        (λ (e, f). (x, subst (λ m. IsAt xs m x) (sym (e ∙ I.count)) a, subst (λ m. R m x z) (sym (e ∙ I.count)) (subst (λ (w : B). R n x w) f r)))
        (is-at_more ys y j z b);
  }

  -- where each element has its image, there is one at each place
  pub images-all : (ys : List B) → AreImages R (length xs) xs ys → (i : ℕ) (x : A) → IsAt xs i x → (y : B) × IsAt ys i y × R i x y
  images-all ys I i x a =
      let l = is-at_within xs i x a in
      let count = I.count in
      let (y, b) = at-length ys i (omega (arith, l, count)) in
      let (z, c, r) = I.each i y b in
      (y, b, subst (λ (w : A). R i w y) (is-at_one xs i z x c a) r)

  -- ---- one step of a loop, and its end
  pub images-step : (i : ℕ) (x : A) (ys zs : List B) (y : B) → i < length xs → x ≡ get_or xs i x → AreImages R i xs ys → R i x y → zs ≡ ys ++ y ∷ [] → AreImages R (i + 1) xs zs
  images-step i x ys zs y l e I r f = subst (AreImages R (i + 1) xs) (sym f) (images-more i ys x y I (is-at_read xs i x l e) r)

  pub images-end : (i : ℕ) (ys : List B) → length xs ≤ i → i ≤ length xs → AreImages R i xs ys → AreImages R (length xs) xs ys
  images-end i ys l h I = subst (λ n. AreImages R n xs ys) (let e : i ≡ length xs = omega (arith, l, h) in e) I
