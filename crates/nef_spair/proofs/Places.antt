-- Elements by their places in longer lists, and what is left of a list without some.
use Rattle.nef_spair.proofs.Prelude.{ℕ, zero, suc, ◌<◌, List, [], ◌∷◌, ◌++◌, arith, refl, sym, ap, subst, inl, inr, ◌⊎◌, All, IsAt, is-at_within, is-at_is, AreOthers, is-at_none, is-at_first}

module _ {A : Type 0} where
  pub all-at : (P : A → Type 0) (xs : List A) → All P xs → (k : ℕ) (x : A) → IsAt xs k x → P x
  all-at P xs a k x h = subst P (is-at_is xs k x x h) (a k x (is-at_within xs k x h))

  -- ---- those of a list that P doesn't hold of
  module _ (P : A → Type 0) where
    pub others-keep : (xs ys : List A) (x : A) → AreOthers P xs ys → (P x → ⊥) → AreOthers P (xs ++ x ∷ []) (ys ++ x ∷ [])
    others-keep [] ys x e n = inl (n, [], ap (λ (l : List A). l ++ x ∷ []) e, refl)
    others-keep (z ∷ xs) ys x (inl (m, zs, e, r)) n = inl (m, zs ++ x ∷ [], ap (λ (l : List A). l ++ x ∷ []) e, others-keep xs zs x r n)
    others-keep (z ∷ xs) ys x (inr (q, r)) n = inr (q, others-keep xs ys x r n)

    pub others-leave : (xs ys : List A) (x : A) → AreOthers P xs ys → P x → AreOthers P (xs ++ x ∷ []) ys
    others-leave [] ys x e p = inr (p, e)
    others-leave (z ∷ xs) ys x (inl (m, zs, e, r)) p = inl (m, zs, e, others-leave xs zs x r p)
    others-leave (z ∷ xs) ys x (inr (q, r)) p = inr (q, others-leave xs ys x r p)

    pub others-same : (xs : List A) → ((k : ℕ) (x : A) → IsAt xs k x → P x → ⊥) → AreOthers P xs xs
    others-same [] n = refl
    others-same (z ∷ xs) n = inl (n 0 z refl, xs, refl, others-same xs (λ k x a. n (suc k) x a))

    pub others-from : (xs ys : List A) → AreOthers P xs ys → (k : ℕ) (y : A) → IsAt ys k y → (j : ℕ) × IsAt xs j y × (P y → ⊥)
    others-from [] ys e k y h = absurd (is-at_none (subst (λ (l : List A). IsAt l k y) e h))
    others-from (x ∷ xs) ys (inl (n, zs, e, r)) zero y h = let i = subst (λ (l : List A). IsAt l 0 y) e h in (0, i, λ p. n (subst P (sym (is-at_first i)) p))
    others-from (x ∷ xs) ys (inl (n, zs, e, r)) (suc k) y h = let f = others-from xs zs r k y (subst (λ (l : List A). IsAt l (suc k) y) e h) in (suc f.0, f.1, f.2)
    others-from (x ∷ xs) ys (inr (p, r)) k y h = let f = others-from xs ys r k y h in (suc f.0, f.1, f.2)

    pub others-all : (xs ys : List A) → AreOthers P xs ys → (j : ℕ) (x : A) → IsAt xs j x → P x ⊎ ((k : ℕ) × IsAt ys k x)
    others-all [] ys e j x h = absurd (is-at_none h)
    others-all (z ∷ xs) ys (inl (n, zs, e, r)) zero x h = inr (0, subst (λ (l : List A). IsAt l 0 x) (sym e) h)
    others-all (z ∷ xs) ys (inl (n, zs, e, r)) (suc j) x h =
        elim (others-all xs zs r j x h) [ inl p ↦ inl p | inr f ↦ inr (suc f.0, subst (λ (l : List A). IsAt l (suc f.0) x) (sym e) f.1) ]
    others-all (z ∷ xs) ys (inr (p, r)) zero x h = inl (subst P (is-at_first h) p)
    others-all (z ∷ xs) ys (inr (p, r)) (suc j) x h = others-all xs ys r j x h

    -- two of them stand in the same order in both lists
    pub others-in_order : (xs ys : List A) → AreOthers P xs ys → (i k : ℕ) (x y : A) → i < k → IsAt ys i x → IsAt ys k y → (j : ℕ) × (l : ℕ) × (j < l) × IsAt xs j x × IsAt xs l y
    others-in_order [] ys e i k x y h a b = absurd (is-at_none (subst (λ (l : List A). IsAt l i x) e a))
    others-in_order (z ∷ xs) ys (inl (n, zs, e, r)) i zero x y h a b = absurd (omega arith)
    others-in_order (z ∷ xs) ys (inl (n, zs, e, r)) zero (suc k) x y h a b =
        let f = others-from xs zs r k y (subst (λ (l : List A). IsAt l (suc k) y) e b) in
        let first = subst (λ (l : List A). IsAt l 0 x) e a in (0, suc f.0, omega arith, first, f.1)
    others-in_order (z ∷ xs) ys (inl (n, zs, e, r)) (suc i) (suc k) x y h a b =
        let f = others-in_order xs zs r i k x y (omega arith) (subst (λ (l : List A). IsAt l (suc i) x) e a) (subst (λ (l : List A). IsAt l (suc k) y) e b) in
        let up : suc f.0 < suc f.1 = omega (arith, f.2) in (suc f.0, suc f.1, up, f.3, f.4)
    others-in_order (z ∷ xs) ys (inr (p, r)) i k x y h a b = let f = others-in_order xs ys r i k x y h a b in let up : suc f.0 < suc f.1 = omega (arith, f.2) in (suc f.0, suc f.1, up, f.3, f.4)
