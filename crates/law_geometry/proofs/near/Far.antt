-- The signs of k d + e for large k: those at d, and where these are nought those at e.
use Rattle.law_geometry.proofs.near.Prelude.{◌≡◌, ℕ, ◌+◌, ◌<◌, ◌≤◌, ℤ, pos, ◌+ℤ◌, ◌-ℤ◌, ◌*ℤ◌, nat_abs, arith, ap, sym, ◌∙◌, inl, inr, ⊎_elim, List, ◌∷◌, subst, [], ints, ring, at, num, ◌⊕◌, ◌⊖◌, ◌⊗◌, sign, sign-plus, sign-minus, nought-is, by_order, mul_le_right, nought-or, Form}
use Rattle.nef_space.proofs.Order.{Lies}
pub use Rattle.law_geometry.specs.near.Homogeneous.{form_amount, KeepsFormSigns}
use Rattle.law_geometry.proofs.near.Sums.{Homogeneous, form_on, mix, SameFormSigns, form-mix}

pub same-nought : (a b : ℤ) → sign b ≡ sign a → a ≡ pos 0 → b ≡ pos 0
same-nought a b e h = nought-is b (e ∙ ap sign h)

pub same-off : (a b : ℤ) → sign b ≡ sign a → (a ≡ pos 0 → ⊥) → b ≡ pos 0 → ⊥
same-off a b e h z = h (nought-is a (sym e ∙ ap sign z))

-- k a + b with a small b
pub sign-large : (k : ℕ) (a b : ℤ) → nat_abs b < k → (a ≡ pos 0 → ⊥) → sign (pos k *ℤ a +ℤ pos 1 *ℤ b) ≡ sign a
sign-large k a b h f = by_order a (pos 0)
    (λ l. let e = ring (pos k ∷ a ∷ b ∷ []) (at 0 ⊗ at 1 ⊕ num (pos 1) ⊗ at 2) (at 2 ⊖ (num (pos 0) ⊖ at 1) ⊗ at 0) tt in
    let m = mul_le_right (pos 1) (pos 0 -ℤ a) (pos k) (omega (arith, ints)) (omega (arith, ints)) in
    sign-minus (pos k *ℤ a +ℤ pos 1 *ℤ b) (omega (arith, ints)) ∙ sym (sign-minus a l))
    (λ e. absurd (f e))
    (λ l. let e = ring (pos k ∷ a ∷ b ∷ []) (at 0 ⊗ at 1 ⊕ num (pos 1) ⊗ at 2) (at 2 ⊕ at 1 ⊗ at 0) tt in
    let m = mul_le_right (pos 1) a (pos k) (omega (arith, ints)) (omega (arith, ints)) in
    sign-plus (pos k *ℤ a +ℤ pos 1 *ℤ b) (omega (arith, ints)) ∙ sym (sign-plus a l))

pub sign-level : (k : ℕ) (a b : ℤ) → a ≡ pos 0 → sign (pos k *ℤ a +ℤ pos 1 *ℤ b) ≡ sign b
sign-level k a b z = ap (λ r. sign (pos k *ℤ r +ℤ pos 1 *ℤ b)) z ∙ ap sign (ring (pos k ∷ b ∷ []) (at 0 ⊗ num (pos 0) ⊕ num (pos 1) ⊗ at 1) (at 1) tt)

pub amount-above : (hs : List Form) (e : Homogeneous) (h : Form) → Lies hs h → nat_abs (form_on h e) < form_amount hs e
amount-above [] e h l = absurd l
amount-above (k ∷ hs) e h (inl q) = let p = some hs in subst (λ (r : Form). nat_abs (form_on r e) < nat_abs (form_on k e) + form_amount hs e) q (omega arith)
  where
    some : (hs : List Form) → 0 < form_amount hs e
    some [] = omega arith
    some (k ∷ hs) = let p = some hs in omega arith
amount-above (k ∷ hs) e h (inr l) = let p = amount-above hs e h l in omega arith

module _ (hs : List Form) (d e : Homogeneous) (k : ℕ) (large : form_amount hs e ≤ k) where
  pub far-keeps : KeepsFormSigns hs d (mix k d 1 e)
  far-keeps h l f = let a = amount-above hs e h l in ap sign (form-mix h k d 1 e) ∙ sign-large k (form_on h d) (form_on h e) (omega arith) f

  pub far-level : (h : Form) → form_on h d ≡ pos 0 → sign (form_on h (mix k d 1 e)) ≡ sign (form_on h e)
  far-level h z = ap sign (form-mix h k d 1 e) ∙ sign-level k (form_on h d) (form_on h e) z

pub far-same : (hs : List Form) (d e : Homogeneous) (k l : ℕ) → form_amount hs e ≤ k → form_amount hs e ≤ l → SameFormSigns hs (mix k d 1 e) (mix l d 1 e)
far-same hs d e k l a b h m = ⊎_elim
    (λ z. far-level hs d e k a h z ∙ sym (far-level hs d e l b h z))
    (λ f. far-keeps hs d e k a h m f ∙ sym (far-keeps hs d e l b h m f)) (nought-or (form_on h d))
