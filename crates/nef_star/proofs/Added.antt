-- One more direction after the last of directions that turn.
use Rattle.nef_star.proofs.Prelude.{◌≡◌, ℕ, suc, ◌-◌, ◌<◌, ◌≤◌, arith, refl, sym, ap, subst, ◌∙◌, inl, inr, ◌⊎◌, eq-or-lt_of_le, Vector, IsDirection, SameDirection, Label, IsOnCircle, Passes, order_is_cyclic, order_is_transitive, ways_split, IsTurning, Gives, on_ray, in_sector, in_only_sector, SameDirection-turned}
use Rattle.nef_star.proofs.Turns.{whole_turn, three, four, same_or}

-- the same directions turn alike
pub turning-same : (a : Vector) (n : ℕ) (f g : ℕ → Vector) → ((k : ℕ) → k < n → g k ≡ f k) → IsTurning a n f → IsTurning a n g
turning-same a n f g e t = record {
  circle = λ k h. subst (IsOnCircle a) (sym (e k h)) (t.circle k h);
  apart = λ k p h s. t.apart k p h (rw (← e 0 (omega arith), ← e k h) s);
  rising = λ i k p q h. rw (e 0 (omega arith), e i (omega arith), e k h) (t.rising i k p q h);
}

-- g n is past the last of the first n, and before the first
module _ (a : Vector) (axis : IsDirection a) (n : ℕ) (g : ℕ → Vector) (t : IsTurning a n g) (o : IsOnCircle a (g n)) (between : (k : ℕ) → suc k ≡ n → Passes a (g k) (g n) (g 0)) where
  pub added-on : (k : ℕ) → k < suc n → IsOnCircle a (g k)
  added-on k h = by (eq-or-lt_of_le {n = k} {m = n} (omega arith))
    where
      by : (k ≡ n) ⊎ (k < n) → IsOnCircle a (g k)
      by (inl e) = subst (λ (m : ℕ). IsOnCircle a (g m)) (sym e) o
      by (inr l) = t.circle k l

  last_before : (k : ℕ) → 0 < k → (suc k ≡ n) → Passes a (g 0) (g k) (g n)
  last_before k p e =
      let b = between k e in let h : k < n = omega arith in
      order_is_cyclic a (g n) (g 0) (g k) (three a (g n) (g 0) (g k) axis o (t.circle 0 (omega arith)) (t.circle k h)) (λ s. b.not_source (SameDirection-turned (g n) (g k) s))
      (order_is_cyclic a (g k) (g n) (g 0) (three a (g k) (g n) (g 0) axis (t.circle k h) o (t.circle 0 (omega arith))) (λ s. t.apart k p h (SameDirection-turned (g k) (g 0) s)) b)

  all_before : (i k : ℕ) → 0 < i → i ≤ k → (suc k ≡ n) → Passes a (g 0) (g i) (g n)
  all_before i k p q e = by (eq-or-lt_of_le {n = i} {m = k} q)
    where
      by : (i ≡ k) ⊎ (i < k) → Passes a (g 0) (g i) (g n)
      by (inl z) = last_before i p (ap suc z ∙ e)
      by (inr z) =
          order_is_transitive a (g 0) (g i) (g k) (g n) (four a (g 0) (g i) (g k) (g n) axis (t.circle 0 (omega (arith, e))) (t.circle i (omega (arith, e))) (t.circle k (omega (arith, e))) o)
          (t.rising i k p z (omega (arith, e))) (last_before k (omega arith) e)

  pub added-turning : IsTurning a (suc n) g
  added-turning = record { circle = added-on; apart = apart; rising = rising }
    where
      apart : (k : ℕ) → 0 < k → k < suc n → SameDirection (g 0) (g k) → ⊥
      apart k p h s = elim (eq-or-lt_of_le {n = k} {m = n} (omega arith)) [
        | inl e ↦ let z : suc (n - 1) ≡ n = omega (arith, e) in (between (n - 1) z).not_target (subst (λ (m : ℕ). SameDirection (g 0) (g m)) e s)
        | inr l ↦ t.apart k p l s
      ]

      rising : (i k : ℕ) → 0 < i → i < k → k < suc n → Passes a (g 0) (g i) (g k)
      rising i k p q h = elim (eq-or-lt_of_le {n = k} {m = n} (omega arith)) [
        | inl e ↦ let z : suc (n - 1) ≡ n = omega (arith, e) in subst (λ (m : ℕ). Passes a (g 0) (g i) (g m)) (sym e) (all_before i (n - 1) p (omega (arith, e)) z)
        | inr l ↦ t.rising i k p q l
      ]

-- n is suc k; the new one has the label of the sector that it cuts, on it and after it
module _ (a : Vector) (axis : IsDirection a) (k : ℕ) (g : ℕ → Vector) (t : IsTurning a (suc k) g) (o : IsOnCircle a (g (suc k))) (between : Passes a (g k) (g (suc k)) (g 0)) (M S : ℕ → Label) (on : M (suc k) ≡ S k) (after : S (suc k) ≡ S k) (d : Vector) (od : IsOnCircle a d) (l : Label) where
  split : Passes a (g k) d (g 0) → (S k ≡ l) → Gives a (suc (suc k)) g M S d l
  split p e = by (ways_split a (g k) (g (suc k)) d (g 0) (four a (g k) (g (suc k)) d (g 0) axis (t.circle k (omega arith)) o od (t.circle 0 (omega arith))) between p)
    where
      by : SameDirection (g (suc k)) d ⊎ (Passes a (g k) (g (suc k)) d × Passes a (g (suc k)) d (g 0)) ⊎ (Passes a (g k) d (g (suc k)) × Passes a d (g (suc k)) (g 0)) → Gives a (suc (suc k)) g M S d l
      by (inl s) = on_ray (suc k) (omega arith) s (on ∙ e)
      by (inr (inl (q, r))) = in_sector (suc k) 0 (omega arith) (inr (refl, refl)) r (after ∙ e)
      by (inr (inr (q, r))) = in_sector k (suc k) (omega arith) (inl (refl, omega arith)) q e

  pub added-gives : Gives a (suc k) g M S d l → Gives a (suc (suc k)) g M S d l
  added-gives (on_ray i h s e) = on_ray i (omega arith) s e
  added-gives (in_sector i j h (inl (x, y)) p e) = in_sector i j (omega arith) (inl (x, omega arith)) p e
  added-gives (in_sector i j h (inr (x, y)) p e) =
      let z : i ≡ k = omega (arith, x) in
      split (subst (λ (m : ℕ). Passes a (g m) d (g 0)) z (subst (λ (m : ℕ). Passes a (g i) d (g m)) y p)) (sym (ap S z) ∙ e)
  added-gives (in_only_sector z e) = absurd (omega (arith, z))

-- the first one
pub first-gives : (a : Vector) (f g : ℕ → Vector) (M S N R : ℕ → Label) → IsOnCircle a (g 0) → N 0 ≡ S 0 → R 0 ≡ S 0 → (d : Vector) → IsOnCircle a d → (l : Label) → Gives a 0 f M S d l → Gives a 1 g N R d l
first-gives a f g M S N R o on after d od l (on_ray i h s e) = absurd (omega (arith, h))
first-gives a f g M S N R o on after d od l (in_sector i j h x p e) = absurd (omega (arith, h))
first-gives a f g M S N R o on after d od l (in_only_sector z e) = by (same_or (g 0) d)
  where
    by : SameDirection (g 0) d ⊎ (SameDirection (g 0) d → ⊥) → Gives a 1 g N R d l
    by (inl s) = on_ray 0 (omega arith) s (on ∙ e)
    by (inr n) = in_sector 0 0 (omega arith) (inr (refl, refl)) (whole_turn a (g 0) d o od n) (after ∙ e)
