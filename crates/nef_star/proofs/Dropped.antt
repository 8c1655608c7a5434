-- The last of directions that turn, left out where its label is that of both sectors beside it.
use Rattle.nef_star.proofs.Prelude.{◌≡◌, ℕ, zero, suc, ◌<◌, arith, refl, sym, ap, subst, ◌∙◌, inl, inr, ◌⊎◌, eq-or-lt_of_le, Vector, IsDirection, SameDirection, Label, IsOnCircle, Passes, order_is_cyclic, order_is_transitive, same_in_place, ways_glue, IsTurning, Gives, on_ray, in_sector, in_only_sector}
use Rattle.nef_star.proofs.Turns.{whole_turn, three, four}

pub fewer-turning : (a : Vector) (n : ℕ) (f : ℕ → Vector) → IsTurning a (suc n) f → IsTurning a n f
fewer-turning a n f t = record { circle = λ k h. t.circle k (omega arith); apart = λ k h i. t.apart k h (omega arith); rising = λ i k p q h. t.rising i k p q (omega arith) }

-- n and k are the last and the one before it
module _ (a : Vector) (axis : IsDirection a) (k : ℕ) (f : ℕ → Vector) (t : IsTurning a (suc (suc k)) f) (M S : ℕ → Label) (before : M (suc k) ≡ S k) (after : M (suc k) ≡ S (suc k)) (d : Vector) (o : IsOnCircle a d) where
  on : (i : ℕ) → i < suc (suc k) → IsOnCircle a (f i)
  on i h = t.circle i h

  -- the last is between the one before it and the first
  last_between : Passes a (f k) (f (suc k)) (f 0)
  last_between = by k refl
    where
      by : (i : ℕ) → k ≡ i → Passes a (f k) (f (suc k)) (f 0)
      by zero e = rw e (whole_turn a (f 0) (f 1) (on 0 (omega arith)) (on 1 (omega arith)) (t.apart 1 (omega arith) (omega arith)))
      by (suc i) e = order_is_cyclic a (f 0) (f k) (f (suc k)) (three a (f 0) (f k) (f (suc k)) axis (on 0 (omega arith)) (on k (omega arith)) (on (suc k) (omega arith))) (t.apart (suc k) (omega arith) (omega arith))
          (t.rising k (suc k) (omega (arith, e)) (omega arith) (omega arith))

  merged : (l : Label) → S k ≡ l → Passes a (f k) d (f 0) → Gives a (suc k) f M S d l
  merged l e p = in_sector k 0 (omega arith) (inr (refl, refl)) p e

  pub dropped-gives : (l : Label) → Gives a (suc (suc k)) f M S d l → Gives a (suc k) f M S d l
  dropped-gives l (on_ray i h s e) = by (eq-or-lt_of_le {n = i} {m = suc k} (omega arith))
    where
      at_last : i ≡ suc k → Gives a (suc k) f M S d l
      at_last z = merged l (sym before ∙ ap M (sym z) ∙ e)
          (same_in_place a (f k) (f (suc k)) d (f 0) (four a (f k) (f (suc k)) d (f 0) axis (on k (omega arith)) (on (suc k) (omega arith)) o (on 0 (omega arith))) (subst (λ (m : ℕ). SameDirection (f m) d) z s) last_between)

      by : (i ≡ suc k) ⊎ (i < suc k) → Gives a (suc k) f M S d l
      by (inl z) = at_last z
      by (inr z) = on_ray i z s e
  dropped-gives l (in_sector i j h (inl (x, y)) p e) = by (eq-or-lt_of_le {n = j} {m = suc k} (omega arith))
    where
      to_last : j ≡ suc k → Gives a (suc k) f M S d l
      to_last z =
          let same : i ≡ k = omega (arith, x, z) in
          let q : Passes a (f k) d (f (suc k)) = subst (λ (m : ℕ). Passes a (f k) d (f m)) z (subst (λ (m : ℕ). Passes a (f m) d (f j)) same p) in
          merged l (ap S (sym same) ∙ e)
          (order_is_transitive a (f k) d (f (suc k)) (f 0) (four a (f k) d (f (suc k)) (f 0) axis (on k (omega arith)) o (on (suc k) (omega arith)) (on 0 (omega arith))) q last_between)

      by : (j ≡ suc k) ⊎ (j < suc k) → Gives a (suc k) f M S d l
      by (inl z) = to_last z
      by (inr z) = in_sector i j (omega (arith, x, z)) (inl (x, z)) p e
  dropped-gives l (in_sector i j h (inr (x, y)) p e) =
      let same : i ≡ suc k = omega (arith, x) in
      let q : Passes a (f (suc k)) d (f 0) = subst (λ (m : ℕ). Passes a (f (suc k)) d (f m)) y (subst (λ (m : ℕ). Passes a (f m) d (f j)) same p) in
      merged l (sym before ∙ after ∙ ap S (sym same) ∙ e)
      (ways_glue a (f k) (f (suc k)) d (f 0) (four a (f k) (f (suc k)) d (f 0) axis (on k (omega arith)) (on (suc k) (omega arith)) o (on 0 (omega arith))) last_between q)
  dropped-gives l (in_only_sector z e) = absurd (omega (arith, z))

-- the one ray of a star
pub only-label : (a : Vector) (f : ℕ → Vector) (M S : ℕ → Label) (d : Vector) (l : Label) → Gives a 0 f M S d l → S 0 ≡ l
only-label a f M S d l (on_ray i k s e) = absurd (omega (arith, k))
only-label a f M S d l (in_sector i j k x p e) = absurd (omega (arith, k))
only-label a f M S d l (in_only_sector z e) = e
