-- Directions that turn, counted from another one of them, turn and give the same.
use Rattle.nef_star.proofs.Prelude.{◌≡◌, ℕ, zero, suc, ◌+◌, ◌-◌, ◌<◌, ◌≤◌, arith, refl, sym, ap, subst, ◌∙◌, inl, inr, ◌⊎◌, Vector, IsDirection, SameDirection, Label, IsOnCircle, Passes, seen_from_later, seen_from_between, seen_from_after, IsTurning, IsNext, Gives, on_ray, in_sector, in_only_sector}
use Rattle.nef_star.proofs.Turns.{same-self, four, next_in, has_next, distinct}
use Rattle.std.proofs.lemmas.Bool.{cases_lt}
use Rattle.std.proofs.Math.Nat.{eq-zero-or-pos}

-- g counts from the m-th of the n values of f on
pub record IsRotated {X : Type 0} (n m : ℕ) (f g : ℕ → X) : Type 0 where
  pub low : (k : ℕ) → k + m < n → g k ≡ f (k + m)
  pub high : (k : ℕ) → n ≤ k + m → k < n → g k ≡ f (k + m - n)

-- j stands in i's place
abbrev pub Moved : ℕ → ℕ → ℕ → ℕ → Type 0
Moved n m i j = (j + m ≡ i) ⊎ (j + m ≡ i + n)

pub moved : (n m i : ℕ) → m < n → i < n → (j : ℕ) × (j < n) × Moved n m i j
moved n m i h k = by (cases_lt i m)
  where
    by : (i < m) ⊎ (m ≤ i) → (j : ℕ) × (j < n) × Moved n m i j
    by (inl p) = (i + n - m, omega arith, inr (omega arith))
    by (inr p) = (i - m, omega arith, inl (omega arith))

-- what stands in place j came from place i
pub moved-from : (n m j : ℕ) → m < n → j < n → (i : ℕ) × (i < n) × Moved n m i j
moved-from n m j h k = by (cases_lt (j + m) n)
  where
    by : (j + m < n) ⊎ (n ≤ j + m) → (i : ℕ) × (i < n) × Moved n m i j
    by (inl p) = (j + m, p, inl refl)
    by (inr p) = (j + m - n, omega (arith, p, h, k), inr (omega (arith, p)))

pub moved-value : {X : Type 0} (n m : ℕ) (f g : ℕ → X) → IsRotated n m f g → m < n → (i j : ℕ) → i < n → j < n → Moved n m i j → g j ≡ f i
moved-value n m f g r h i j k l (inl e) = let low : j + m < n = omega (arith, e) in r.low j low ∙ ap f e
moved-value n m f g r h i j k l (inr e) = let high : n ≤ j + m = omega (arith, e) in let same : j + m - n ≡ i = omega (arith, e) in r.high j high l ∙ ap f same

moved-next : (n m i j i' j' : ℕ) → m < n → i < n → i' < n → Moved n m i i' → IsNext n i j → IsNext n i' j' → Moved n m j j'
moved-next n m i j i' j' h k l (inl e) (inl (p, p')) (inl (q, q')) = inl (omega (arith, e, p, q))
moved-next n m i j i' j' h k l (inl e) (inl (p, p')) (inr (q, q')) = absurd (omega (arith, e, p, q, p'))
moved-next n m i j i' j' h k l (inl e) (inr (p, p')) (inl (q, q')) = inr (omega (arith, e, p, q, p'))
moved-next n m i j i' j' h k l (inl e) (inr (p, p')) (inr (q, q')) = inl (omega (arith, e, p, q, p', q'))
moved-next n m i j i' j' h k l (inr e) (inl (p, p')) (inl (q, q')) = inr (omega (arith, e, p, q))
moved-next n m i j i' j' h k l (inr e) (inl (p, p')) (inr (q, q')) = inl (omega (arith, e, p, q, q'))
moved-next n m i j i' j' h k l (inr e) (inr (p, p')) (inl (q, q')) = absurd (omega (arith, e, p, q, q'))
moved-next n m i j i' j' h k l (inr e) (inr (p, p')) (inr (q, q')) = absurd (omega (arith, e, p, q))

module _ (a : Vector) (n m : ℕ) (f g : ℕ → Vector) (h : m < n) (r : IsRotated n m f g) where
  module _ (M N S R : ℕ → Label) (marks : IsRotated n m M N) (sectors : IsRotated n m S R) where
    pub rotated-gives : (d : Vector) (l : Label) → Gives a n f M S d l → Gives a n g N R d l
    rotated-gives d l (on_ray k i s e) =
        let k' = moved n m k h i in
        on_ray k'.0 k'.1 (subst (λ (v : Vector). SameDirection v d) (sym (moved-value n m f g r h k k'.0 i k'.1 k'.2)) s) (moved-value n m M N marks h k k'.0 i k'.1 k'.2 ∙ e)
    rotated-gives d l (in_sector k j i x p e) =
        let k' = moved n m k h i in let j' = has_next n k'.0 k'.1 in
        let there = moved-next n m k j k'.0 j'.0 h i k'.1 k'.2 x j'.1 in
        in_sector k'.0 j'.0 k'.1 j'.1
        (rw (moved-value n m f g r h k k'.0 i k'.1 k'.2, moved-value n m f g r h j j'.0 (next_in n k j i x) (next_in n k'.0 j'.0 k'.1 j'.1) there) p)
        (moved-value n m S R sectors h k k'.0 i k'.1 k'.2 ∙ e)
    rotated-gives d l (in_only_sector z e) = absurd (omega (arith, z))

  module _ (axis : IsDirection a) (t : IsTurning a n f) where
    pub rotated-turning : IsTurning a n g
    rotated-turning = record { circle = circle; apart = apart; rising = rising }
      where
        on : (k : ℕ) → k < n → IsOnCircle a (f k)
        on k i = t.circle k i

        zero-value : g 0 ≡ f m
        zero-value = let low : 0 + m < n = omega arith in let e : 0 + m ≡ m = omega arith in r.low 0 low ∙ ap f e

        split : (k : ℕ) → (k + m < n) ⊎ (n ≤ k + m)
        split k = cases_lt (k + m) n

        from_first : (i k : ℕ) → i < k → k < n → SameDirection (f 0) (f i) ⊎ Passes a (f 0) (f i) (f k)
        from_first zero k p l = inl (same-self a (f 0) (on 0 (omega arith)))
        from_first (suc i) k p l = inr (t.rising (suc i) k (omega arith) p l)

        circle : (k : ℕ) → k < n → IsOnCircle a (g k)
        circle k i = elim (split k) [ inl p ↦ subst (IsOnCircle a) (sym (r.low k p)) (on (k + m) p) | inr p ↦ subst (IsOnCircle a) (sym (r.high k p i)) (on (k + m - n) (omega arith)) ]

        apart : (k : ℕ) → 0 < k → k < n → SameDirection (g 0) (g k) → ⊥
        apart k p i s = elim (split k) [
          | inl q ↦ let e = distinct a axis n f t m (k + m) h q (rw (← zero-value, ← r.low k q) s) in omega (arith, e)
          | inr q ↦ let e = distinct a axis n f t m (k + m - n) h (omega arith) (rw (← zero-value, ← r.high k q i) s) in omega (arith, e)
        ]

        rising : (i k : ℕ) → 0 < i → i < k → k < n → Passes a (g 0) (g i) (g k)
        rising i k p q l = by (eq-zero-or-pos m) (split i) (split k)
          where
            by : (m ≡ 0) ⊎ (0 < m) → (i + m < n) ⊎ (n ≤ i + m) → (k + m < n) ⊎ (n ≤ k + m) → Passes a (g 0) (g i) (g k)
            by (inl z) u w = rw (same 0 (omega (arith, z)), same i (omega arith), same k l) (t.rising i k p q l)
              where
                same : (j : ℕ) → j < n → g j ≡ f j
                same j x = let low : j + m < n = omega (arith, z) in let e : j + m ≡ j = omega (arith, z) in r.low j low ∙ ap f e
            by (inr z) (inl u) (inl w) = rw (zero-value, r.low i u, r.low k w)
                (seen_from_later a (f 0) (f m) (f (i + m)) (f (k + m)) (four a (f 0) (f m) (f (i + m)) (f (k + m)) axis (on 0 (omega arith)) (on m h) (on (i + m) u) (on (k + m) w))
                (t.rising m (i + m) z (omega arith) u) (t.rising (i + m) (k + m) (omega arith) (omega arith) w))
            by (inr z) (inl u) (inr w) = rw (zero-value, r.low i u, r.high k w l)
                (seen_from_between a (f 0) (f m) (f (i + m)) (f (k + m - n)) (four a (f 0) (f m) (f (i + m)) (f (k + m - n)) axis (on 0 (omega arith)) (on m h) (on (i + m) u) (on (k + m - n) (omega arith)))
                (t.apart (i + m) (omega arith) u) (t.rising m (i + m) z (omega arith) u) (from_first (k + m - n) m (omega arith) h))
            by (inr z) (inr u) (inl w) = absurd (omega arith)
            by (inr z) (inr u) (inr w) = rw (zero-value, r.high i u (omega arith), r.high k w l)
                (seen_from_after a (f 0) (f m) (f (k + m - n)) (f (i + m - n)) (four a (f 0) (f m) (f (k + m - n)) (f (i + m - n)) axis (on 0 (omega arith)) (on m h) (on (k + m - n) (omega arith)) (on (i + m - n) (omega arith)))
                (t.apart m z h) (t.rising (k + m - n) m (omega arith) (omega arith) h) (from_first (i + m - n) (k + m - n) (omega arith) (omega arith)))
