-- Fractions of the frame within bounds that are cut off next to the frame's sides.
use Rattle.nef_locate.proofs.Prelude.{◌≡◌, ◌*◌, ◌+◌, ◌≤◌, ℤ, pos, neg_ℤ, ◌+ℤ◌, ◌-ℤ◌, ◌*ℤ◌, ◌<ℤ◌, ◌≤ℤ◌, nat_abs, ◌⊎◌, inl, inr, ◌↔◌, FitsSigned, arith, ap, ◌∙◌, subst, ints, to_z-of_z, half_side, mul_le_right, LiesBetween}
use mir.Syntax.{w128}
use mir.Val.{to_z, of_z}
use Rattle.std.specs.Int.{int_max, int_min}
use Rattle.std.proofs.lemmas.Int.{by_lt_z, clamps}
use Rattle.nef_index.specs.declared.spans.Bounds.{Bounds}

-- n is at most the frame's half side in size
abbrev IsOfFrame : ℤ → Type 0
IsOfFrame n = (neg_ℤ (pos half_side) ≤ℤ n) × (n ≤ℤ pos half_side)

-- m is n, or, beyond the frame, a number next to the frame: the same numbers of the frame are at least m and at least n
abbrev pub IsFramedLow : ℤ → ℤ → Type 0
IsFramedLow n m = ((n <ℤ neg_ℤ (pos half_side)) × (m ≡ neg_ℤ (pos half_side))) ⊎ ((pos half_side <ℤ n) × (m ≡ pos half_side +ℤ pos 1)) ⊎ (IsOfFrame n × (m ≡ n))

-- m is n, or, beyond the frame, a number next to the frame: the same numbers of the frame are at most m and at most n
abbrev pub IsFramedHigh : ℤ → ℤ → Type 0
IsFramedHigh n m = ((pos half_side <ℤ n) × (m ≡ pos half_side)) ⊎ ((n <ℤ neg_ℤ (pos half_side)) × (m ≡ neg_ℤ (pos half_side) -ℤ pos 1)) ⊎ (IsOfFrame n × (m ≡ n))

pub clamped-low : (n m : ℤ) → m ≡ int_max (neg_ℤ (pos half_side)) (int_min n (pos half_side +ℤ pos 1)) → IsFramedLow n m
clamped-low n m e = by_lt_z n (neg_ℤ (pos half_side)) (λ a. inl (a, omega (arith, ints, clamps)))
    (λ a. by_lt_z (pos half_side) n (λ b. inr (inl (b, omega (arith, ints, clamps)))) (λ b. inr (inr ((a, b), omega (arith, ints, clamps)))))

pub clamped-high : (n m : ℤ) → m ≡ int_max (neg_ℤ (pos half_side) -ℤ pos 1) (int_min n (pos half_side)) → IsFramedHigh n m
clamped-high n m e = by_lt_z (pos half_side) n (λ a. inl (a, omega (arith, ints, clamps)))
    (λ a. by_lt_z n (neg_ℤ (pos half_side)) (λ b. inr (inl (b, omega (arith, ints, clamps)))) (λ b. inr (inr ((b, a), omega (arith, ints, clamps)))))

pub low-small : (l m : ℤ) → IsFramedLow l m → nat_abs m ≤ half_side + 1
low-small l m (inl (o, e)) = omega (arith, ints)
low-small l m (inr (inl (o, e))) = omega (arith, ints)
low-small l m (inr (inr (o, e))) = let a = o.0 in let b = o.1 in omega (arith, ints)

pub high-small : (h k : ℤ) → IsFramedHigh h k → nat_abs k ≤ half_side + 1
high-small h k (inl (o, e)) = omega (arith, ints)
high-small h k (inr (inl (o, e))) = omega (arith, ints)
high-small h k (inr (inr (o, e))) = let a = o.0 in let b = o.1 in omega (arith, ints)

module _ (n w : ℤ) (p : pos 0 <ℤ w) where
  times : (a b : ℤ) → a ≤ℤ b → (a *ℤ w) ≤ℤ (b *ℤ w)
  times a b l = mul_le_right a b w (omega (arith, ints)) l

  same : (a b : ℤ) → a ≡ b → a *ℤ w ≡ b *ℤ w
  same a b e = ap (λ (r : ℤ). r *ℤ w) e

  -- ---- at least the lower one
  from-low : (l m : ℤ) → IsFramedLow l m → (m *ℤ w) ≤ℤ n → ((pos half_side *ℤ w) <ℤ n) ⊎ (((neg_ℤ (pos half_side) *ℤ w) ≤ℤ n) × ((l *ℤ w) ≤ℤ n))
  from-low l m (inl (o, e)) h =
      let f = same m (neg_ℤ (pos half_side)) e in let t = times l (neg_ℤ (pos half_side)) (omega (arith, ints)) in
      inr (omega (arith, ints), omega (arith, ints))
  from-low l m (inr (inl (o, e))) h = let f = same m (pos half_side +ℤ pos 1) e in inl (omega (arith, ints))
  from-low l m (inr (inr (o, e))) h =
      let f = same m l e in let t = times (neg_ℤ (pos half_side)) l o.0 in
      inr (omega (arith, ints), omega (arith, ints))

  pub to-low : (l m : ℤ) → IsFramedLow l m → nat_abs n ≤ half_side * nat_abs w → (l *ℤ w) ≤ℤ n → (m *ℤ w) ≤ℤ n
  to-low l m (inl (o, e)) s h = let f = same m (neg_ℤ (pos half_side)) e in omega (arith, ints)
  to-low l m (inr (inl (o, e))) s h = let t = times (pos half_side +ℤ pos 1) l (omega (arith, ints)) in absurd (omega (arith, ints))
  to-low l m (inr (inr (o, e))) s h = let f = same m l e in omega (arith, ints)

  -- ---- at most the upper one
  from-high : (h k : ℤ) → IsFramedHigh h k → n ≤ℤ (k *ℤ w) → (n <ℤ (neg_ℤ (pos half_side) *ℤ w)) ⊎ ((n ≤ℤ (pos half_side *ℤ w)) × (n ≤ℤ (h *ℤ w)))
  from-high h k (inl (o, e)) g =
      let f = same k (pos half_side) e in let t = times (pos half_side) h (omega (arith, ints)) in
      inr (omega (arith, ints), omega (arith, ints))
  from-high h k (inr (inl (o, e))) g = let f = same k (neg_ℤ (pos half_side) -ℤ pos 1) e in inl (omega (arith, ints))
  from-high h k (inr (inr (o, e))) g =
      let f = same k h e in let t = times h (pos half_side) o.1 in
      inr (omega (arith, ints), omega (arith, ints))

  pub to-high : (h k : ℤ) → IsFramedHigh h k → nat_abs n ≤ half_side * nat_abs w → n ≤ℤ (h *ℤ w) → n ≤ℤ (k *ℤ w)
  to-high h k (inl (o, e)) s g = let f = same k (pos half_side) e in omega (arith, ints)
  to-high h k (inr (inl (o, e))) s g = let t = times h (neg_ℤ (pos half_side) -ℤ pos 1) (omega (arith, ints)) in absurd (omega (arith, ints))
  to-high h k (inr (inr (o, e))) s g = let f = same k h e in omega (arith, ints)

  -- ---- both
  pub from-both : (l m h k : ℤ) → IsFramedLow l m → IsFramedHigh h k → (m *ℤ w) ≤ℤ n → n ≤ℤ (k *ℤ w) → (nat_abs n ≤ half_side * nat_abs w) × ((l *ℤ w) ≤ℤ n) × (n ≤ℤ (h *ℤ w))
  from-both l m h k L H a b = join (from-low l m L a) (from-high h k H b)
    where
      join : ((pos half_side *ℤ w) <ℤ n) ⊎ (((neg_ℤ (pos half_side) *ℤ w) ≤ℤ n) × ((l *ℤ w) ≤ℤ n)) → (n <ℤ (neg_ℤ (pos half_side) *ℤ w)) ⊎ ((n ≤ℤ (pos half_side *ℤ w)) × (n ≤ℤ (h *ℤ w)))
          → (nat_abs n ≤ half_side * nat_abs w) × ((l *ℤ w) ≤ℤ n) × (n ≤ℤ (h *ℤ w))
      join (inr (c, d)) (inr (e, f)) = (omega (arith, ints), d, f)
      join (inl c) (inl d) = absurd (omega (arith, ints))
      join (inl c) (inr (e, f)) = absurd (omega (arith, ints))
      join (inr (c, d)) (inl e) = absurd (omega (arith, ints))

-- ---- a test of numbers that are read is one of the hit's numbers
pub read : (t : Type 0) (b : Bounds) (n m w v : ℤ) → FitsSigned w128 n → FitsSigned w128 w → n ≡ m → w ≡ v → t ↔ LiesBetween b (to_z w128 (of_z w128 n)) (to_z w128 (of_z w128 w)) → t ↔ LiesBetween b m v
read t b n m w v f g i j r = subst (λ (k : ℤ). t ↔ LiesBetween b k v) (to_z-of_z w128 n f ∙ i) (subst (λ (k : ℤ). t ↔ LiesBetween b (to_z w128 (of_z w128 n)) k) (to_z-of_z w128 w g ∙ j) r)
