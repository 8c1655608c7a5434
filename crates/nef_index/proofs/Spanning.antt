-- Whole numbers that bound coordinates.
use Rattle.nef_index.proofs.Prelude.{◌≡◌, ℕ, zero, suc, ◌⊎◌, inl, inr, ◌+◌, ◌*◌, ◌/◌, ◌<◌, ◌≤◌, ℤ, pos, negsuc, neg_ℤ, ◌+ℤ◌, ◌*ℤ◌, ◌-ℤ◌, ◌<ℤ◌, ◌≤ℤ◌, nat_abs, List, [], ◌∷◌, length, arith, sym, ◌∙◌, subst, ⊎_elim, div-le_self, div-mul-le_self, lt-div-mul-add, ints, int_div_euclid, mul_nonneg, cancel_le, ring, at, num, neg, ◌⊕◌, ◌⊖◌, ◌⊗◌, IsAt, SpacePoint, point_of, Plane, Coordinate, coordinate_of, coordinate_x, coordinate_y, coordinate_z, IsWithin, is-at_one, is-at_some, is-at_within, Point, Bounds, Span, AreNumbersOf, AreCarrierPoints, AreCarrierSpans, ArePointSpans, AreNarrowerListed, IsInSpan, AreInSpan, AreNarrower, IsNarrower}
use Rattle.nef_space.proofs.Elementary.{weight-positive, less-or-last}

-- ---- quotients
-- z/w rounded down, times w, is at most z
pub euclid-below : (z w : ℤ) → pos 0 <ℤ w → (int_div_euclid z w *ℤ w) ≤ℤ z
euclid-below z (negsuc b) p = absurd (omega (arith, ints))
euclid-below (pos a) (pos b) p = let l = div-mul-le_self a b in whole (a / b * b) a l
  where
    whole : (k n : ℕ) → k ≤ n → pos k ≤ℤ pos n
    whole k n l = omega (arith, ints)
euclid-below (negsuc a) (pos b) p =
    let l = lt-div-mul-add {a = a} {b = b} (some b p) in
    let r : neg_ℤ (pos (a / b) +ℤ pos 1) *ℤ pos b ≡ neg_ℤ (pos (a / b * b + b)) = ring (pos (a / b) ∷ pos b ∷ []) (neg (at 0 ⊕ num (pos 1)) ⊗ at 1) (neg (at 0 ⊗ at 1 ⊕ at 1)) tt in
    let e : negsuc (a / b) ≡ neg_ℤ (pos (a / b) +ℤ pos 1) = turned (a / b) in
    subst (λ (x : ℤ). (x *ℤ pos b) ≤ℤ negsuc a) (sym e) (subst (λ (x : ℤ). x ≤ℤ negsuc a) (sym r) (below a (a / b * b + b) l))
  where
    some : (n : ℕ) → pos 0 <ℤ pos n → 0 < n
    some n q = omega (arith, ints)

    turned : (q : ℕ) → negsuc q ≡ neg_ℤ (pos q +ℤ pos 1)
    turned q = omega (arith, ints)

    below : (n k : ℕ) → n < k → neg_ℤ (pos k) ≤ℤ negsuc n
    below n k l = omega (arith, ints)

pub euclid-small : (z w : ℤ) → pos 0 <ℤ w → nat_abs (int_div_euclid z w) ≤ nat_abs z
euclid-small z (negsuc b) p = absurd (omega (arith, ints))
euclid-small (pos a) (pos b) p = div-le_self a b
euclid-small (negsuc a) (pos b) p = let l = div-le_self a b in omega arith

-- the next number, times w, is more than z
pub euclid-above : (z w : ℤ) → pos 0 <ℤ w → z <ℤ ((int_div_euclid z w +ℤ pos 1) *ℤ w)
euclid-above z (negsuc b) p = absurd (omega (arith, ints))
euclid-above (pos a) (pos b) p =
    let l = lt-div-mul-add {a = a} {b = b} (let h : pos 0 <ℤ pos b = p in omega (arith, ints)) in
    let r : (pos (a / b) +ℤ pos 1) *ℤ pos b ≡ pos (a / b * b + b) = ring (pos (a / b) ∷ pos b ∷ []) ((at 0 ⊕ num (pos 1)) ⊗ at 1) (at 0 ⊗ at 1 ⊕ at 1) tt in
    subst (λ (x : ℤ). pos a <ℤ x) (sym r) (whole a (a / b * b + b) l)
  where
    whole : (k n : ℕ) → k < n → pos k <ℤ pos n
    whole k n l = omega (arith, ints)
euclid-above (negsuc a) (pos b) p =
    let l = div-mul-le_self a b in
    let r : neg_ℤ (pos (a / b)) *ℤ pos b ≡ neg_ℤ (pos (a / b * b)) = ring (pos (a / b) ∷ pos b ∷ []) (neg (at 0) ⊗ at 1) (neg (at 0 ⊗ at 1)) tt in
    subst (λ (x : ℤ). negsuc a <ℤ (x *ℤ pos b)) (sym (next (a / b))) (subst (λ (x : ℤ). negsuc a <ℤ x) (sym r) (above a (a / b * b) l))
  where
    next : (q : ℕ) → negsuc q +ℤ pos 1 ≡ neg_ℤ (pos q)
    next q = omega (arith, ints)

    above : (n k : ℕ) → k ≤ n → negsuc n <ℤ neg_ℤ (pos k)
    above n k l = omega (arith, ints)

-- a larger number, times w, is larger
pub times-below : (m f w : ℤ) → pos 0 <ℤ w → m ≤ℤ f → (m *ℤ w) ≤ℤ (f *ℤ w)
times-below m f w p l =
    let d = mul_nonneg (f -ℤ m) w (omega (arith, ints)) (omega (arith, ints)) in
    let r : (f -ℤ m) *ℤ w ≡ f *ℤ w -ℤ m *ℤ w = ring (m ∷ f ∷ w ∷ []) ((at 1 ⊖ at 0) ⊗ at 2) (at 1 ⊗ at 2 ⊖ at 0 ⊗ at 2) tt in
    omega (arith, ints)

-- the quotient times w is as small as w or twice z
pub euclid-times : (z w : ℤ) (n : ℕ) → pos 0 <ℤ w → 2 * nat_abs z ≤ n → nat_abs w ≤ n → nat_abs (int_div_euclid z w *ℤ w) ≤ n
euclid-times z w n p h k =
    let q = int_div_euclid z w in
    let r : (q +ℤ pos 1) *ℤ w ≡ q *ℤ w +ℤ w = ring (q ∷ w ∷ []) ((at 0 ⊕ num (pos 1)) ⊗ at 1) (at 0 ⊗ at 1 ⊕ at 1) tt in
    ⊎_elim
    (λ l. far (q *ℤ w) (euclid-below z w p) (subst (λ (x : ℤ). z <ℤ x) r (euclid-above z w p)) (times-below q (negsuc 1) w p l))
    (λ l. near (q *ℤ w) (euclid-below z w p) (times-below (negsuc 0) q w p l))
    (least q)
  where
    least : (q : ℤ) → (q ≤ℤ negsuc 1) ⊎ (negsuc 0 ≤ℤ q)
    least (pos m) = inr (omega (arith, ints))
    least (negsuc zero) = inr (omega (arith, ints))
    least (negsuc (suc m)) = inl (omega (arith, ints))

    far : (x : ℤ) → x ≤ℤ z → z <ℤ (x +ℤ w) → x ≤ℤ (negsuc 1 *ℤ w) → nat_abs x ≤ n
    far x b a l = omega (arith, ints)

    near : (x : ℤ) → x ≤ℤ z → (negsuc 0 *ℤ w) ≤ℤ x → nat_abs x ≤ n
    near x b l = omega (arith, ints)

-- rounded up it is as small as z
pub euclid-next : (z w : ℤ) → pos 0 <ℤ w → (int_div_euclid z w *ℤ w ≡ z → ⊥) → nat_abs (int_div_euclid z w +ℤ pos 1) ≤ nat_abs z
euclid-next z w p off = by (int_div_euclid z w) (euclid-small z w p) (euclid-below z w p) off
  where
    less : (x : ℤ) → x ≤ℤ z → (x ≡ z → ⊥) → x <ℤ z
    less x l o = omega (arith, ints)

    by : (q : ℤ) → nat_abs q ≤ nat_abs z → (q *ℤ w) ≤ℤ z → (q *ℤ w ≡ z → ⊥) → nat_abs (q +ℤ pos 1) ≤ nat_abs z
    by (negsuc n) s b o = omega (arith, ints)
    by (pos n) s b o =
        let m = mul_nonneg (pos n) (w -ℤ pos 1) (omega (arith, ints)) (omega (arith, ints)) in
        let r : pos n *ℤ (w -ℤ pos 1) ≡ pos n *ℤ w -ℤ pos n = ring (pos n ∷ w ∷ []) (at 0 ⊗ (at 1 ⊖ num (pos 1))) (at 0 ⊗ at 1 ⊖ at 0) tt in
        let l = less (pos n *ℤ w) b o in
        omega (arith, ints)

-- ---- wider bounds
lower : (x y z : ℤ) → x ≤ℤ y → y ≤ℤ z → x ≤ℤ z
lower x y z k l = omega (arith, ints)

within-wider : (c : Coordinate) (a b : Bounds) (p : SpacePoint) → AreNarrower a b → IsWithin c a.low a.high p → IsWithin c b.low b.high p
within-wider c a b p n w =
    let l = times-below b.low a.low (pos p.w) (weight-positive p) n.0 in
    let h = times-below a.high b.high (pos p.w) (weight-positive p) n.1 in
    let u = w.0 in let v = w.1 in
    (lower (b.low *ℤ pos p.w) (a.low *ℤ pos p.w) (coordinate_of c p) l u, lower (coordinate_of c p) (a.high *ℤ pos p.w) (b.high *ℤ pos p.w) v h)

pub span-wider : (s t : Span) (p : SpacePoint) → IsNarrower s t → IsInSpan s p → IsInSpan t p
span-wider s t p n i = (within-wider coordinate_x s.x t.x p n.0 i.0, within-wider coordinate_y s.y t.y p n.1 i.1, within-wider coordinate_z s.z t.z p n.2 i.2)

narrower : (a b c : Bounds) → AreNarrower a b → AreNarrower b c → AreNarrower a c
narrower a b c n m = (lower c.low b.low a.low m.0 n.0, lower a.high b.high c.high n.1 m.1)

pub narrower-still : (s t u : Span) → IsNarrower s t → IsNarrower t u → IsNarrower s u
narrower-still s t u n m = (narrower s.x t.x u.x n.0 m.0, narrower s.y t.y u.y n.1 m.1, narrower s.z t.z u.z n.2 m.2)

-- ---- bounds that hold a coordinate in common
pub within-both : (c : Coordinate) (a b : Bounds) (q : SpacePoint) → IsWithin c a.low a.high q → IsWithin c b.low b.high q → (a.low ≤ℤ b.high) × (b.low ≤ℤ a.high)
within-both c a b q i j = (below a.low b.high i.0 j.1, below b.low a.high j.0 i.1)
  where
    below : (l h : ℤ) → (l *ℤ pos q.w) ≤ℤ coordinate_of c q → coordinate_of c q ≤ℤ (h *ℤ pos q.w) → l ≤ℤ h
    below l h u v = cancel_le l h (pos q.w) (weight-positive q) (omega (arith, ints))

-- ---- the spans of single points
pub within-spans : (ps : List Point) (ss : List Span) (row : List ℕ) → ArePointSpans ps ss → AreNumbersOf ps row → AreNumbersOf ss row
within-spans ps ss row A within i k a = let l = within i k a in let e = A.as_many in omega arith

-- ---- a span as wide as those listed, one after the other
pub narrower-more : (ss : List Span) (ns : List ℕ) (n k : ℕ) (t s u : Span) → IsAt ns n k → IsAt ss k t → AreNarrowerListed ss ns n s → IsNarrower s u → IsNarrower t u → AreNarrowerListed ss ns (n + 1) u
narrower-more ss ns n k t s u a b all w here i m r l c d = ⊎_elim
    (λ o. narrower-still r s u (all i m r o c d) w)
    (λ e.
    let same : m ≡ k = is-at_one ns n m k (subst (λ (j : ℕ). IsAt ns j m) e c) a in
    subst (λ (x : Span). IsNarrower x u) (is-at_one ss k t r b (subst (λ (j : ℕ). IsAt ss j r) same d)) here)
    (less-or-last i n l)

-- it holds the points with these numbers
pub narrower-in : (ps : List Point) (ss : List Span) (row : List ℕ) (s : Span) → ArePointSpans ps ss → AreNarrowerListed ss row (length row) s → AreInSpan ps row (length row) s
narrower-in ps ss row s A wide i k v l a b =
    let t = is-at_some ss k (let m = is-at_within ps k v b in let e = A.as_many in omega arith) in
    span-wider t.0 s (point_of v) (wide i k t.0 l a t.1) (A.each k v t.0 b t.1)

-- ---- a span for each row, as wide as those that it lists
abbrev pub AreSpansOf : List Span → List (List ℕ) → List Span → Type 0
AreSpansOf alone rows ss = (k : ℕ) (row : List ℕ) (s : Span) → IsAt rows k row → IsAt ss k s → AreNarrowerListed alone row (length row) s

-- ---- the spans of the carriers
module _ (hs : List Plane) (ps : List Point) (rows : List (List ℕ)) (R : AreCarrierPoints hs ps rows) where
  pub rows-within : (k : ℕ) (row : List ℕ) → IsAt rows k row → AreNumbersOf ps row
  rows-within k row a i m b =
      let h = is-at_some hs k (let l = is-at_within rows k row a in let e = R.as_many in omega arith) in
      let o = (R.each k h.0 row h.1 a).each i m b in
      is-at_within ps m o.0 o.1

  pub carrier-spans : (alone ss : List Span) → ArePointSpans ps alone → length ss ≡ length rows → AreSpansOf alone rows ss → AreCarrierSpans hs ps ss
  carrier-spans alone ss A e all = record {
    as_many = e ∙ R.as_many;
    each = λ k h s a b j v c z.
        let row = is-at_some rows k (let l = is-at_within hs k h a in let f = R.as_many in omega arith) in
        let o = (R.each k h row.0 a row.1).all j (v, c, z) in
        narrower-in ps alone row.0 s A (all k row.0 s row.1 b) o.0 j v (is-at_within row.0 o.0 j o.1) o.1 c;
  }
