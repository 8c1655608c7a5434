-- Points of the frame ahead of a point lie within its window.
use Rattle.nef_locate.proofs.Prelude.{◌≡◌, ℕ, ◌+◌, ◌*◌, ◌≤◌, ℤ, pos, neg_ℤ, ◌+ℤ◌, ◌-ℤ◌, ◌*ℤ◌, ◌<ℤ◌, ◌≤ℤ◌, nat_abs, [], ◌∷◌, arith, ap, sym, inl, inr, subst, ints, mul_nonneg, mul_le_right, cancel_le, cancel_lt, ring, at, num, ◌⊕◌, ◌⊖◌, ◌⊗◌, half_side, SpacePoint, InClosedFrame, IsAhead, Vector, opposite, up, IsVertical, Coordinate, coordinate_of, coordinate_x, coordinate_y, coordinate_z, IsWithin, ahead-back, Span, IsInSpan, IsInsideBounds, IsAmidWindow}
use Rattle.law_geometry.specs.complex.Spans.{IsJustAbove, IsCloseAbove}
use Rattle.law_geometry.proofs.complex.Spans.{stays-close}
use Rattle.nef_index.specs.declared.spans.Bounds.{Bounds}
use Rattle.nef_space.proofs.Elementary.{weight-positive, times-exchange}

-- ---- of one point above another

some : (p : SpacePoint) → pos 0 ≤ℤ pos p.w
some p = omega (arith, ints)

low-rises : (c : Coordinate) (low : ℤ) (p q : SpacePoint) → (coordinate_of c p *ℤ pos q.w) ≤ℤ (coordinate_of c q *ℤ pos p.w) → (low *ℤ pos p.w) ≤ℤ coordinate_of c p → (low *ℤ pos q.w) ≤ℤ coordinate_of c q
low-rises c low p q e l =
    let m = mul_le_right (low *ℤ pos p.w) (coordinate_of c p) (pos q.w) (some q) l in
    let f = times-exchange low (pos p.w) (pos q.w) in
    cancel_le (low *ℤ pos q.w) (coordinate_of c q) (pos p.w) (weight-positive p) (omega (arith, ints, e))

high-falls : (c : Coordinate) (high : ℤ) (p q : SpacePoint) → (coordinate_of c q *ℤ pos p.w) ≤ℤ (coordinate_of c p *ℤ pos q.w) → coordinate_of c p ≤ℤ (high *ℤ pos p.w) → coordinate_of c q ≤ℤ (high *ℤ pos q.w)
high-falls c high p q e l =
    let m = mul_le_right (coordinate_of c p) (high *ℤ pos p.w) (pos q.w) (some q) l in
    let f = times-exchange high (pos p.w) (pos q.w) in
    cancel_le (coordinate_of c q) (high *ℤ pos q.w) (pos p.w) (weight-positive p) (omega (arith, ints, e))

-- ---- of points of the frame
at-most-side : (c : Coordinate) (high : ℤ) (q : SpacePoint) → high ≡ pos half_side → nat_abs (coordinate_of c q) ≤ half_side * q.w → coordinate_of c q ≤ℤ (high *ℤ pos q.w)
at-most-side c high q e l = subst (λ (r : ℤ). coordinate_of c q ≤ℤ (r *ℤ pos q.w)) (sym e) (omega (arith, ints, l))

at-least-side : (c : Coordinate) (low : ℤ) (q : SpacePoint) → low ≡ neg_ℤ (pos half_side) → nat_abs (coordinate_of c q) ≤ half_side * q.w → (low *ℤ pos q.w) ≤ℤ coordinate_of c q
at-least-side c low q e l = subst (λ (r : ℤ). (r *ℤ pos q.w) ≤ℤ coordinate_of c q) (sym e) (omega (arith, ints, l))

-- ---- of points of which one lies just above the other
-- 0 < d and (n + 1) d <= m give d <= m
at-most : (n : ℕ) (d m : ℤ) → pos 0 <ℤ d → (pos (n + 1) *ℤ d) ≤ℤ m → d ≤ℤ m
at-most n d m p l =
    let e = mul_nonneg (pos n) d (omega (arith, ints)) (omega (arith, ints)) in
    let r : pos (n + 1) *ℤ d ≡ pos n *ℤ d +ℤ d = ring (pos n ∷ d ∷ []) ((at 0 ⊕ num (pos 1)) ⊗ at 1) (at 0 ⊗ at 1 ⊕ at 1) tt in
    omega (arith, ints)

-- so they are at most one apart
apart : (n : ℕ) (y : ℤ) (w : ℕ) (z : ℤ) (v : ℕ) → IsJustAbove (n + 1) y w z v → (z *ℤ pos w) ≤ℤ (y *ℤ pos v +ℤ pos w *ℤ pos v)
apart n y w z v j = let l = at-most n (z *ℤ pos w -ℤ y *ℤ pos v) (pos w *ℤ pos v) (let a = j.0 in omega (arith, ints)) j.1 in omega (arith, ints)

within-above : (n : ℕ) (c : Coordinate) (b r : Bounds) (p q : SpacePoint) → r.low ≡ b.low → r.high ≡ b.high +ℤ pos 1 → IsJustAbove (n + 1) (coordinate_of c p) p.w (coordinate_of c q) q.w → IsWithin c b.low b.high p → IsWithin c r.low r.high q
within-above n c b r p q e f j i =
    let k = apart n (coordinate_of c p) p.w (coordinate_of c q) q.w j in
    let h = mul_le_right (coordinate_of c p) (b.high *ℤ pos p.w) (pos q.w) (some q) i.1 in
    let s : (b.high +ℤ pos 1) *ℤ pos q.w *ℤ pos p.w ≡ b.high *ℤ pos p.w *ℤ pos q.w +ℤ pos p.w *ℤ pos q.w = ring (b.high ∷ pos p.w ∷ pos q.w ∷ []) ((at 0 ⊕ num (pos 1)) ⊗ at 2 ⊗ at 1) (at 0 ⊗ at 1 ⊗ at 2 ⊕ at 1 ⊗ at 2) tt in (
      subst (λ (r : ℤ). (r *ℤ pos q.w) ≤ℤ coordinate_of c q) (sym e) (low-rises c b.low p q (let a = j.0 in omega (arith, ints)) i.0),
      subst (λ (r : ℤ). coordinate_of c q ≤ℤ (r *ℤ pos q.w)) (sym f) (cancel_le (coordinate_of c q) ((b.high +ℤ pos 1) *ℤ pos q.w) (pos p.w) (weight-positive p) (omega (arith, ints))),
    )

within-below : (n : ℕ) (c : Coordinate) (b r : Bounds) (p q : SpacePoint) → r.low ≡ b.low -ℤ pos 1 → r.high ≡ b.high → IsJustAbove (n + 1) (coordinate_of c q) q.w (coordinate_of c p) p.w → IsWithin c b.low b.high p → IsWithin c r.low r.high q
within-below n c b r p q e f j i =
    let k = apart n (coordinate_of c q) q.w (coordinate_of c p) p.w j in
    let l = mul_le_right (b.low *ℤ pos p.w) (coordinate_of c p) (pos q.w) (some q) i.0 in
    let m : pos q.w *ℤ pos p.w ≡ pos p.w *ℤ pos q.w = ring (pos p.w ∷ pos q.w ∷ []) (at 1 ⊗ at 0) (at 0 ⊗ at 1) tt in
    let s : (b.low -ℤ pos 1) *ℤ pos q.w *ℤ pos p.w ≡ b.low *ℤ pos p.w *ℤ pos q.w -ℤ pos p.w *ℤ pos q.w = ring (b.low ∷ pos p.w ∷ pos q.w ∷ []) ((at 0 ⊖ num (pos 1)) ⊗ at 2 ⊗ at 1) (at 0 ⊗ at 1 ⊗ at 2 ⊖ at 1 ⊗ at 2) tt in (
      subst (λ (r : ℤ). (r *ℤ pos q.w) ≤ℤ coordinate_of c q) (sym e) (cancel_le ((b.low -ℤ pos 1) *ℤ pos q.w) (coordinate_of c q) (pos p.w) (weight-positive p) (omega (arith, ints))),
      subst (λ (r : ℤ). coordinate_of c q ≤ℤ (r *ℤ pos q.w)) (sym f) (high-falls c b.high p q (let a = j.0 in omega (arith, ints)) i.1),
    )

-- they are less than one apart where 0 < d and (n + 2) d <= m
less : (n : ℕ) (d m : ℤ) → pos 0 <ℤ d → (pos (n + 2) *ℤ d) ≤ℤ m → d <ℤ m
less n d m p l =
    let e = mul_nonneg (pos n) d (omega (arith, ints)) (omega (arith, ints)) in
    let r : pos (n + 2) *ℤ d ≡ pos n *ℤ d +ℤ d +ℤ d = ring (pos n ∷ d ∷ []) ((at 0 ⊕ num (pos 2)) ⊗ at 1) (at 0 ⊗ at 1 ⊕ at 1 ⊕ at 1) tt in
    omega (arith, ints)

close : (n : ℕ) (y : ℤ) (w : ℕ) (z : ℤ) (v : ℕ) → IsJustAbove (n + 2) y w z v → (z *ℤ pos w) <ℤ (y *ℤ pos v +ℤ pos w *ℤ pos v)
close n y w z v j = let l = less n (z *ℤ pos w -ℤ y *ℤ pos v) (pos w *ℤ pos v) (let a = j.0 in omega (arith, ints)) j.1 in omega (arith, ints)

inside-above : (n : ℕ) (c : Coordinate) (b r : Bounds) (p q : SpacePoint) → r.low ≡ b.low → r.high ≡ b.high +ℤ pos 1 → IsJustAbove (n + 2) (coordinate_of c p) p.w (coordinate_of c q) q.w → IsWithin c b.low b.high p → IsInsideBounds c r q
inside-above n c b r p q e f j i =
    let a = j.0 in
    let k = close n (coordinate_of c p) p.w (coordinate_of c q) q.w j in
    let l = mul_le_right (b.low *ℤ pos p.w) (coordinate_of c p) (pos q.w) (some q) i.0 in
    let x = times-exchange b.low (pos p.w) (pos q.w) in
    let h = mul_le_right (coordinate_of c p) (b.high *ℤ pos p.w) (pos q.w) (some q) i.1 in
    let s : (b.high +ℤ pos 1) *ℤ pos q.w *ℤ pos p.w ≡ b.high *ℤ pos p.w *ℤ pos q.w +ℤ pos p.w *ℤ pos q.w = ring (b.high ∷ pos p.w ∷ pos q.w ∷ []) ((at 0 ⊕ num (pos 1)) ⊗ at 2 ⊗ at 1) (at 0 ⊗ at 1 ⊗ at 2 ⊕ at 1 ⊗ at 2) tt in (
      subst (λ (r : ℤ). (r *ℤ pos q.w) <ℤ coordinate_of c q) (sym e) (cancel_lt (b.low *ℤ pos q.w) (coordinate_of c q) (pos p.w) (weight-positive p) (omega (arith, ints))),
      subst (λ (r : ℤ). coordinate_of c q <ℤ (r *ℤ pos q.w)) (sym f) (cancel_lt (coordinate_of c q) ((b.high +ℤ pos 1) *ℤ pos q.w) (pos p.w) (weight-positive p) (omega (arith, ints))),
    )

inside-below : (n : ℕ) (c : Coordinate) (b r : Bounds) (p q : SpacePoint) → r.low ≡ b.low -ℤ pos 1 → r.high ≡ b.high → IsJustAbove (n + 2) (coordinate_of c q) q.w (coordinate_of c p) p.w → IsWithin c b.low b.high p → IsInsideBounds c r q
inside-below n c b r p q e f j i =
    let a = j.0 in
    let k = close n (coordinate_of c q) q.w (coordinate_of c p) p.w j in
    let l = mul_le_right (b.low *ℤ pos p.w) (coordinate_of c p) (pos q.w) (some q) i.0 in
    let m : pos q.w *ℤ pos p.w ≡ pos p.w *ℤ pos q.w = ring (pos p.w ∷ pos q.w ∷ []) (at 1 ⊗ at 0) (at 0 ⊗ at 1) tt in
    let s : (b.low -ℤ pos 1) *ℤ pos q.w *ℤ pos p.w ≡ b.low *ℤ pos p.w *ℤ pos q.w -ℤ pos p.w *ℤ pos q.w = ring (b.low ∷ pos p.w ∷ pos q.w ∷ []) ((at 0 ⊖ num (pos 1)) ⊗ at 2 ⊗ at 1) (at 0 ⊗ at 1 ⊗ at 2 ⊖ at 1 ⊗ at 2) tt in
    let h = mul_le_right (coordinate_of c p) (b.high *ℤ pos p.w) (pos q.w) (some q) i.1 in
    let x = times-exchange b.high (pos p.w) (pos q.w) in (
      subst (λ (r : ℤ). (r *ℤ pos q.w) <ℤ coordinate_of c q) (sym e) (cancel_lt ((b.low -ℤ pos 1) *ℤ pos q.w) (coordinate_of c q) (pos p.w) (weight-positive p) (omega (arith, ints))),
      subst (λ (r : ℤ). coordinate_of c q <ℤ (r *ℤ pos q.w)) (sym f) (cancel_lt (coordinate_of c q) (b.high *ℤ pos q.w) (pos p.w) (weight-positive p) (omega (arith, ints))),
    )

-- what lies strictly within the one bounds and within the others lies within both
reaches : (c : Coordinate) (b a : Bounds) (q : SpacePoint) → IsInsideBounds c b q → IsWithin c a.low a.high q → (a.low <ℤ b.high) × (b.low <ℤ a.high)
reaches c b a q i j =
    let k = i.0 in let l = i.1 in let m = j.0 in let n = j.1 in
    (cancel_lt a.low b.high (pos q.w) (weight-positive q) (omega (arith, ints)), cancel_lt b.low a.high (pos q.w) (weight-positive q) (omega (arith, ints)))

pub reaches-y : (w s : Span) (q : SpacePoint) → IsAmidWindow w q → IsInSpan s q → (s.y.low <ℤ w.y.high) × (w.y.low <ℤ s.y.high)
reaches-y w s q A I = reaches coordinate_y w.y s.y q A.0 I.1

pub reaches-z : (w s : Span) (q : SpacePoint) → IsAmidWindow w q → IsInSpan s q → (s.z.low <ℤ w.z.high) × (w.z.low <ℤ s.z.high)
reaches-z w s q A I = reaches coordinate_z w.z s.z q A.1 I.2

-- ---- along upright directions
pub amid_up : (s t : Span) (p q : SpacePoint) → t.y.low ≡ s.y.low → t.y.high ≡ s.y.high +ℤ pos 1 → t.z.low ≡ s.z.low → t.z.high ≡ s.z.high +ℤ pos 1 → InClosedFrame p → InClosedFrame q → IsAhead p up q → IsInSpan s p → IsAmidWindow t q
amid_up s t p q c d e f i j w n = let k = (stays-close p q i j).0 w in (inside-above 0 coordinate_y s.y t.y p q c d k.0 n.1, inside-above 16382 coordinate_z s.z t.z p q e f k.1 n.2)

pub amid_down : (s t : Span) (p q : SpacePoint) → t.y.low ≡ s.y.low -ℤ pos 1 → t.y.high ≡ s.y.high → t.z.low ≡ s.z.low -ℤ pos 1 → t.z.high ≡ s.z.high → InClosedFrame p → InClosedFrame q → IsAhead p (opposite up) q → IsInSpan s p → IsAmidWindow t q
amid_down s t p q c d e f i j w n = let k = (stays-close p q i j).1 w in (inside-below 0 coordinate_y s.y t.y p q c d k.0 n.1, inside-below 16382 coordinate_z s.z t.z p q e f k.1 n.2)

-- x rises 2^26 times as much as z
x-rises : (p q : SpacePoint) → IsAhead p up q → IsCloseAbove p q → (p.x *ℤ pos q.w) ≤ℤ (q.x *ℤ pos p.w)
x-rises p q a k = let z = k.1.0 in by (q.x *ℤ pos p.w) (p.x *ℤ pos q.w) (q.z *ℤ pos p.w) (p.z *ℤ pos q.w) a.parallel.1 z
  where
    by : (x u z t : ℤ) → (z -ℤ t) *ℤ pos 67108864 -ℤ (x -ℤ u) *ℤ pos 1 ≡ pos 0 → t <ℤ z → u ≤ℤ x
    by x u z t e l = omega (arith, ints)

pub in-window_up : (s t : Span) (p q : SpacePoint) → t.x.low ≡ s.x.low → t.x.high ≡ pos half_side → t.y.low ≡ s.y.low → t.y.high ≡ s.y.high +ℤ pos 1 → t.z.low ≡ s.z.low → t.z.high ≡ s.z.high +ℤ pos 1
    → InClosedFrame p → InClosedFrame q → IsAhead p up q → IsInSpan s p → IsInSpan t q
in-window_up s t p q a b c d e f i j w n =
    let k = (stays-close p q i j).0 w in (
      (subst (λ (r : ℤ). (r *ℤ pos q.w) ≤ℤ q.x) (sym a) (low-rises coordinate_x s.x.low p q (x-rises p q w k) n.0.0), at-most-side coordinate_x t.x.high q b j.along_x),
      within-above 1 coordinate_y s.y t.y p q c d k.0 n.1,
      within-above 16383 coordinate_z s.z t.z p q e f k.1 n.2,
    )

pub in-window_down : (s t : Span) (p q : SpacePoint) → t.x.low ≡ neg_ℤ (pos half_side) → t.x.high ≡ s.x.high → t.y.low ≡ s.y.low -ℤ pos 1 → t.y.high ≡ s.y.high → t.z.low ≡ s.z.low -ℤ pos 1 → t.z.high ≡ s.z.high
    → InClosedFrame p → InClosedFrame q → IsAhead p (opposite up) q → IsInSpan s p → IsInSpan t q
in-window_down s t p q a b c d e f i j w n =
    let k = (stays-close p q i j).1 w in (
      (at-least-side coordinate_x t.x.low q a j.along_x, subst (λ (r : ℤ). q.x ≤ℤ (r *ℤ pos q.w)) (sym b) (high-falls coordinate_x s.x.high p q (x-rises q p (ahead-back p q (opposite up) w) k) n.0.1)),
      within-below 1 coordinate_y s.y t.y p q c d k.0 n.1,
      within-below 16383 coordinate_z s.z t.z p q e f k.1 n.2,
    )

pub points-up : (d : Vector) → IsVertical d → pos 0 <ℤ d.x → d ≡ up
points-up d (inl e) l = e
points-up d (inr e) l = let f : d.x ≡ neg_ℤ (pos 67108864) = ap (λ (v : Vector). v.x) e in absurd (omega (arith, ints))

pub up-positive : (d : Vector) → d ≡ up → pos 0 <ℤ d.x
up-positive d e = let f : d.x ≡ pos 67108864 = ap (λ (v : Vector). v.x) e in omega (arith, ints)

pub points-down : (d : Vector) → IsVertical d → (d ≡ up → ⊥) → d ≡ opposite up
points-down d (inl e) n = absurd (n e)
points-down d (inr e) n = e
