-- Between two points past an end of a coordinate, and of the open frame, lie such points alone.
use Rattle.nef_ops.proofs.Prelude.{◌≡◌, ℕ, ◌*◌, ◌<◌, ℤ, pos, neg_ℤ, ◌+ℤ◌, ◌-ℤ◌, ◌*ℤ◌, ◌<ℤ◌, nat_abs, arith, [], ◌∷◌, ints, given, none, follows, mul_pos, cancel_lt, at, num, ◌⊕◌, ◌⊖◌, ◌⊗◌, half_side, SpacePoint, InFrame, IsBetween, mixed-of}

-- k c = i a + j b and k w = i u + j v, and a and b lie below e times u and v
pub below-mixed : (k i j : ℕ) (c a b w u v e : ℤ) → 0 < k → 0 < i → 0 < j → pos k *ℤ c ≡ pos i *ℤ a +ℤ pos j *ℤ b → pos k *ℤ w ≡ pos i *ℤ u +ℤ pos j *ℤ v
    → a <ℤ (e *ℤ u) → b <ℤ (e *ℤ v) → c <ℤ (e *ℤ w)
below-mixed k i j c a b w u v e sk si sj f g l m =
    let x = mul_pos (pos i) (e *ℤ u -ℤ a) (omega (arith, ints)) (omega (arith, ints)) in
    let y = mul_pos (pos j) (e *ℤ v -ℤ b) (omega (arith, ints)) (omega (arith, ints)) in
    let t : (e *ℤ w) *ℤ pos k -ℤ c *ℤ pos k ≡ pos i *ℤ (e *ℤ u -ℤ a) +ℤ pos j *ℤ (e *ℤ v -ℤ b) =
    follows (pos k ∷ pos i ∷ pos j ∷ c ∷ a ∷ b ∷ w ∷ u ∷ v ∷ e ∷ [])
    (at 9 ⊗ at 6 ⊗ at 0 ⊖ at 3 ⊗ at 0) (at 1 ⊗ (at 9 ⊗ at 7 ⊖ at 4) ⊕ at 2 ⊗ (at 9 ⊗ at 8 ⊖ at 5))
    (given (num (pos 0) ⊖ num (pos 1)) (at 0 ⊗ at 3) (at 1 ⊗ at 4 ⊕ at 2 ⊗ at 5) f
    (given (at 9) (at 0 ⊗ at 6) (at 1 ⊗ at 7 ⊕ at 2 ⊗ at 8) g none)) tt in
    cancel_lt c (e *ℤ w) (pos k) (omega (arith, ints)) (omega (arith, ints, t, x, y))

pub above-mixed : (k i j : ℕ) (c a b w u v e : ℤ) → 0 < k → 0 < i → 0 < j → pos k *ℤ c ≡ pos i *ℤ a +ℤ pos j *ℤ b → pos k *ℤ w ≡ pos i *ℤ u +ℤ pos j *ℤ v
    → (e *ℤ u) <ℤ a → (e *ℤ v) <ℤ b → (e *ℤ w) <ℤ c
above-mixed k i j c a b w u v e sk si sj f g l m =
    let x = mul_pos (pos i) (a -ℤ e *ℤ u) (omega (arith, ints)) (omega (arith, ints)) in
    let y = mul_pos (pos j) (b -ℤ e *ℤ v) (omega (arith, ints)) (omega (arith, ints)) in
    let t : c *ℤ pos k -ℤ (e *ℤ w) *ℤ pos k ≡ pos i *ℤ (a -ℤ e *ℤ u) +ℤ pos j *ℤ (b -ℤ e *ℤ v) =
    follows (pos k ∷ pos i ∷ pos j ∷ c ∷ a ∷ b ∷ w ∷ u ∷ v ∷ e ∷ [])
    (at 3 ⊗ at 0 ⊖ at 9 ⊗ at 6 ⊗ at 0) (at 1 ⊗ (at 4 ⊖ at 9 ⊗ at 7) ⊕ at 2 ⊗ (at 5 ⊖ at 9 ⊗ at 8))
    (given (num (pos 1)) (at 0 ⊗ at 3) (at 1 ⊗ at 4 ⊕ at 2 ⊗ at 5) f
    (given (num (pos 0) ⊖ at 9) (at 0 ⊗ at 6) (at 1 ⊗ at 7 ⊕ at 2 ⊗ at 8) g none)) tt in
    cancel_lt (e *ℤ w) c (pos k) (omega (arith, ints)) (omega (arith, ints, t, x, y))

-- ---- the frame
within-mixed : (k i j : ℕ) (c a b : ℤ) (w u v : ℕ) → 0 < k → 0 < i → 0 < j → pos k *ℤ c ≡ pos i *ℤ a +ℤ pos j *ℤ b → pos k *ℤ pos w ≡ pos i *ℤ pos u +ℤ pos j *ℤ pos v
    → nat_abs a < half_side * u → nat_abs b < half_side * v → nat_abs c < half_side * w
within-mixed k i j c a b w u v sk si sj f g l m =
    let high = below-mixed k i j c a b (pos w) (pos u) (pos v) (pos half_side) sk si sj f g (omega (arith, ints)) (omega (arith, ints)) in
    let low = above-mixed k i j c a b (pos w) (pos u) (pos v) (neg_ℤ (pos half_side)) sk si sj f g (omega (arith, ints)) (omega (arith, ints)) in
    omega (arith, ints)

pub frame-between : (p r q : SpacePoint) → IsBetween p r q → InFrame p → InFrame q → InFrame r
frame-between p r q b i j =
    let m = mixed-of p r q b in
    let s = m.sum in
    record {
      along_x = within-mixed m.k m.i m.j r.x p.x q.x r.w p.w q.w m.some_k m.some_i m.some_j s.is_x s.is_w i.along_x j.along_x;
      along_y = within-mixed m.k m.i m.j r.y p.y q.y r.w p.w q.w m.some_k m.some_i m.some_j s.is_y s.is_w i.along_y j.along_y;
      along_z = within-mixed m.k m.i m.j r.z p.z q.z r.w p.w q.w m.some_k m.some_i m.some_j s.is_z s.is_w i.along_z j.along_z;
    }
