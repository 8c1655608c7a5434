-- Equal fractions have equal whole parts.
use Rattle.nef_edges.proofs.Prelude.{◌≡◌, ℤ, pos, ◌+ℤ◌, ◌*ℤ◌, ◌<ℤ◌, [], ◌∷◌, arith, sym, ints, int_div_euclid, mul_pos, mul_le_right, mul_lt_right, cancel_lt, ring, at, num, ◌⊕◌, ◌⊗◌}
use Rattle.nef_index.proofs.Spanning.{euclid-below, euclid-above}

-- of n/w = m/v the whole part on the left isn't above the one on the right
not-above : (n w m v : ℤ) → pos 0 <ℤ w → pos 0 <ℤ v → n *ℤ v ≡ m *ℤ w → int_div_euclid n w <ℤ (int_div_euclid m v +ℤ pos 1)
not-above n w m v pw pv e =
    let q = int_div_euclid n w in let r = int_div_euclid m v in
    let a = mul_le_right (q *ℤ w) n v (omega (arith, ints)) (euclid-below n w pw) in
    let b = mul_lt_right m ((r +ℤ pos 1) *ℤ v) w pw (euclid-above m v pv) in
    let left : q *ℤ (w *ℤ v) ≡ q *ℤ w *ℤ v = ring (q ∷ w ∷ v ∷ []) (at 0 ⊗ (at 1 ⊗ at 2)) (at 0 ⊗ at 1 ⊗ at 2) tt in
    let right : (r +ℤ pos 1) *ℤ (w *ℤ v) ≡ (r +ℤ pos 1) *ℤ v *ℤ w = ring (r ∷ w ∷ v ∷ []) ((at 0 ⊕ num (pos 1)) ⊗ (at 1 ⊗ at 2)) ((at 0 ⊕ num (pos 1)) ⊗ at 2 ⊗ at 1) tt in
    cancel_lt q (r +ℤ pos 1) (w *ℤ v) (mul_pos w v pw pv) (omega (arith, ints))

pub wholes-alike : (n w m v : ℤ) → pos 0 <ℤ w → pos 0 <ℤ v → n *ℤ v ≡ m *ℤ w → int_div_euclid n w ≡ int_div_euclid m v
wholes-alike n w m v pw pv e =
    let a = not-above n w m v pw pv e in
    let b = not-above m v n w pv pw (sym e) in
    omega (arith, ints)
