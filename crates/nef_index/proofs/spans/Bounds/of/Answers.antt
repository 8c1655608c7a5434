use Rattle.nef_index.proofs.Prelude.{arith, ◌≡◌, ◌<◌, ◌≤◌, ◌*◌, ◌-◌, ◌^◌, ℤ, negsuc, ◌<ℤ◌, ◌≤ℤ◌, ◌*ℤ◌, ◌+ℤ◌, pos, nat_abs, w64, to_z, of_z, ap, sym, ◌∙◌, subst, ints, to_z-of_z, fits_signed_from_abs, int_div_euclid}
use lib.Signed.{mag}
use Rattle.nef_index.proofs.Spanning.{euclid-small, euclid-below, euclid-above, euclid-times, euclid-next}
use Rattle.nef_index.proofs.spans.Bounds.of.Goals as goal

sized : (z : ℤ) → nat_abs z < 2 ^ 63 → to_z w64 (of_z w64 z) ≡ z
sized z l = to_z-of_z w64 z (fits_signed_from_abs w64 z l)

ranged : (z : ℤ) → mag z < 2 ^ 63 → to_z w64 (of_z w64 z) ≡ z
ranged z l = to_z-of_z w64 z (record { sfits = l })

positive-size : (z : ℤ) → mag z < 2 ^ 63 → pos 0 <ℤ z → nat_abs z ≤ 2 ^ 63 - 1
positive-size (pos n) l p = omega (arith, l)
positive-size (negsuc n) l p = absurd (omega (arith, ints))

module _ (x w : ℤ) (small : mag x < 2 ^ 63) (fits : mag w < 2 ^ 63) (q : ℤ) (known : mag q < 2 ^ 63) (is : q ≡ int_div_euclid (to_z w64 (of_z w64 x)) (to_z w64 (of_z w64 w))) where
  floor : to_z w64 (of_z w64 q) ≡ int_div_euclid x w
  floor = ranged q known ∙ is ∙ ap (λ (r : ℤ). int_div_euclid r (to_z w64 (of_z w64 w))) (ranged x small) ∙ ap (int_div_euclid x) (ranged w fits)

  product : to_z w64 (of_z w64 q) *ℤ to_z w64 (of_z w64 w) ≡ int_div_euclid x w *ℤ w
  product = ap (λ (r : ℤ). r *ℤ to_z w64 (of_z w64 w)) floor ∙ ap (λ (r : ℤ). int_div_euclid x w *ℤ r) (ranged w fits)

  raised : pos 0 <ℤ w → nat_abs x < 2 ^ 62 → to_z w64 (of_z w64 (to_z w64 (of_z w64 q) +ℤ pos 1)) ≡ int_div_euclid x w +ℤ pos 1
  raised p l = ap (λ (r : ℤ). to_z w64 (of_z w64 (r +ℤ pos 1))) floor ∙ next (int_div_euclid x w) (euclid-small x w p) l
    where
      next : (r : ℤ) → nat_abs r ≤ nat_abs x → nat_abs x < 2 ^ 62 → to_z w64 (of_z w64 (r +ℤ pos 1)) ≡ r +ℤ pos 1
      next r l m = sized (r +ℤ pos 1) (omega (arith, ints, l, m))

pub overflow_mul-low : goal.overflow_mul-low
overflow_mul-low c =
    let s = c.requires.small in
    let l = euclid-times c.args.x c.args.w (2 ^ 63 - 1) c.requires.positive (omega (arith, s)) (positive-size c.args.w c.ranges.w.sfits c.requires.positive) in
    fits_signed_from_abs w64 _ (subst (λ (r : ℤ). nat_abs r < 2 ^ 63) (sym (product c.args.x c.args.w c.ranges.x.sfits c.ranges.w.sfits c.div_euclid-low.result c.div_euclid-low.type_inv c.div_euclid-low.ensures)) (omega (arith, l)))

pub returns-else-low-w-clause-low : goal.returns-else-low-w-clause-low
returns-else-low-w-clause-low c = subst (λ (r : ℤ). (r *ℤ c.args.w) ≤ℤ c.args.x) (sym (floor c.args.x c.args.w c.ranges.x.sfits c.ranges.w.sfits c.div_euclid-low.result c.div_euclid-low.type_inv c.div_euclid-low.ensures)) (euclid-below c.args.x c.args.w c.requires.positive)

pub returns-else-low-w-clause-high : goal.returns-else-low-w-clause-high
returns-else-low-w-clause-high c =
    let s = c.requires.small in
    subst (λ (r : ℤ). c.args.x ≤ℤ (r *ℤ c.args.w)) (sym (raised c.args.x c.args.w c.ranges.x.sfits c.ranges.w.sfits c.div_euclid-low.result c.div_euclid-low.type_inv c.div_euclid-low.ensures c.requires.positive (omega (arith, s)))) (below _ _ (euclid-above c.args.x c.args.w c.requires.positive))
  where
    below : (x y : ℤ) → x <ℤ y → x ≤ℤ y
    below x y l = omega (arith, ints)

pub returns-else-low-w-clause-small : goal.returns-else-low-w-clause-small
returns-else-low-w-clause-small c =
    let s = c.requires.small in
    let l = euclid-small c.args.x c.args.w c.requires.positive in
    let m = euclid-next c.args.x c.args.w c.requires.positive (λ e. c.if-low-w.false (ap (of_z w64) (product c.args.x c.args.w c.ranges.x.sfits c.ranges.w.sfits c.div_euclid-low.result c.div_euclid-low.type_inv c.div_euclid-low.ensures ∙ e))) in (
      subst (λ (r : ℤ). nat_abs r ≤ 3 * 2 ^ 45) (sym (floor c.args.x c.args.w c.ranges.x.sfits c.ranges.w.sfits c.div_euclid-low.result c.div_euclid-low.type_inv c.div_euclid-low.ensures)) (omega (arith, l, s)),
      subst (λ (r : ℤ). nat_abs r ≤ 3 * 2 ^ 45) (sym (raised c.args.x c.args.w c.ranges.x.sfits c.ranges.w.sfits c.div_euclid-low.result c.div_euclid-low.type_inv c.div_euclid-low.ensures c.requires.positive (omega (arith, s)))) (omega (arith, m, s)),
    )
