use Rattle.nef_plane.proofs.Prelude.{◌≡◌, ℤ, pos, ◌+ℤ◌, ◌*ℤ◌, ◌<ℤ◌, ◌≤ℤ◌, arith, rules, sym, ◌∙◌, subst, ints, to_z-of_z, int_div_euclid, euclid-below, euclid-above}
use mir.Syntax.{w128, w64}
use mir.Val.{to_z, of_z}
use Rattle.nef_plane.proofs.window.bounds_of.Goals as goal

floor : (x w q : ℤ) → q ≡ int_div_euclid (to_z w128 (of_z w128 x)) (to_z w128 (of_z w128 w)) → to_z w128 (of_z w128 x) ≡ x → to_z w128 (of_z w128 w) ≡ w → q ≡ int_div_euclid x w
floor x w q e f g = subst (λ (v : ℤ). q ≡ int_div_euclid x v) g (subst (λ (y : ℤ). q ≡ int_div_euclid y (to_z w128 (of_z w128 w))) f e)

pub returns-clause-low : goal.returns-clause-low
returns-clause-low c =
    let x = c.args.x in let w = c.args.w in
    let q = floor x w c.div_euclid.result c.div_euclid.ensures (to_z-of_z w128 x c.ranges.x) (to_z-of_z w128 w c.ranges.w) in
    let e : to_z w64 (of_z w64 c.in_ok-low.low) ≡ c.div_euclid.result = search rules in
    subst (λ (r : ℤ). (r *ℤ w) ≤ℤ x) (sym (e ∙ q)) (euclid-below x w c.requires.positive)

pub returns-clause-high : goal.returns-clause-high
returns-clause-high c =
    let x = c.args.x in let w = c.args.w in
    let q = floor x w c.div_euclid.result c.div_euclid.ensures (to_z-of_z w128 x c.ranges.x) (to_z-of_z w128 w c.ranges.w) in
    let e : to_z w64 (of_z w64 c.in_ok-low.low) ≡ c.div_euclid.result = search rules in
    let f : to_z w64 (of_z w64 c.in_ok-high.high) ≡ to_z w64 (of_z w64 c.in_ok-low.low) +ℤ pos 1 = search rules in
    let g : to_z w64 (of_z w64 c.in_ok-low.low) ≡ int_div_euclid x w = e ∙ q in
    below x (to_z w64 (of_z w64 c.in_ok-high.high) *ℤ w)
    (subst (λ (r : ℤ). x <ℤ (r *ℤ w)) (sym f) (subst (λ (r : ℤ). x <ℤ ((r +ℤ pos 1) *ℤ w)) (sym g) (euclid-above x w c.requires.positive)))
  where
    below : (x y : ℤ) → x <ℤ y → x ≤ℤ y
    below x y l = omega (arith, ints)
