use Rattle.nef_geo.proofs.Prelude.{to_z, of_z, ◌≡◌, ℕ, ◌^◌, ◌<◌, ℤ, arith, w64, FitsSigned, ap, ◌∙◌, nat_abs, IsGcd, ints, to_z_pos, to_z-of_z, point_limit}
use Rattle.nef_geo.proofs.Divisors.{IsGcdOfFour-from_steps, divides_all, divisor_small}
use Rattle.nef_geo.proofs.gcd.gcd_of_four.Goals as goal

-- what `unsigned_abs` gives at a number that fits
abs_is : (z : ℤ) (n : ℕ) → FitsSigned w64 z → n ≡ nat_abs (to_z w64 (of_z w64 z)) → n ≡ nat_abs z
abs_is z n f e = e ∙ ap nat_abs (to_z-of_z w64 z f)

pub overflow_cast-result : goal.overflow_cast-result
overflow_cast-result c =
    let p : IsGcd (nat_abs c.args.w) (nat_abs c.args.x) c.gcd-of_two.result = rw (abs_is c.args.w c.unsigned_abs.result c.ranges.w c.unsigned_abs.ensures.value, abs_is c.args.x c.unsigned_abs-2.result c.ranges.x c.unsigned_abs-2.ensures.value) at c.gcd-of_two.ensures.gcd in
    let q : IsGcd c.gcd-of_two.result (nat_abs c.args.y) c.gcd-of_three.result = rw (abs_is c.args.y c.unsigned_abs-3.result c.ranges.y c.unsigned_abs-3.ensures.value) at c.gcd-of_three.ensures.gcd in
    let r : IsGcd c.gcd-of_three.result (nat_abs c.args.z) c.gcd.result = rw (abs_is c.args.z c.unsigned_abs-4.result c.ranges.z c.unsigned_abs-4.ensures.value) at c.gcd.ensures.gcd in
    let k = divisor_small point_limit c.gcd.result c.args.x c.args.y c.args.z c.args.w c.requires.small c.requires.some (divides_all c.args.x c.args.y c.args.z c.args.w c.gcd-of_two.result c.gcd-of_three.result c.gcd.result p q r) in
    omega (arith, ints, k.small)

pub returns : goal.returns
returns c =
    let p : IsGcd (nat_abs c.args.w) (nat_abs c.args.x) c.gcd-of_two.result = rw (abs_is c.args.w c.unsigned_abs.result c.ranges.w c.unsigned_abs.ensures.value, abs_is c.args.x c.unsigned_abs-2.result c.ranges.x c.unsigned_abs-2.ensures.value) at c.gcd-of_two.ensures.gcd in
    let q : IsGcd c.gcd-of_two.result (nat_abs c.args.y) c.gcd-of_three.result = rw (abs_is c.args.y c.unsigned_abs-3.result c.ranges.y c.unsigned_abs-3.ensures.value) at c.gcd-of_three.ensures.gcd in
    let r : IsGcd c.gcd-of_three.result (nat_abs c.args.z) c.gcd.result = rw (abs_is c.args.z c.unsigned_abs-4.result c.ranges.z c.unsigned_abs-4.ensures.value) at c.gcd.ensures.gcd in
    let k = divisor_small point_limit c.gcd.result c.args.x c.args.y c.args.z c.args.w c.requires.small c.requires.some (divides_all c.args.x c.args.y c.args.z c.args.w c.gcd-of_two.result c.gcd-of_three.result c.gcd.result p q r) in
    let small : c.gcd.result < 2 ^ 63 = omega (arith, k.small) in
    record { gcd = rw (to_z_pos w64 c.gcd.result small) (IsGcdOfFour-from_steps c.args.x c.args.y c.args.z c.args.w c.gcd-of_two.result c.gcd-of_three.result c.gcd.result p q r k.positive) }
