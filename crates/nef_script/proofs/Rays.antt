-- The numbers of a ray's start are no larger than those that its words spell, since a point has its lowest terms.
use Rattle.nef_script.proofs.Prelude.{◌≡◌, ℕ, ◌*◌, ◌<◌, ◌≤◌, ℤ, pos, ◌*ℤ◌, ◌<ℤ◌, nat_abs, sym, ◌∙◌, ap, subst, arith, ints, unsigned_abs-mul, le_of_dvd, SamePoint, IsPointAtMost, point_at, point_of, Point, IsQuotient, pos-abs}
use Rattle.std.proofs.Math.IntN.{*ℤ_comm}
use Rattle.std.proofs.Math.Nat.{mul-le-mul, le_of_mul-le-mul_left, mul_comm}
use Rattle.nef_geo.proofs.Euclid.{divides_same}
use Rattle.nef_space.proofs.Order.{abs-pos}

-- x/w is y/v, where v is at most w
numerator_small : (x y : ℤ) (w v m : ℕ) → x *ℤ pos v ≡ y *ℤ pos w → v ≤ w → 0 < w → nat_abs x ≤ m → nat_abs y ≤ m
numerator_small x y w v m e le positive small =
    let sizes : nat_abs x * v ≡ nat_abs y * w = sym (unsigned_abs-mul x (pos v)) ∙ ap nat_abs e ∙ unsigned_abs-mul y (pos w) in
    let most : nat_abs x * v ≤ m * w = mul-le-mul small le in
    let turned : w * nat_abs y ≤ w * m = subst (λ n. n ≤ w * m) (mul_comm (nat_abs y) w) (subst (λ n. nat_abs y * w ≤ n) (mul_comm m w) (subst (λ n. n ≤ m * w) sizes most)) in
    le_of_mul-le-mul_left turned positive

-- a point's w is the least of all that its numbers may be divided by
weight_small : (p : Point) (x y z w : ℤ) (positive : pos 0 <ℤ w) → SamePoint (point_at x y z w positive) (point_of p) → nat_abs p.w ≤ nat_abs w
weight_small p x y z w positive same =
    let m = pos (nat_abs p.w) in
    let n = pos (nat_abs w) in
    let divides = divides_same m n p.x p.y p.z p.w x y z n p.lowest
    (*ℤ_comm m x ∙ same.along_x) (*ℤ_comm m y ∙ same.along_y) (*ℤ_comm m z ∙ same.along_z) (ap (λ v. v *ℤ n) (pos-abs p.w p.proper)) in
    le_of_dvd (abs-pos w positive) divides

pub start_small : (p : Point) (x y z w : ℤ) (m n : ℕ) → IsQuotient p x y z w → nat_abs x ≤ m → nat_abs y ≤ m → nat_abs z ≤ m → nat_abs w ≤ n → IsPointAtMost m n (point_of p)
start_small p x y z w m n (positive, same) x_small y_small z_small w_small =
    let le = weight_small p x y z w positive same in
    let some = abs-pos w positive in
    record {
      numbers = record {
        of_x = numerator_small x p.x (nat_abs w) (nat_abs p.w) m same.along_x le some x_small;
        of_y = numerator_small y p.y (nat_abs w) (nat_abs p.w) m same.along_y le some y_small;
        of_z = numerator_small z p.z (nat_abs w) (nat_abs p.w) m same.along_z le some z_small;
      };
      weight = omega arith;
    }
