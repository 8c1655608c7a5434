-- The small facts on the definitions.
use Rattle.nef_space.proofs.Prelude.{◌≡◌, ℕ, ◌+◌, ◌*◌, ◌<◌, pos, negsuc, ◌+ℤ◌, ◌-ℤ◌, ◌*ℤ◌, nat_abs, arith, ap, ints}
use Rattle.nef_space.specs.Limits.{half_side}
use Rattle.nef_space.specs.Points.{SpacePoint}
use Rattle.nef_space.specs.Sets.{Holds}
use Rattle.nef_space.specs.Laws.{InteriorOfWhole, OpenHalfAtBoundary, ClosureAtBoundary, MissingPoint, GermBesideHalf}

pub inside-full : InteriorOfWhole
unfolding Holds
inside-full p = (1, omega arith, λ q i c. tt)

pub not-at_origin : OpenHalfAtBoundary
unfolding Holds
not-at_origin h = omega (arith, ints)

abbrev beside : ℕ → SpacePoint
beside n = record { x = negsuc 0; y = pos 0; z = pos 0; w = n + 1; proper = omega arith }

pub closure-at_origin : ClosureAtBoundary
unfolding Holds
closure-at_origin n some = (beside n, record { along_x = omega arith; along_y = omega arith; along_z = omega arith }, record { along_x = one; along_y = none; along_z = none }, omega (arith, ints))
  where
    one : n * nat_abs (negsuc 0 *ℤ pos 1 -ℤ pos 0 *ℤ pos (n + 1)) < (n + 1) * 1
    one = let e : nat_abs (negsuc 0 *ℤ pos 1 -ℤ pos 0 *ℤ pos (n + 1)) ≡ 1 = omega (arith, ints) in let f = ap (λ r. n * r) e in omega arith

    none : n * nat_abs (pos 0 *ℤ pos 1 -ℤ pos 0 *ℤ pos (n + 1)) < (n + 1) * 1
    none = let e : nat_abs (pos 0 *ℤ pos 1 -ℤ pos 0 *ℤ pos (n + 1)) ≡ 0 = omega (arith, ints) in let f = ap (λ r. n * r) e in omega arith

pub missing-point : MissingPoint
unfolding Holds
missing-point = (record { along_x = omega arith; along_y = omega arith; along_z = omega arith }, λ h. h.1 (omega (arith, ints)))

pub germ-backward : GermBesideHalf
unfolding Holds
germ-backward = (
  1,
  omega arith,
  λ t short.
      let a = short.0 in
      let b = short.1 in
      let x : nat_abs (pos 0 *ℤ pos t.b +ℤ t.a *ℤ pos 1 *ℤ negsuc 0) < half_side * (1 * t.b) = omega (arith, ints) in
      let y : nat_abs (pos 0 *ℤ pos t.b +ℤ t.a *ℤ pos 1 *ℤ pos 0) < half_side * (1 * t.b) = omega (arith, ints) in
      (record { along_x = x; along_y = y; along_z = y }, omega (arith, ints)),
)
