use Rattle.nef_geo.proofs.Prelude.{◌≡◌, pos, refl, lit≤, of_z}
use native.Mathlib.Nat.{dvd-one}
use Rattle.nef_geo.proofs.ways.axis_z.Goals as goal

pub invariant_of-result : goal.invariant_of-result
invariant_of-result c = record { x_small = lit≤ tt; y_small = lit≤ tt; z_small = lit≤ tt; some = λ z. (let e : pos 1 ≡ pos 0 = z.2 in cc); lowest = λ k d. (dvd-one).0 d.1.1.0 }

pub returns : goal.returns
returns c = record { axis = refl; small = record { of_x = lit≤ tt; of_y = lit≤ tt; of_z = lit≤ tt } }
