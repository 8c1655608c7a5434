use Rattle.nef_geo.proofs.Prelude.{refl, lit≤}
use Rattle.nef_geo.proofs.InPlane.{up-positive, up-lowest, up-direction}
use Rattle.nef_geo.proofs.ways.up.Goals as goal

pub invariant_of-result : goal.invariant_of-result
invariant_of-result c = record { x_small = lit≤ tt; y_small = lit≤ tt; z_small = lit≤ tt; some = up-direction; lowest = up-lowest }

pub returns : goal.returns
returns c = record { up = refl; positive = up-positive }
