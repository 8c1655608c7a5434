use Rattle.nef_geo.proofs.Prelude.{direction_limit}
use Rattle.nef_geo.proofs.Directions.{negated, small-neg, IsDirection-opposite, IsLowest-opposite}
use Rattle.nef_geo.proofs.dir.Dir.back.Goals as goal
use Rattle.nef_space.proofs.Vectors.{same-vector}

pub invariant_of-result : goal.invariant_of-result
invariant_of-result c =
    let d = c.args.self.now in
    let ex = negated d.x d.x_small in let ey = negated d.y d.y_small in let ez = negated d.z d.z_small in
    record {
      x_small = small-neg direction_limit d.x _ ex d.x_small;
      y_small = small-neg direction_limit d.y _ ey d.y_small;
      z_small = small-neg direction_limit d.z _ ez d.z_small;
      some = IsDirection-opposite d.x d.y d.z _ _ _ ex ey ez d.some;
      lowest = IsLowest-opposite d.x d.y d.z _ _ _ ex ey ez d.lowest;
    }

pub returns : goal.returns
returns c = let d = c.args.self.now in record { back = same-vector _ _ _ _ _ _ (negated d.x d.x_small) (negated d.y d.y_small) (negated d.z d.z_small) }
