use Rattle.nef_geo.proofs.Prelude.{w64, to_z-of_z}
use Rattle.nef_geo.proofs.dir.Dir.of.Goals as goal

pub returns-clause-same : goal.returns-clause-same
returns-clause-same c = rw (to_z-of_z w64 c.args.x c.ranges.x, to_z-of_z w64 c.args.y c.ranges.y, to_z-of_z w64 c.args.z c.ranges.z) at c.reduced.ensures.same

pub returns-clause-size : goal.returns-clause-size
returns-clause-size c k h = c.reduced.ensures.size k (rw (to_z-of_z w64 c.args.x c.ranges.x, to_z-of_z w64 c.args.y c.ranges.y, to_z-of_z w64 c.args.z c.ranges.z) h)
