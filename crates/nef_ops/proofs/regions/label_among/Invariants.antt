use Rattle.nef_ops.proofs.Prelude.{ℕ, ◌<◌, IsNone, point_of, IsAt, Region, IsFar}
use Rattle.nef_ops.proofs.regions.label_among.Given as goal

abbrev pub invariant-loop-region : goal.invariant-loop-region
invariant-loop-region l = (k : ℕ) (r : Region) → k < l.region-index → IsAt l.regions k r → IsFar r.side (point_of l.point) → IsNone r.label
