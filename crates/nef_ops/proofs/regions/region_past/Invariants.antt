use Rattle.nef_ops.proofs.Prelude.{ℕ, ◌<◌, point_of, Point, IsAt, IsFar}
use Rattle.nef_ops.proofs.regions.region_past.Given as goal

abbrev pub invariant-loop-point : goal.invariant-loop-point
invariant-loop-point l = (k : ℕ) (p : Point) → k < l.point-index → IsAt l.points k p → IsFar l.side (point_of p) → ⊥
