use Rattle.std.specs.Prelude.{ℕ, ◌<◌}
use Rattle.nef_plane.proofs.Prelude.{hit_point, IsVertexPoint, complex_of}
use Rattle.nef_plane.proofs.along.vertex_off_axis.Given as goal

abbrev pub invariant-loop-number : goal.invariant-loop-number
invariant-loop-number l = (k : ℕ) → k < l.number → IsVertexPoint (complex_of l.c) k (hit_point l.p) → ⊥
