use Rattle.tests_places.proofs.Prelude.{ℕ, ◌<◌, hit_point, IsEdgePoint, complex_of}
use Rattle.tests_places.proofs.rays.is_off_edges.Given as goal

abbrev pub invariant-loop-number : goal.invariant-loop-number
invariant-loop-number l = (k : ℕ) → k < l.number → IsEdgePoint (complex_of l.c) k (hit_point l.p) → ⊥
