use Rattle.tests_places.proofs.Prelude.{ℕ, ◌<◌, hit_point, IsClearVertex}
use Rattle.tests_places.proofs.rays.has_no_svertex.Given as goal

abbrev pub invariant-loop-number : goal.invariant-loop-number
invariant-loop-number l = (k : ℕ) → k < l.number → IsClearVertex l.c (hit_point l.p) l.d k
