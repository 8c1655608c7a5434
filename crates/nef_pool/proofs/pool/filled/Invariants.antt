use Rattle.nef_pool.proofs.Prelude.{◌≡◌, ℕ, Some, slice_get, ◌≤◌, length, vec_len, vec_capacity}
use Rattle.nef_pool.proofs.pool.filled.Given as goal

abbrev pub invariant-loop-slot : goal.invariant-loop-slot
invariant-loop-slot g l = (vec_len l.outs ≡ length l.yielded) × (g.J.Job.count l.job ≤ vec_capacity l.outs) × ((i : ℕ) (out : _) → slice_get l.outs.items i ≡ Some out → g.J.Job.right l.job i out)
