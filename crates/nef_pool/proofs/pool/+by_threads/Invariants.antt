use Rattle.nef_pool.proofs.Prelude.{length}
use Prim.Native.Nat.{◌+◌, ◌*◌}
use Rattle.nef_pool.proofs.pool.+by_threads.Given as goal

abbrev pub decreases-work_by_threads : goal.decreases-work_by_threads
decreases-work_by_threads g l = 2 * length l.others.items

abbrev pub decreases-goes_on : goal.decreases-goes_on
decreases-goes_on g l = 2 * length l.others.items + 1
