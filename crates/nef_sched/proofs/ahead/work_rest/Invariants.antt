use Rattle.nef_sched.proofs.Prelude.{ℕ, ◌<◌, slice_index_or, IsKept, HasWorked}
use Rattle.nef_sched.proofs.ahead.work_rest.Given as goal

abbrev pub invariant-loop-number : goal.invariant-loop-number
invariant-loop-number g l = record {
  worked : HasWorked (g.T.Stage.size l.stage) (g.T.Stage.fits l.stage) l.fn.done.list.items l.done.list.items;
  there : (k : ℕ) → k < l.number-index → IsKept l.done.list.items (slice_index_or l.numbers k 0);
}
