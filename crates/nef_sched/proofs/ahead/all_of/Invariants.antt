use Rattle.nef_sched.proofs.Prelude.{◌≡◌, ◌++◌, ◌≤◌, ℕ, Some, slice_get, length, vec_len, vec_capacity, kept}
use Rattle.nef_sched.proofs.ahead.all_of.Given as goal

abbrev pub invariant-loop-slot : goal.invariant-loop-slot
invariant-loop-slot g l = record {
  len : vec_len l.outs ≡ length l.yielded;
  same : (i : ℕ) (out : _) → slice_get l.outs.items i ≡ Some out → kept l.fn.list.items i ≡ Some out;
  parted : l.fn.list.items ≡ l.yielded ++ l.slot-iterator.rest.items;
  room : length l.fn.list.items ≤ vec_capacity l.outs;
}
