use Rattle.nef_shell.proofs.Prelude.{◌≡◌, ◌≤◌, ℕ, length, Some, ArePut}
use Rattle.std.proofs.Common.{slice_get}
use Rattle.nef_shell.proofs.ahead.put_each.Given as goal

abbrev pub invariant-loop-thing : goal.invariant-loop-thing
invariant-loop-thing g l = record {
  put : ArePut l.early l.fn.things.items l.fn.places l.places;
  count : length l.things.items ≤ length l.early;
  front : (n : ℕ) (x : _) → slice_get l.things.items n ≡ Some x → slice_get l.fn.things.items n ≡ Some x;
}

abbrev pub decreases-loop-thing : goal.decreases-loop-thing
decreases-loop-thing g l = goal.left-loop-thing g l
