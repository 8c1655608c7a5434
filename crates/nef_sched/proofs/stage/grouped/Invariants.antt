use Rattle.nef_sched.proofs.Prelude.{◌≡◌, ℕ, Some, length, slice_get, IsRoundList}
use Rattle.nef_sched.proofs.stage.grouped.Given as goal

abbrev pub invariant-loop-number : goal.invariant-loop-number
invariant-loop-number l = record {
  len : length l.list ≡ length l.rounds;
  each : (r : ℕ) (group : _) → slice_get l.list r ≡ Some group → IsRoundList l.number l.rounds r group.items;
}
