use Rattle.nef_sched.proofs.Prelude.{◌≡◌, ◌≤◌, ℕ, [], Some, slice_get, vec_len, vec_capacity}
use Rattle.nef_sched.proofs.stage.no_groups.Given as goal

abbrev pub invariant-loop : goal.invariant-loop
invariant-loop l = record {
  len : vec_len l.groups ≡ l.counter;
  room : l.count ≤ vec_capacity l.groups;
  empty : (r : ℕ) (group : _) → slice_get l.groups.items r ≡ Some group → group.items ≡ [];
}
