use Rattle.nef_core.proofs.Prelude.{◌≡◌, ◌≤◌, ℕ, None, Some, replicate, slice_get, vec_len, vec_capacity}
use Rattle.nef_core.proofs.board.empty_places.Given as goal

abbrev pub invariant-loop : goal.invariant-loop
invariant-loop g l = record {
  len : vec_len l.list ≡ l.counter;
  room : l.count ≤ vec_capacity l.list;
  items : l.list.items ≡ replicate l.counter None;
  empty : (k : ℕ) (x : _) → slice_get l.list.items k ≡ Some (Some x) → ⊥;
}
