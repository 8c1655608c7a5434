use Rattle.nef_free.proofs.Prelude.{◌≡◌, ℕ, ◌+◌, ◌-◌, ◌<◌, ◌≤◌, ◌==◌, Some, None, slice_get, slice_index_or, vec_len, vec_capacity, true, false, if◌then◌else◌}
use Rattle.std.specs.Mem.Slots.{slots_items, slots_filled, slots_len}
use mathlib.Core.Option.{some}
use lib.ListN.{get_elem?}
use Rattle.nef_free.proofs.board.gathered.Given as goal

abbrev pub invariant-loop-next : goal.invariant-loop-next
invariant-loop-next g l = record {
  words : l.closed.words ≡ l.initial.closed.words;
  items : slots_items l.closed.slots ≡ slots_items l.initial.closed.slots;
  len : slots_len l.closed.slots ≡ slots_len l.initial.closed.slots;
  taken : (k : ℕ) → k < l.next → slice_index_or (slots_filled l.closed.slots) k false ≡ false;
  there : (k : ℕ) → l.next ≤ k → k < slots_len l.initial.closed.slots → slice_index_or (slots_filled l.closed.slots) k false ≡ true;
  low : l.next ≤ slots_len l.initial.closed.slots;
  count : vec_len l.results ≡ l.next;
  room : slots_len l.initial.closed.slots ≤ vec_capacity l.results;
  each : (i n : ℕ) (y : _) → i < l.next → get_elem? (slots_items l.initial.closed.words) (i + 1) ≡ some n → get_elem? (slots_items l.initial.closed.slots) i ≡ some y → slice_get l.results.items i ≡ Some (if n == 1 then y else None);
}

abbrev pub decreases-loop-next : goal.decreases-loop-next
decreases-loop-next g l = slots_len l.initial.closed.slots - l.next
