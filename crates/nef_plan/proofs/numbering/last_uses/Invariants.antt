use Rattle.nef_plan.proofs.Prelude.{◌⊎◌, ◌≡◌, ◌≤◌, ◌<◌, ℕ, Some, length, slice_get, slice_index, Task, LooksAtValue}
use Rattle.nef_plan.proofs.numbering.last_uses.Given as goal

abbrev pub invariant-loop-now : goal.invariant-loop-now
invariant-loop-now l = record {
  count : length l.places ≡ length l.tasks;
  used : (k : ℕ) → k < length l.tasks → (slice_index l.places k ≡ 0) ⊎ ((t : Task) × (slice_get l.tasks (slice_index l.places k) ≡ Some t) × LooksAtValue t k);
  last : (i k : ℕ) (t : Task) → i < l.now → slice_get l.tasks i ≡ Some t → LooksAtValue t k → i ≤ slice_index l.places k;
}
