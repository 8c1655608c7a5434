use Rattle.nef_classes.proofs.Prelude.{◌≡◌, ◌≤◌, ℕ, List, [], length, IsAt}
use Rattle.nef_classes.proofs.table.empty_rows.Given as goal

abbrev pub invariant-loop-number : goal.invariant-loop-number
invariant-loop-number g l = record { as_many : length l.rows.items ≡ l._number; within : l._number ≤ l.count; empty : (k : ℕ) (row : List _) → IsAt l.rows.items k row → row ≡ [] }
