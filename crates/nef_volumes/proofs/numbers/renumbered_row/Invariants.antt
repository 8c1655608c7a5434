use Rattle.nef_volumes.proofs.Prelude.{ℕ, IsAt, HasOneForEach}
use Rattle.nef_volumes.proofs.numbers.renumbered_row.Given as goal

abbrev pub invariant-loop-number : goal.invariant-loop-number
invariant-loop-number l = HasOneForEach (λ (n m : ℕ). IsAt l.numbers m n) l.number-index l.renumbered l.row
