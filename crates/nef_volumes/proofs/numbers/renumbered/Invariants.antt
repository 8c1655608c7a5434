use Rattle.nef_volumes.proofs.Prelude.{HasOneForEach, IsRenumbered}
use Rattle.nef_volumes.proofs.numbers.renumbered.Given as goal

abbrev pub invariant-loop-row : goal.invariant-loop-row
invariant-loop-row l = HasOneForEach (IsRenumbered l.numbers) l.row-index l.renumbered l.rows
