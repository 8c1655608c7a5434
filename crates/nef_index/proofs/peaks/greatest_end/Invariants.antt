use Rattle.std.specs.Prelude.{◌+◌}
use Rattle.nef_index.proofs.Prelude.{EndBelow}
use Rattle.nef_index.proofs.peaks.greatest_end.Given as goal

abbrev pub invariant-loop-place : goal.invariant-loop-place
invariant-loop-place l = EndBelow l.edges l.numbers l.first l.place (l.greatest + 1)
