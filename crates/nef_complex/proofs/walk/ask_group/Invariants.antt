use Rattle.nef_complex.proofs.Prelude.{ℕ, ◌<◌, IsAt}
use Rattle.nef_complex.proofs.walk.ask_group.Given as goal

abbrev pub invariant-loop-number : goal.invariant-loop-number
invariant-loop-number g l = g.S.Search.right l.search l.c l.found × ((k : ℕ) → g.S.Search.passed l.search l.c l.fn.found k → g.S.Search.passed l.search l.c l.found k)
    × ((j k : ℕ) → j < l.number-index → IsAt l.number-items j k → g.S.Search.passed l.search l.c l.found k)
