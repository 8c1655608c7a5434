use Rattle.nef_complex.proofs.Prelude.{ℕ, IsInGroup}
use Rattle.nef_complex.proofs.Reading.{HaveAll}
use Rattle.nef_complex.proofs.walk.ask_cluster.Given as goal

abbrev pub invariant-loop-group : goal.invariant-loop-group
invariant-loop-group g l = g.S.Search.right l.search l.c l.found × ((k : ℕ) → g.S.Search.passed l.search l.c l.fn.found k → g.S.Search.passed l.search l.c l.found k)
    × HaveAll IsInGroup (g.S.Search.passed l.search l.c l.found) l.group-items l.group-index
