use Rattle.nef_pool.proofs.Prelude.{◌≡◌, None}
use Rattle.nef_pool.proofs.pool.work_all.Given as goal

abbrev pub invariant-loop : goal.invariant-loop
invariant-loop g l = g.B.Board.belongs l.board l.pass × (g.B.Board.hand l.pass ≡ None)
