use Rattle.nef_pool.proofs.Prelude.{◌≡◌, ◌+◌, ◌≤◌, None, All, vec_len, vec_capacity}
use Rattle.nef_pool.proofs.pool.finish.Given as goal

abbrev pub invariant-loop : goal.invariant-loop
invariant-loop g l =
    g.B.Board.belongs l.board l.pass × (g.B.Board.hand l.pass ≡ None)
    × All (λ p. g.B.Board.belongs l.board p × (g.B.Board.hand p ≡ None)) l.others.items
    × (l.count ≤ g.B.Board.spare l.pass + l.counter)
    × (vec_len l.others ≡ l.counter)
    × (l.count ≤ vec_capacity l.others)
