use Rattle.nef_expr.proofs.Tables.{IsCopying}
use Rattle.nef_expr.proofs.table.TurnedNodes.turn.Given as goal

abbrev pub invariant-loop-i : goal.invariant-loop-i
invariant-loop-i l = IsCopying l.initial.self l.t l.i l.needed.items l.self l.copies.items
