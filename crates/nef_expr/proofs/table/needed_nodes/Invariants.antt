use Rattle.nef_expr.proofs.Marks.{MarksFrom}
use Rattle.nef_expr.proofs.table.needed_nodes.Given as goal

abbrev pub invariant-loop-back : goal.invariant-loop-back
invariant-loop-back l = MarksFrom l.nodes l.k l.back l.list
