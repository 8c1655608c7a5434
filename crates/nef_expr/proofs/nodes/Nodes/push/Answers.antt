use Rattle.nef_expr.proofs.Prelude.{length, sym, subst, NamesBelow, IsOrdered}
use Rattle.nef_expr.proofs.Tables.{ordered-push}
use Rattle.nef_expr.proofs.nodes.Nodes.push.Goals as goal

pub invariant_of-self-2 : goal.invariant_of-self-2
invariant_of-self-2 c =
    let s = c.self.inside in let n = c.args.node in
    subst IsOrdered (sym c.in_ok-push.ensures.items) (ordered-push s.list.items n c.self.invariant (subst (λ ns. NamesBelow (length ns) n) (sym c.self.view_is) c.requires.operands))
