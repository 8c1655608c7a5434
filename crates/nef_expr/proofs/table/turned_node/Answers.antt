use Rattle.nef_expr.proofs.Prelude.{ap, sym, subst, Form, Set, Shape, IsTurnedNode}
use Rattle.nef_expr.specs.declared.nodes.Node.TheVariants as node
use Rattle.nef_expr.proofs.table.turned_node.Goals as goal

pub returns-in-Half : goal.returns-in-Half
returns-in-Half c =
    record { turned = subst (λ n. IsTurnedNode c.args.t c.args.copies.now n (node.Half c.turned_half.result c.in-Half.closed)) (sym c.in-Half.is) (ap (λ (h : Form). Shape.leaf (Set.half h c.in-Half.closed)) c.turned_half.ensures.turned) }
