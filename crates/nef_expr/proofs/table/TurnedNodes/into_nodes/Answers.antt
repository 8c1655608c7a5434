-- At most 48 nodes for each base.
use Rattle.nef_expr.proofs.Prelude.{◌≤◌, ◌*◌, ◌∙◌, List, length, ap, sym, subst, Node, NodeTable, IsTable}
use Rattle.nef_expr.proofs.Tables.{few-nodes}
use Rattle.nef_expr.proofs.table.TurnedNodes.into_nodes.Goals as goal

pub returns-clause-few : goal.returns-clause-few
returns-clause-few c =
    let now = c.args.self in
    let T = subst (λ (t : NodeTable). IsTable t.nodes t.origins t.bases c.self.inside.places) c.self.view_is c.self.invariant in
    subst (λ (xs : List Node). length xs ≤ 48 * now.bases) (sym (c.from_list.ensures.nodes ∙ ap (λ (t : NodeTable). t.nodes) c.self.view_is))
    (few-nodes now.nodes now.origins now.bases T.are_origins)
