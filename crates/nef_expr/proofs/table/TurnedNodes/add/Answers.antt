-- One node more.
use Rattle.nef_expr.proofs.Prelude.{arith, ◌≡◌, ◌++◌, [], ◌∷◌, Some, length, ap, sym, subst, ◌∙◌, common_steps, nat_cmp, Updates, NodeTable, IsTable}
use Rattle.nef_expr.proofs.Tables.{table-push}
use Rattle.nef_expr.proofs.table.TurnedNodes.add.Goals as goal

pub invariant_of-self-2 : goal.invariant_of-self-2
invariant_of-self-2 c =
    let s = c.self.inside in let now = c.args.self.now in let n = c.args.node in let o = c.args.origin in
    let T = subst (λ (t : NodeTable). IsTable t.nodes t.origins t.bases s.places) c.self.view_is c.self.invariant in
    let ns : c.push_reserved.new.self.items ≡ now.nodes ++ n ∷ [] = c.push_reserved.ensures.items ∙ ap (λ xs. xs ++ n ∷ []) (c.reserve.ensures.items ∙ ap (λ (t : NodeTable). t.nodes) c.self.view_is) in
    let os : c.push_reserved-2.new.self.items ≡ now.origins ++ o ∷ [] = c.push_reserved-2.ensures.items ∙ ap (λ xs. xs ++ o ∷ []) (c.reserve-2.ensures.items ∙ ap (λ (t : NodeTable). t.origins) c.self.view_is) in
    let counted : c.len-number.result ≡ length s.nodes.items = grind (arith, common_steps) in
    let number : c.len-number.result ≡ length now.nodes = counted ∙ ap (λ (t : NodeTable). length t.nodes) c.self.view_is in
    let u = subst (λ k. Updates nat_cmp s.places c.insert.new.self k (Some (length now.nodes))) c.key_of.ensures.key
    (subst (λ k. Updates nat_cmp s.places c.insert.new.self c.key_of.result (Some k)) number c.in_ok-insert.ensures.updates) in
    let made = table-push now.nodes now.origins now.bases c.args.bases s.places c.insert.new.self n o T c.requires.operands c.requires.more_bases c.requires.few_bases c.requires.image c.requires.new u in
    subst (λ xs. IsTable xs c.push_reserved-2.new.self.items c.args.bases c.insert.new.self) (sym ns) (subst (λ xs. IsTable (now.nodes ++ n ∷ []) xs c.args.bases c.insert.new.self) (sym os) made)
