-- One base more.
use Rattle.nef_expr.proofs.Prelude.{◌≡◌, ℕ, ◌+◌, ◌++◌, [], ◌∷◌, length, ap, sym, subst, NodeTable, IsTable, IsOfOrigin, HasOrigin, origin}
use Rattle.nef_expr.proofs.Tables.{base-new, base-image}
use Rattle.nef_expr.proofs.table.TurnedNodes.push.Goals as goal

pub add-requires-clause-new : goal.add-requires-clause-new
add-requires-clause-new c =
    let s = c.self.inside in let now = c.args.self.now in
    let T = subst (λ (t : NodeTable). IsTable t.nodes t.origins t.bases s.places) c.self.view_is c.self.invariant in
    let bases : s.bases ≡ now.bases = ap (λ (t : NodeTable). t.bases) c.self.view_is in
    λ n is. base-new now.nodes now.origins now.bases T.are_origins n (subst (λ (b : ℕ). HasOrigin now.origins n (origin b 0)) bases is)

pub add-requires-clause-image : goal.add-requires-clause-image
add-requires-clause-image c =
    let s = c.self.inside in let now = c.args.self.now in let n = c.args.node in
    let T = subst (λ (t : NodeTable). IsTable t.nodes t.origins t.bases s.places) c.self.view_is c.self.invariant in
    let bases : s.bases ≡ now.bases = ap (λ (t : NodeTable). t.bases) c.self.view_is in
    subst (λ (b : ℕ). IsOfOrigin (now.nodes ++ n ∷ []) (now.origins ++ origin b 0 ∷ []) (b + 1) (length now.nodes) (origin b 0)) (sym bases)
    (base-image now.nodes now.origins now.bases T.are_origins n T.ordered c.requires.operands)
