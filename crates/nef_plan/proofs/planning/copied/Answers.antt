use Rattle.nef_plan.proofs.Prelude.{◌≡◌, ◌∙◌, ◌∷◌, ◌++◌, [], List, ap, sym, take, take_more, slice_get_within, get_or_from_slice_get, Node}
use Rattle.nef_plan.proofs.planning.copied.Goals as goal

pub loop-k-preserved : goal.loop-k-preserved
loop-k-preserved c =
    let nodes = c.args.nodes.now in
    let k = c.loop-k.k in
    let x = c.get.result.now in
    let added : c.push.new.self ≡ c.loop-k.copy ++ x ∷ [] = c.in_ok-push.ensures.added in
    let next = take_more nodes k x (slice_get_within nodes k x c.get.ensures.node) in
    added ∙ ap (λ (z : List Node). z ++ x ∷ []) c.loop-k.invariant ∙ ap (λ (z : Node). take k nodes ++ z ∷ []) (sym (get_or_from_slice_get nodes k x x c.get.ensures.node)) ∙ sym next
