use Rattle.nef_script.proofs.Prelude.{◌≡◌, [], ◌∷◌, ◌++◌, length, ◌∙◌, ap, sym, subst, arith, None, position, bytes_eq, map-append, pointed, HasNumbers}
use Rattle.nef_script.proofs.Bound.{HasNumbers-push}
use Rattle.nef_script.proofs.Shapes.{length-pointed}
use Rattle.nef_script.proofs.script.Names.push.Goals as goal

pub invariant_of-self-2 : goal.invariant_of-self-2
invariant_of-self-2 c =
    let last : c.len.result ≡ length (pointed c.self.inside.order.items) = (
    let ok = c.reserve.new.self.ok in let items = ap length c.reserve.ensures.items in let len = c.len.ensures in let seen = length-pointed c.self.inside.order.items in
    omega (arith, ok, items, len, seen)) in
    let new = subst (λ names. position (bytes_eq c.args.name.now) names ≡ None) (sym c.self.view_is) c.requires.new in
    let items : c.push_reserved.new.self.items ≡ c.self.inside.order.items ++ c.args.name ∷ [] = c.push_reserved.ensures.items ∙ ap (λ xs. xs ++ c.args.name ∷ []) c.reserve.ensures.items in
    let seen : pointed c.push_reserved.new.self.items ≡ pointed c.self.inside.order.items ++ c.args.name.now ∷ [] = ap pointed items ∙ map-append (λ w. w.now) c.self.inside.order.items (c.args.name ∷ []) in
    subst (HasNumbers c.insert.new.self) (sym seen) (HasNumbers-push c.self.inside.places c.insert.new.self (pointed c.self.inside.order.items) c.args.name.now c.len.result c.in_ok-insert.ensures.updates last c.self.invariant new)
