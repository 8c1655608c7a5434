use Rattle.nef_canon.proofs.Prelude.{List, ℕ, [], ◌∷◌, ◌++◌, take, ap, sym, ◌∙◌, append-nil, take_more, take_all, flat_map_more, flat_map}
use Rattle.nef_canon.proofs.words.add_each.Goals as goal

pub loop-item-init : goal.loop-item-init
loop-item-init g c line says = sym (append-nil c.args.text.now.items)

pub loop-item-preserved : goal.loop-item-preserved
loop-item-preserved g c line says =
    let o : List ℕ = c.args.text.now.items in
    let xs = c.args.items.now in
    let i = c.loop-item.item-index in
    let x = c.item-item.result in
    says _ _ _ _ c.in_ok-add.ensures
    ∙ ap (λ (r : List ℕ). r ++ line x) (c.loop-item.invariant line says)
    ∙ flat_map_more line o (take i xs) x
    ∙ ap (λ ys. o ++ flat_map line ys) (ap (λ y. take i xs ++ y ∷ []) c.item-item.is ∙ sym (take_more xs i x c.loop-item-test.true))

pub returns : goal.returns
returns g c = record {
  added = λ line says. c.loop-item.invariant line says ∙ ap (λ ys. c.args.text.now.items ++ flat_map line ys) (take_all c.loop-item.item-index c.args.items.now c.loop-item-test.false);
}
