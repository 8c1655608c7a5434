use Rattle.nef_ops.proofs.Prelude.{ℕ, arith, refl, subst, IsAt, Item, items, is-at_one, item_of, map_of, is-at_within, ItemLacks}
use borrow.Author.Count.{below_more}
use Rattle.nef_ops.proofs.share.items_lack.Goals as goal

pub item_at-requires : goal.item_at-requires
item_at-requires c = let t = c.loop-number-test.true in let e = c.item_count-number-end.ensures.count in record { within = omega (arith, t, e) }

pub loop-number-preserved : goal.loop-number-preserved
loop-number-preserved c =
    let xs = items (map_of c.args.map.now) in
    let n = c.loop-number.number in
    let y = item_of c.item_at.result in
    let here : ItemLacks c.args.label y = c.if-not-item_lacks.ensures.lacks refl in
    λ k x l a. below_more (λ (j : ℕ). (z : Item) → IsAt xs j z → ItemLacks c.args.label z) n (λ j m z. c.loop-number.invariant j z m)
    (λ z b. subst (ItemLacks c.args.label) (is-at_one xs n y z c.item_at.ensures.item b) here) k l x a

pub returns : goal.returns
returns c = record {
  lacks = λ _ k x a. c.loop-number.invariant k x (let w = is-at_within (items (map_of c.args.map.now)) k x a in let t = c.loop-number-test.false in let e = c.item_count-number-end.ensures.count in omega (arith, w, t, e)) a;
}
