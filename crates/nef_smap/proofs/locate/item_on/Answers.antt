use Rattle.nef_smap.proofs.Prelude.{arith, sym, ◌∙◌, not_true, vector_of, Item, OnItem, map_of}
use Rattle.nef_smap.proofs.Found.{none-more, none-of_all}
use Rattle.nef_smap.proofs.locate.item_on.Goals as goal

pub returns-then-item_holds : goal.returns-then-item_holds
returns-then-item_holds c = let r = c.item_holds.ensures.on in record { item = (r.0, r.1, r.2.0 c.if-item_holds.true) }

pub loop-number-preserved : goal.loop-number-preserved
loop-number-preserved c =
    let M = map_of c.args.map.now in
    let r = c.item_holds.ensures.on in
    none-more M (λ (x : Item). OnItem M x (vector_of c.args.d.now)) c.loop-number.number r.0 r.1 (λ o. not_true (sym c.if-item_holds.false ∙ r.2.1 o)) c.loop-number.invariant

pub returns : goal.returns
returns c =
    let M = map_of c.args.map.now in
    record {
      item = none-of_all M (λ (x : Item). OnItem M x (vector_of c.args.d.now)) c.loop-number.number
          (let e = c.item_count-number-end.ensures.count in let f = c.loop-number-test.false in omega arith) c.loop-number.invariant;
    }
