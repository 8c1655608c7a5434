use Rattle.nef_smap.proofs.Prelude.{arith, sym, ◌∙◌, subst, not_true, Vector, SameDirection, vector_of, Item, item_normal, item_of, map_of}
use Rattle.nef_smap.proofs.Found.{none-more, none-of_all}
use Rattle.nef_smap.proofs.map.SphereMap.item_with.Goals as goal

pub returns-then-is_same : goal.returns-then-is_same
returns-then-is_same c = record {
  item = (item_of c.item_at.result, c.item_at.ensures.item, subst (λ (v : Vector). SameDirection v (vector_of c.args.normal.now)) c.normal.ensures.normal (c.is_same.ensures.direction.0 c.if-is_same.true));
}

pub loop-number-preserved : goal.loop-number-preserved
loop-number-preserved c =
    let n = vector_of c.args.normal.now in
    none-more (map_of c.args.self.now) (λ (x : Item). SameDirection (item_normal x) n) c.loop-number.number (item_of c.item_at.result) c.item_at.ensures.item
    (λ s. not_true (sym c.if-is_same.false ∙ c.is_same.ensures.direction.1 (subst (λ (v : Vector). SameDirection v n) (sym c.normal.ensures.normal) s)))
    c.loop-number.invariant

pub returns : goal.returns
returns c = record {
  item = none-of_all (map_of c.args.self.now) (λ (x : Item). SameDirection (item_normal x) (vector_of c.args.normal.now)) c.loop-number.number
      (let e = c.item_count-number-end.ensures.count in let f = c.loop-number-test.false in omega arith) c.loop-number.invariant;
}
