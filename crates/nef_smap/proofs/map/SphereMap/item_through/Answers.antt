use Rattle.nef_smap.proofs.Prelude.{arith, sym, ◌∙◌, subst, not_true, Vector, SameDirection, vector_of, Item, items, item_normal, OnItem, is-at_one, item_of, map_of}
use Rattle.nef_smap.proofs.Found.{none-more, none-of_all}
use Rattle.nef_smap.proofs.map.SphereMap.item_through.Goals.{else-is_same-via-then-is_same+else-item_holds, else-is_same-via-else-is_same}
use Rattle.nef_smap.proofs.map.SphereMap.item_through.Goals as goal

pub returns-then-item_holds : goal.returns-then-item_holds
returns-then-item_holds c =
    let M = map_of c.args.self.now in
    let x = item_of c.item_at.result in
    let r = c.item_holds.ensures.on in
    let same = is-at_one (items M) c.loop-number.number r.0 x r.1 c.item_at.ensures.item in
    record {
      item = (
        x,
        c.item_at.ensures.item,
        subst (λ (v : Vector). SameDirection v (vector_of c.args.normal.now)) c.normal.ensures.normal (c.is_same.ensures.direction.0 c.if-is_same.true),
        subst (λ (y : Item). OnItem M y (vector_of c.args.d.now)) same (r.2.0 c.if-item_holds.true),
      );
    }

pub loop-number-preserved : goal.loop-number-preserved
loop-number-preserved c =
    let M = map_of c.args.self.now in
    let n = vector_of c.args.normal.now in
    let d = vector_of c.args.d.now in
    let x = item_of c.item_at.result in
    let off : SameDirection (item_normal x) n × OnItem M x d → ⊥ = elim c.else-is_same.branch [
      | else-is_same-via-then-is_same+else-item_holds w ↦ λ p.
          let r = w.item_holds.ensures.on in
          let same = is-at_one (items M) c.loop-number.number r.0 x r.1 c.item_at.ensures.item in
          not_true (sym w.if-item_holds.false ∙ r.2.1 (subst (λ (y : Item). OnItem M y d) (sym same) p.1))
      | else-is_same-via-else-is_same w ↦ λ p. not_true (sym w.if-is_same.false ∙ c.is_same.ensures.direction.1 (subst (λ (v : Vector). SameDirection v n) (sym c.normal.ensures.normal) p.0))
    ] in
    none-more M (λ (y : Item). SameDirection (item_normal y) n × OnItem M y d) c.loop-number.number x c.item_at.ensures.item off c.loop-number.invariant

pub returns : goal.returns
returns c =
    let M = map_of c.args.self.now in
    let none = none-of_all M (λ (x : Item). SameDirection (item_normal x) (vector_of c.args.normal.now) × OnItem M x (vector_of c.args.d.now)) c.loop-number.number
    (let e = c.item_count-number-end.ensures.count in let f = c.loop-number-test.false in omega arith) c.loop-number.invariant in
    record { item = λ k (x, a, s, o). none k x a (s, o) }
