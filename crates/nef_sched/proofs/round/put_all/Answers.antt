use Rattle.nef_sched.proofs.Prelude.{Some, ap, sym, ◌∙◌, arith, refl, slice_index_or, take, take_more, length-take-le, View, put, whole}
use Rattle.nef_sched.proofs.Steps.{not_before}
use Rattle.nef_sched.proofs.round.put_all.Goals as goal

pub put_item-requires-clause-whole : goal.put_item-requires-clause-whole
put_item-requires-clause-whole g c =
    let numbers = c.args.numbers.now in
    let i = c.loop-number.number-index in
    let low = c.loop-number-test.true in
    let room = c.requires.room in
    (take i numbers, 0, c.loop-number.invariant.1, omega (arith, length-take-le i numbers (omega arith)), (refl, not_before numbers i 0 c.requires.differ low))

pub loop-number-preserved : goal.loop-number-preserved
loop-number-preserved g c =
    let numbers = c.args.numbers.now in
    let i = c.loop-number.number-index in
    (c.put_item.ensures.of, c.put_item.ensures.put ∙ ap (λ (v : View). put v (Some (slice_index_or numbers i 0))) c.loop-number.invariant.1 ∙ ap (λ l. whole l 0) (sym (take_more numbers i 0 c.loop-number-test.true)))
