use Rattle.nef_spair.proofs.Prelude.{sym, ◌∙◌, true_or_false, IsDropped}
use Rattle.nef_spair.proofs.Circles.{none-more, none-all}
use Rattle.nef_spair.proofs.Parting.{not-dropped}
use Rattle.nef_spair.proofs.making.are_all_kept.Goals as goal
use Rattle.nef_space.proofs.Lists.{is-at_read}

pub loop-star-preserved : goal.loop-star-preserved
loop-star-preserved c =
    let stars = c.args.stars.now in let k = c.loop-star.star-index in let t = c.star-item.result in
    none-more IsDropped stars k t (is-at_read stars k t c.loop-star-test.true c.star-item.is) c.loop-star.invariant
    (not-dropped t (λ p. true_or_false (sym (c.is_plain.ensures.plain.1 p) ∙ c.if-is_plain.false)) (λ s. true_or_false (sym (c.is_straight.ensures.straight.1 s) ∙ c.if-is_straight.false)))

pub returns : goal.returns
returns c = record { kept = λ h. none-all IsDropped c.args.stars.now c.loop-star.star-index c.loop-star-test.false c.loop-star.invariant }
