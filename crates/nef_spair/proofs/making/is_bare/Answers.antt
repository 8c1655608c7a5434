use Rattle.nef_spair.proofs.Prelude.{refl, sym, ◌∙◌, vector_of, true_or_false}
use Rattle.nef_spair.proofs.Circles.{IsOnCircleOf, none-more, bare-all, not-bare}
use Rattle.nef_spair.proofs.making.is_bare.Goals as goal
use Rattle.nef_space.proofs.Lists.{is-at_read}

pub returns-then-is_perpendicular : goal.returns-then-is_perpendicular
returns-then-is_perpendicular c =
    let kept = c.args.kept.now in let n = vector_of c.args.normal.now in let k = c.loop-star.star-index in let t = c.star-item.result in
    let a = is-at_read kept k t c.loop-star-test.true c.star-item.is in
    record { bare = (λ f. absurd (true_or_false (sym f)), λ b. absurd (not-bare kept n k t a (c.is_perpendicular.ensures.perpendicular.0 c.if-is_perpendicular.true) b)) }

pub loop-star-preserved : goal.loop-star-preserved
loop-star-preserved c =
    let kept = c.args.kept.now in let n = vector_of c.args.normal.now in let k = c.loop-star.star-index in let t = c.star-item.result in
    none-more (IsOnCircleOf n) kept k t (is-at_read kept k t c.loop-star-test.true c.star-item.is) c.loop-star.invariant (λ e. true_or_false (sym (c.is_perpendicular.ensures.perpendicular.1 e) ∙ c.if-is_perpendicular.false))

pub returns : goal.returns
returns c = let b = bare-all c.args.kept.now (vector_of c.args.normal.now) c.loop-star.star-index c.loop-star-test.false c.loop-star.invariant in record { bare = (λ t. b, λ t. refl) }
