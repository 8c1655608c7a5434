use Rattle.nef_spair.proofs.Prelude.{◌≡◌, ◌<◌, length, arith, sym, subst, ◌∙◌, refilled, AreSimple}
use Rattle.nef_spair.proofs.Simple.{simple-current, simple-more, simple-all}
use Rattle.nef_spair.proofs.making.simplified.Goals as goal

pub simplify-requires : goal.simplify-requires
simplify-requires c =
    let n = c.loop-star.star-index in let us = c.loop-star.star-items in
    let h : n < length us = omega (arith, c.loop-star-test.true, c.loop-star.auto.star-items) in
    record { star = simple-current n c.args.stars us c.loop-star.invariant h c.star-item.result c.requires.stars }

pub loop-star-preserved : goal.loop-star-preserved
loop-star-preserved c =
    let n = c.loop-star.star-index in let us = c.loop-star.star-items in
    let h : n < length us = omega (arith, c.loop-star-test.true, c.loop-star.auto.star-items) in
    simple-more n c.args.stars us c.loop-star.invariant h c.star-item.result c.simplify.new.star (record { star = c.simplify.ensures.star; kept = c.simplify.ensures.kept; simplified = c.simplify.ensures.simplified })

pub returns : goal.returns
returns c =
    let us = c.loop-star.star-items in
    let same : c.from_vec.result ≡ us = c.from_vec.ensures.all ∙ refilled c.into_vec-stars.result.len us _ (sym (c.loop-star.auto.star-items ∙ c.deref_mut-star-items.ensures.len)) in
    record { simple = subst (AreSimple c.args.stars) (sym same) (simple-all c.loop-star.star-index c.args.stars us (omega (arith, c.loop-star-test.false, c.loop-star.auto.star-items)) c.loop-star.invariant) }
