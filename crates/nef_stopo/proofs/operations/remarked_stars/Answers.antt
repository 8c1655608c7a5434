use Rattle.nef_stopo.proofs.Prelude.{topology_of}
use Rattle.nef_stopo.proofs.MapStars.{at-read, svertex-small, remarked-at, remarked-more}
use Rattle.nef_stopo.proofs.operations.remarked_stars.Goals as goal

pub star_at-requires-clause-small : goal.star_at-requires-clause-small
star_at-requires-clause-small c =
    let m = c.args.map.now in let i = c.loop-svertex.svertex-index in let v = c.svertex-item.result in
    svertex-small m c.requires.map i v (at-read c.as_slice-svertex-items.result.now m.svertices i v c.as_slice-svertex-items.ensures.all c.loop-svertex-test.true c.svertex-item.is)

pub loop-svertex-preserved : goal.loop-svertex-preserved
loop-svertex-preserved c =
    let k = topology_of c.args.topology in let m = c.args.map.now in let i = c.loop-svertex.svertex-index in let v = c.svertex-item.result in
    let t = c.in_ok-star.star in let u = c.in_ok-remarked.field-0 in
    remarked-more k m i c.loop-svertex.stars c.push.new.self v u c.loop-svertex.invariant
    (at-read c.as_slice-svertex-items.result.now m.svertices i v c.as_slice-svertex-items.ensures.all c.loop-svertex-test.true c.svertex-item.is)
    c.in_ok-push.ensures.ok c.in_ok-remarked.ensures.star
    (remarked-at k m v t u c.in_ok-star.ensures.star c.in_ok-star.ensures.axis c.in_ok-star.ensures.shows c.in_ok-remarked.ensures.remarked)
