use Rattle.nef_smap.proofs.Prelude.{List, true, false, sym, subst, eqb-true, eq-eqb, IsAt, SArc}
use lib.Dec.{eqb}
use Rattle.nef_smap.proofs.NeighbourhoodEnds.{ray-is, ends-none, ends-more, ends-all}
use Rattle.nef_smap.proofs.locate.arc_ends.Goals as goal
use Rattle.nef_space.proofs.Lists.{is-at_get}

pub loop-arc-init : goal.loop-arc-init
loop-arc-init c = ends-none c.args.map.now.arcs c.args.svertex _ c.new-ends.ensures.items

pub loop-arc-preserved : goal.loop-arc-preserved
loop-arc-preserved c =
    let a = c.arc-item.result in
    let k = c.args.svertex in
    let x = c.of-ahead.ensures in
    let y = c.of-back.ensures in
    let arcs = c.as_slice-arc-items.result.now in
    let n = c.loop-arc.arc-index in
    let listed = (subst (IsAt arcs n) (sym c.arc-item.is) (is-at_get arcs n a c.loop-arc-test.true)) in
    let here = subst (λ (x : List SArc). IsAt x n a) c.as_slice-arc-items.ensures.all listed in
    rw (c.in_ok-push_if-2.ensures.pushed, c.in_ok-push_if.ensures.pushed, ray-is c.of-ahead.result a.normal true a.mark x.normal x.ahead x.mark, ray-is c.of-back.result a.normal false a.mark y.normal y.ahead y.mark)
    (ends-more c.args.map.now.arcs c.loop-arc.arc-index k c.loop-arc.ends.items a (eqb a.source k) (eqb a.target k) here c.loop-arc.invariant
    (eqb-true a.source k, eq-eqb a.source k) (eqb-true a.target k, eq-eqb a.target k))

pub returns : goal.returns
returns c = let l = c.loop-arc-test.false in record { ends = ends-all c.args.map.now.arcs c.loop-arc.arc-index c.args.svertex c.loop-arc.ends.items (rw c.as_slice-arc-items.ensures.all at l) c.loop-arc.invariant }
