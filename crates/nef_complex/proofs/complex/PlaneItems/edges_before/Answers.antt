use Rattle.nef_complex.proofs.Prelude.{◌+◌, ◌-◌, ◌<◌, ◌/◌, length, get_or, arith, is-at_get}
use Rattle.nef_complex.proofs.Rising.{begin-to, begin-from}
use Rattle.nef_complex.proofs.complex.PlaneItems.edges_before.Goals as goal

pub loop-low-preserved-then-at-limit : goal.loop-low-preserved-then-at-limit
loop-low-preserved-then-at-limit c =
    let S = c.requires.shows in let N = c.requires.edges in let u = c.loop-low-test.true in let w = c.loop-low.invariant in let j = w.1 in
    let ns = c.args.self.now.edges.now in let i = c.loop-low.low + (c.loop-low.high - c.loop-low.low) / 2 in
    let inside : i < length ns = omega arith in
    (omega arith, w.1, begin-to S.0 c.args.c.now S.1.shows ns N.1.ordered c.args.limit i (get_or ns i 0) c.at.result.now (is-at_get ns i 0 inside) c.at.ensures.element c.if-at-limit.true, w.3)

pub loop-low-preserved : goal.loop-low-preserved
loop-low-preserved c =
    let S = c.requires.shows in let N = c.requires.edges in let u = c.loop-low-test.true in let w = c.loop-low.invariant in let j = w.1 in
    let ns = c.args.self.now.edges.now in let i = c.loop-low.low + (c.loop-low.high - c.loop-low.low) / 2 in
    let inside : i < length ns = omega arith in
    (omega arith, omega arith, w.2, begin-from S.0 c.args.c.now S.1.shows ns N.1.ordered c.args.limit i (get_or ns i 0) c.at.result.now (is-at_get ns i 0 inside) c.at.ensures.element c.if-at-limit.false)
