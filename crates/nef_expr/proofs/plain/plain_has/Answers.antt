use Rattle.nef_expr.proofs.Prelude.{arith, sym, ◌∙◌, false≢true, point_of}
use Rattle.nef_expr.proofs.Holding.{tells_each-push, told-in_list}
use Rattle.nef_expr.proofs.plain.plain_has.Goals as goal

pub loop-i-preserved : goal.loop-i-preserved
loop-i-preserved c =
    let old = c.loop-i.invariant in
    let pushed = c.in_ok-push.ensures.items in
    let told = rw c.deref.ensures.value at c.node_holds-holds.ensures.told in
    let here = told-in_list c.args.nodes.now c.loop-i.i _ c.loop-i.holding.items _ (point_of c.args.p.now) c.get.ensures.node c.get.ensures.operands old.told told in
    record {
      count = omega (arith, c.in_ok-push.ensures.len);
      told = rw pushed (tells_each-push _ _ _ _ old.told (rw old.count here));
    }

pub returns-then-node_holds : goal.returns-then-node_holds
returns-then-node_holds c =
    let told = rw c.deref-2.ensures.value at c.node_holds.ensures.told in
    let here = told-in_list c.args.nodes.now c.args.k _ c.loop-i.holding.items _ (point_of c.args.p.now) c.get-2.ensures.node c.get-2.ensures.operands c.loop-i.invariant.told told c.requires.plain in
    record { label = (c.in_frame.ensures.in_frame.0 c.if-not-in_frame.false, here.0 c.if-node_holds.true) }

pub returns : goal.returns
returns c =
    let told = rw c.deref-2.ensures.value at c.node_holds.ensures.told in
    let here = told-in_list c.args.nodes.now c.args.k _ c.loop-i.holding.items _ (point_of c.args.p.now) c.get-2.ensures.node c.get-2.ensures.operands c.loop-i.invariant.told told c.requires.plain in
    record { label = (c.in_frame.ensures.in_frame.0 c.if-not-in_frame.false, λ holds. false≢true (sym c.if-node_holds.false ∙ here.1 holds)) }
