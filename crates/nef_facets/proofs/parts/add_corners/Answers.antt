use Rattle.nef_facets.proofs.Prelude.{arith}
use Rattle.nef_facets.proofs.CornerLists.{more-corners}
use Rattle.nef_facets.proofs.parts.add_corners.Goals as goal

pub loop-item-preserved : goal.loop-item-preserved
loop-item-preserved c = record {
  added = more-corners c.args.corners.now.items c.loop-item.corners.items c.push.new.self.items c.args.vertex c.loop-item.item c.loop-item.invariant.added c.in_ok-push.ensures.items;
  within = let t = c.loop-item-test.true in omega (arith, t);
}
