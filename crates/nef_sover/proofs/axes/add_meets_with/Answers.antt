use Rattle.nef_sover.proofs.Prelude.{IsTrackMeet}
use Rattle.nef_sover.proofs.Adding.{any-none, any-more, any-all}
use Rattle.nef_sover.proofs.axes.add_meets_with.Goals as goal
use Rattle.nef_space.proofs.Lists.{is-at_read}

pub loop-y-init : goal.loop-y-init
loop-y-init c = record { added = any-none (IsTrackMeet c.args.x.now) c.args.ys.now c.args.axes.now.items }

pub loop-y-preserved : goal.loop-y-preserved
loop-y-preserved c = record {
  added = any-more (IsTrackMeet c.args.x.now) c.args.ys.now c.loop-y.y-index c.y-item.result c.args.axes.now.items c.loop-y.axes.items c.add_meets.new.axes.items c.loop-y-test.true c.y-item.is
      c.loop-y.invariant.added c.in_ok-add_meets.ensures.added;
}

pub add_meets-requires-clause-y_small : goal.add_meets-requires-clause-y_small
add_meets-requires-clause-y_small c = c.requires.ys_small c.loop-y.y-index c.y-item.result (is-at_read c.args.ys.now c.loop-y.y-index c.y-item.result c.loop-y-test.true c.y-item.is)

pub returns : goal.returns
returns c = record { added = any-all (IsTrackMeet c.args.x.now) c.args.ys.now c.loop-y.y-index c.args.axes.now.items c.loop-y.axes.items c.loop-y-test.false c.loop-y.invariant.added }
