use Rattle.nef_sover.proofs.Prelude.{Track, MeetsOne}
use Rattle.nef_sover.proofs.Adding.{any-none, any-more, any-all}
use Rattle.nef_sover.proofs.axes.add_crossings.Goals as goal
use Rattle.nef_space.proofs.Lists.{is-at_read}

pub loop-x-init : goal.loop-x-init
loop-x-init c = record { added = any-none (λ (x : Track). MeetsOne x c.args.ys.now) c.args.xs.now c.args.axes.now.items }

pub loop-x-preserved : goal.loop-x-preserved
loop-x-preserved c = record {
  added = any-more (λ (x : Track). MeetsOne x c.args.ys.now) c.args.xs.now c.loop-x.x-index c.x-item.result c.args.axes.now.items c.loop-x.axes.items c.add_meets_with.new.axes.items
      c.loop-x-test.true c.x-item.is c.loop-x.invariant.added c.in_ok-add_meets_with.ensures.added;
}

pub add_meets_with-requires-clause-x_small : goal.add_meets_with-requires-clause-x_small
add_meets_with-requires-clause-x_small c = c.requires.xs_small c.loop-x.x-index c.x-item.result (is-at_read c.args.xs.now c.loop-x.x-index c.x-item.result c.loop-x-test.true c.x-item.is)

pub returns : goal.returns
returns c = record {
  added = any-all (λ (x : Track). MeetsOne x c.args.ys.now) c.args.xs.now c.loop-x.x-index c.args.axes.now.items c.loop-x.axes.items c.loop-x-test.false c.loop-x.invariant.added;
}
