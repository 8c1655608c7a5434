use Rattle.nef_sover.proofs.Prelude.{◌+◌, List, take, sym, subst, Star, op_label, map_of, Axis, IsMergedAt, AreMerged, at-contains}
use Rattle.nef_sover.proofs.Places.{zip-more, zip-all}
use Rattle.nef_sover.proofs.overlaid.merged_stars.Goals as goal
use Rattle.nef_space.proofs.Lists.{is-at_read}

pub merged_star-requires-clause-small : goal.merged_star-requires-clause-small
merged_star-requires-clause-small c =
    let i = c.loop-axis.axis-index in let d = c.axis-item.result in
    c.requires.axes.small d (at-contains c.args.axes.now i d (is-at_read c.args.axes.now i d c.loop-axis-test.true c.axis-item.is))

pub merged_star-requires-clause-placed : goal.merged_star-requires-clause-placed
merged_star-requires-clause-placed c =
    let i = c.loop-axis.axis-index in let d = c.axis-item.result in
    c.requires.axes.placed d (at-contains c.args.axes.now i d (is-at_read c.args.axes.now i d c.loop-axis-test.true c.axis-item.is))

pub loop-axis-preserved : goal.loop-axis-preserved
loop-axis-preserved c =
    let A = map_of c.args.a.now in let B = map_of c.args.b.now in
    let i = c.loop-axis.axis-index in let d = c.axis-item.result in let here = is-at_read c.args.axes.now i d c.loop-axis-test.true c.axis-item.is in
    record {
      merged = subst (λ (ts : List Star). AreMerged A B (op_label c.args.op) (take (i + 1) c.args.axes.now) ts) (sym c.in_ok-push.ensures.ok)
          (zip-more (λ (t : Star) (e : Axis). IsMergedAt A B (op_label c.args.op) e.dir t) c.loop-axis.stars c.args.axes.now i c.in_ok-merged_star.field-0 d c.loop-axis.invariant.merged here c.in_ok-merged_star.ensures.merged);
    }

pub returns : goal.returns
returns c = record {
  merged = let A = map_of c.args.a.now in let B = map_of c.args.b.now in
      zip-all (λ (t : Star) (e : Axis). IsMergedAt A B (op_label c.args.op) e.dir t) c.loop-axis.stars c.args.axes.now c.loop-axis.axis-index c.loop-axis-test.false c.loop-axis.invariant.merged;
}
