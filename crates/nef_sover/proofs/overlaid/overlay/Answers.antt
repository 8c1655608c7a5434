use Rattle.nef_sover.proofs.Prelude.{sym, subst, op_label, map_of, AreAxes}
use Rattle.nef_sover.proofs.StarsMerged.{all-merged, all-complete, all-ordered, all-stars}
use Rattle.nef_sover.proofs.overlaid.overlay.Goals as goal

pub returns-clause-raw : goal.returns-clause-raw
returns-clause-raw c =
    let A = map_of c.args.a.now in let B = map_of c.args.b.now in let op = op_label c.args.op in
    let ds = c.as_slice.result.now in let ts = c.in_ok-stars.stars in
    let X = subst (AreAxes A B) (sym c.as_slice.ensures.value) c.in_ok-axes.ensures.axes in
    let Z = c.in_ok-stars.ensures.merged in
    record {
      mark = c.label.ensures.label;
      merged = all-merged A B op ds ts X Z;
      complete = all-complete A B op ds ts X Z;
      ordered = all-ordered A B op ds ts X Z;
      circle = c.in_ok-sloop.ensures.circle;
      ground = c.merged_ground.ensures.ground;
    }

pub returns-clause-stars : goal.returns-clause-stars
returns-clause-stars c =
    let A = map_of c.args.a.now in let B = map_of c.args.b.now in
    record {
      stars = all-stars A B (op_label c.args.op) c.as_slice.result.now c.in_ok-stars.stars (subst (AreAxes A B) (sym c.as_slice.ensures.value) c.in_ok-axes.ensures.axes) c.in_ok-stars.ensures.merged;
      circle_small = c.in_ok-sloop.ensures.small;
    }
