use Rattle.nef_plane.proofs.Prelude.{rules}
use Rattle.nef_plane.proofs.Sweep.{way-sign, way-second}
use Rattle.nef_plane.proofs.course.sweep_sign.Goals as goal
use Rattle.nef_plane.proofs.course.sweep_sign.Goals.{else-c-eq0-via-then-c-eq0+else-b-eq0, else-c-eq0-via-else-c-eq0}

pub returns-then-b-eq0 : goal.returns-then-b-eq0
returns-then-b-eq0 c = record {
  sweep = way-second c.args.h.now c.args.d.now c.of.result c.y.result c.of.ensures.sign c.y.ensures.y (search (rules, c.c.ensures.c, c.if-c-eq0.true)) (search (rules, c.b.ensures.b, c.if-b-eq0.true));
}

pub returns-else-c-eq0 : goal.returns-else-c-eq0
returns-else-c-eq0 c = record {
  sweep = way-sign c.args.h.now c.args.d.now c.of-else-c-eq0.result c.x.result c.of-else-c-eq0.ensures.sign c.x.ensures.x (λ e f. elim c.else-c-eq0.branch [
    | else-c-eq0-via-then-c-eq0+else-b-eq0 w ↦ absurd (search (rules, w.b.ensures.b, w.if-b-eq0.false, f))
    | else-c-eq0-via-else-c-eq0 w ↦ absurd (search (rules, c.c.ensures.c, w.if-c-eq0.false, e))
  ]);
}
