use Rattle.nef_plane.proofs.Prelude.{rules}
use Rattle.nef_plane.proofs.Shifting.{second-beside, first-beside}
use Rattle.nef_plane.proofs.course.ShiftedLine.across.Goals as goal
use Rattle.nef_plane.proofs.course.ShiftedLine.across.Goals.{else-c-eq0-via-then-c-eq0+else-b-eq0, else-c-eq0-via-else-c-eq0}

pub returns-then-b-eq0 : goal.returns-then-b-eq0
returns-then-b-eq0 c =
    let x = c.args.self.now in
    record {
      across = second-beside x.plane.now x.point.now c.args.a.now x.by x.small c.shift_sign.result c.y.result c.w.result c.y-then-b-eq0.result c.w-then-b-eq0.result
          c.shift_sign.ensures.sign c.w.ensures.w c.w-then-b-eq0.ensures.w c.y.ensures.y c.y-then-b-eq0.ensures.y (search (rules, c.c.ensures.c, c.if-c-eq0.true)) (search (rules, c.b.ensures.b, c.if-b-eq0.true));
    }

pub returns-else-c-eq0 : goal.returns-else-c-eq0
returns-else-c-eq0 c =
    let x = c.args.self.now in
    record {
      across = first-beside x.plane.now x.point.now c.args.a.now x.by x.small c.shift_sign-else-c-eq0.result c.x.result c.w-else-c-eq0.result c.x-else-c-eq0.result c.w-else-c-eq0-2.result
          c.shift_sign-else-c-eq0.ensures.sign c.w-else-c-eq0.ensures.w c.w-else-c-eq0-2.ensures.w c.x.ensures.x c.x-else-c-eq0.ensures.x (λ e f. elim c.else-c-eq0.branch [
            | else-c-eq0-via-then-c-eq0+else-b-eq0 w ↦ absurd (search (rules, w.b.ensures.b, w.if-b-eq0.false, f))
            | else-c-eq0-via-else-c-eq0 w ↦ absurd (search (rules, c.c.ensures.c, w.if-c-eq0.false, e))
          ]);
    }
