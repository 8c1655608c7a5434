use Rattle.nef_plane.proofs.Prelude.{IsTrue, rules, inl, inr, vector_of}
use Rattle.nef_plane.proofs.Close.{close-first, close-second, outweighed}
use Rattle.nef_plane.proofs.course.stays_close.Goals as goal
use Rattle.nef_plane.proofs.course.stays_close.Goals.{else-c-eq0-via-then-c-eq0+else-b-eq0, else-c-eq0-via-else-c-eq0}

pub returns-then-b-eq0 : goal.returns-then-b-eq0
returns-then-b-eq0 c = record {
  close = λ t. close-second c.args.h.now (vector_of c.args.d.now) (search (rules, c.c.ensures.c, c.if-c-eq0.true)) (search (rules, c.b.ensures.b, c.if-b-eq0.true))
      (outweighed (IsTrue c.outweighs.result) c.z.result c.y.result c.args.d.now.z c.args.d.now.y c.z.ensures.z c.y.ensures.y c.requires.small.of_z c.requires.small.of_y c.outweighs.ensures.outweighs t);
}

pub returns-then-outweighs : goal.returns-then-outweighs
returns-then-outweighs c = record {
  close = λ t. close-first c.args.h.now (vector_of c.args.d.now) (λ e f. elim c.else-c-eq0.branch [
    | else-c-eq0-via-then-c-eq0+else-b-eq0 w ↦ absurd (search (rules, w.b.ensures.b, w.if-b-eq0.false, f))
    | else-c-eq0-via-else-c-eq0 w ↦ absurd (search (rules, c.c.ensures.c, w.if-c-eq0.false, e))
  ]) (inl (outweighed (IsTrue c.outweighs-else-c-eq0.result) c.y-else-c-eq0.result c.x.result c.args.d.now.y c.args.d.now.x c.y-else-c-eq0.ensures.y c.x.ensures.x c.requires.small.of_y c.requires.small.of_x c.outweighs-else-c-eq0.ensures.outweighs t));
}

pub returns-else-outweighs : goal.returns-else-outweighs
returns-else-outweighs c = record {
  close = λ t. close-first c.args.h.now (vector_of c.args.d.now) (λ e f. elim c.else-c-eq0.branch [
    | else-c-eq0-via-then-c-eq0+else-b-eq0 w ↦ absurd (search (rules, w.b.ensures.b, w.if-b-eq0.false, f))
    | else-c-eq0-via-else-c-eq0 w ↦ absurd (search (rules, c.c.ensures.c, w.if-c-eq0.false, e))
  ]) (inr (outweighed (IsTrue c.outweighs-else-outweighs.result) c.z-else-outweighs.result c.x-else-outweighs.result c.args.d.now.z c.args.d.now.x c.z-else-outweighs.ensures.z c.x-else-outweighs.ensures.x c.requires.small.of_z c.requires.small.of_x
      c.outweighs-else-outweighs.ensures.outweighs t));
}
