use Rattle.tests_places.proofs.Prelude.{arith, rules, hit_point, not_true}
use Rattle.tests_places.proofs.Directions.{clear-next, all-clear}
use Rattle.tests_places.proofs.rays.has_no_svertex.Goals as goal

pub returns-then-not-is_clear_vertex : goal.returns-then-not-is_clear_vertex
returns-then-not-is_clear_vertex c = record { none = λ h. absurd (not_true h) }

pub loop-number-preserved : goal.loop-number-preserved
loop-number-preserved c = clear-next c.args.c.now (hit_point c.args.p.now) c.args.d.now c.loop-number.number c.loop-number.invariant (c.is_clear_vertex.ensures.clear (search (rules, c.if-not-is_clear_vertex.false)))

pub returns : goal.returns
returns c = record {
  none = λ h. all-clear c.args.c.now (hit_point c.args.p.now) c.args.d.now (λ k l. c.loop-number.invariant k (let t = c.loop-number-test.false in let e = c.len-number-end.ensures.len in omega (arith, l, t, e)));
}
