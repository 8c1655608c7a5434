use Rattle.tests_places.proofs.Prelude.{arith, rules, hit_point, IsEdgePoint, not_true, complex_of}
use Rattle.tests_places.proofs.Directions.{none-next, edge-listed}
use Rattle.tests_places.proofs.rays.is_off_edges.Goals as goal

pub returns-then-is_on_edge : goal.returns-then-is_on_edge
returns-then-is_on_edge c = record { off = λ h. absurd (not_true h) }

pub loop-number-preserved : goal.loop-number-preserved
loop-number-preserved c = none-next (λ k. IsEdgePoint (complex_of c.args.c.now) k (hit_point c.args.p.now)) c.loop-number.number c.loop-number.invariant
    (λ x. absurd (search (rules, c.is_on_edge.ensures.on.1 x, c.if-is_on_edge.false)))

pub returns : goal.returns
returns c = record {
  off = λ h k x. c.loop-number.invariant k (let l = edge-listed c.args.c.now k (hit_point c.args.p.now) x in let t = c.loop-number-test.false in let e = c.len-number-end.ensures.len in omega (arith, l, t, e)) x;
}
