use Rattle.tests_places.proofs.Prelude.{◌≡◌, rules, sym, ◌∙◌, form_at, form_of, point_of, hit_point, Zero, same-point_sym, zero_sign, complex_of, closed-same}
use Rattle.law_geometry.proofs.complex.EqualPoints.{edges-same}
use Rattle.tests_places.proofs.rays.inside.Goals as goal

pub returns-then-is_off_skeleton-clause-on : goal.returns-then-is_off_skeleton-clause-on
returns-then-is_off_skeleton-clause-on c =
    let z : c.hit_side.result ≡ Zero = search (rules, c.if-eq.true) in
    zero_sign (form_at (form_of c.args.h.now) (hit_point c.hit_at-q.result)) (sym c.hit_side.ensures.side ∙ z)

pub returns-then-is_off_skeleton-clause-framed : goal.returns-then-is_off_skeleton-clause-framed
returns-then-is_off_skeleton-clause-framed c =
    let p = point_of c.args.p.now in let q = hit_point c.hit_at-q.result in
    closed-same p q (same-point_sym q p c.hit_at-q.ensures.same) c.requires.framed

pub returns-then-is_off_skeleton-clause-off : goal.returns-then-is_off_skeleton-clause-off
returns-then-is_off_skeleton-clause-off c =
    let p = point_of c.args.p.now in let q = hit_point c.hit_at-q.result in
    λ o. c.is_off_skeleton.ensures.off c.if-is_off_skeleton.true (edges-same q p c.hit_at-q.ensures.same (complex_of c.args.c.now) o)
