use Rattle.tests_places.proofs.Prelude.{inl, inr, sym, subst, normal_of, Vector, plane_axis, opposite, SameDirection, form_of, vector_of, opposite-same, SameDirection-turned}
use Rattle.tests_places.proofs.rays.axis.Goals as goal

pub returns-then-back-clause-axis : goal.returns-then-back-clause-axis
returns-then-back-clause-axis c =
    let axis = plane_axis (normal_of (form_of c.args.h.now)) in
    inr (subst (λ (d : Vector). SameDirection d (opposite axis)) (sym c.back.ensures.back)
    (opposite-same (vector_of c.plane_axis.result) axis (SameDirection-turned axis (vector_of c.plane_axis.result) c.plane_axis.ensures.axis)))

pub returns-else-back-clause-axis : goal.returns-else-back-clause-axis
returns-else-back-clause-axis c =
    inl (SameDirection-turned (plane_axis (normal_of (form_of c.args.h.now))) (vector_of c.plane_axis-else-back.result) c.plane_axis-else-back.ensures.axis)
