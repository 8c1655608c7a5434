use Rattle.nef_locate.proofs.Prelude.{◌≡◌, pos, inl, inr, refl, sym, subst, level-of_opposite, normal_of, Vector, dot, plane_axis, form_of, vector_of, hit_point, meets_vertex, meets_edge, complex_of, corner_of, meet_of, SameDirection-turned}
use Rattle.nef_locate.proofs.Behind.{corner-normal}
use Rattle.nef_locate.proofs.FacetFound.{some-then, none-then, none-met, found-flat, found-corner, none-found}
use Rattle.nef_locate.proofs.ItemsFound.{met-listed}
use Rattle.nef_locate.proofs.facet.in_facet_among.Goals as goal

pub first_along_axis-requires-clause-off : goal.first_along_axis-requires-clause-off
first_along_axis-requires-clause-off c = inr (λ k e l. c.requires.off (meets_edge k) (e, l))

pub first_along_axis-requires-clause-direction : goal.first_along_axis-requires-clause-direction
first_along_axis-requires-clause-direction c = inl (SameDirection-turned (plane_axis (normal_of (form_of c.args.h.now))) (vector_of c.plane_axis-axis.result) c.plane_axis-axis.ensures.axis)

pub first_along_axis-requires-clause-no_svertex : goal.first_along_axis-requires-clause-no_svertex
first_along_axis-requires-clause-no_svertex c = λ k j v u a e b w. c.requires.off (meets_vertex k) (v, a, e)

pub returns-in_err-met-clause-none : goal.returns-in_err-met-clause-none
returns-in_err-met-clause-none c _ = none-met c.args.c.now c.args.h.now (hit_point c.args.p.now) c.requires.on (vector_of c.plane_axis-axis.result) c.plane_axis-axis.result.some c.plane_axis-axis.ensures.in_plane (c.in_err-met.ensures.none refl)

pub corner_toward-requires-clause-met : goal.corner_toward-requires-clause-met
corner_toward-requires-clause-met c = let I = c.in_ok-met.ensures.some in met-listed (complex_of c.args.c.now) (form_of c.args.h.now) (meet_of c.in_ok-met.met) I.place I.meets

pub corner_toward-requires-clause-level : goal.corner_toward-requires-clause-level
corner_toward-requires-clause-level c = subst (λ (v : Vector). dot (normal_of (form_of c.args.h.now)) v ≡ pos 0) (sym c.back.ensures.back) (level-of_opposite (normal_of (form_of c.args.h.now)) (vector_of c.plane_axis-axis.result) c.plane_axis-axis.ensures.in_plane)

pub returns-clause-flat : goal.returns-clause-flat
returns-clause-flat c = some-then _ _ _ c.corner_toward.result c.corner_toward.ensures.corner (λ k. found-flat c.args.c.now c.args.h.now (hit_point c.args.p.now) c.requires.on (vector_of c.plane_axis-axis.result) c.plane_axis-axis.result.some c.plane_axis-axis.ensures.in_plane
    (meet_of c.in_ok-met.met) c.in_ok-met.ensures.some (vector_of c.back.result) c.back.ensures.back c.requires.off (corner_of k))

pub returns-clause-corner : goal.returns-clause-corner
returns-clause-corner c = some-then _ _ _ c.corner_toward.result c.corner_toward.ensures.corner (λ k. found-corner c.args.c.now c.args.h.now (hit_point c.args.p.now) c.requires.on (vector_of c.plane_axis-axis.result) c.plane_axis-axis.result.some c.plane_axis-axis.ensures.in_plane
    (meet_of c.in_ok-met.met) c.in_ok-met.ensures.some (vector_of c.back.result) c.back.ensures.back
    c.requires.off c.plane_axis-axis.ensures.axis c.requires.shows.0 c.requires.shows.1 (corner_of k))

pub returns-clause-plane : goal.returns-clause-plane
returns-clause-plane c = some-then _ _ _ c.corner_toward.result c.corner_toward.ensures.corner (λ k. corner-normal (complex_of c.args.c.now) (form_of c.args.h.now) (vector_of c.back.result) (meet_of c.in_ok-met.met) (corner_of k))

pub returns-clause-none : goal.returns-clause-none
returns-clause-none c e = none-found c.args.c.now c.args.h.now (hit_point c.args.p.now) c.requires.on (vector_of c.plane_axis-axis.result) c.plane_axis-axis.result.some c.plane_axis-axis.ensures.in_plane
    (meet_of c.in_ok-met.met) c.in_ok-met.ensures.some (vector_of c.back.result) c.back.ensures.back
    (none-then _ _ c.corner_toward.result c.corner_toward.ensures.corner e)
