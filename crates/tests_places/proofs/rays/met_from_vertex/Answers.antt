use Rattle.tests_places.proofs.Prelude.{◌≡◌, rules, sym, ◌∙◌, inl, inr, form_at, normal_of, plane_dir, form_of, hit_point, vector_of, Zero, zero_sign, are-items, SameDirection-turned}
use Rattle.tests_places.proofs.Directions.{no-svertex_at}
use Rattle.tests_places.proofs.rays.met_from_vertex.Goals as goal

pub first_along_dir-requires-clause-items : goal.first_along_dir-requires-clause-items
first_along_dir-requires-clause-items c = are-items c.args.c.now (form_of c.args.h.now) c.plane_items.result c.plane_items.ensures.edges c.plane_items.ensures.vertices c.plane_items.ensures.peaks

pub first_along_dir-requires-clause-no_svertex : goal.first_along_dir-requires-clause-no_svertex
first_along_dir-requires-clause-no_svertex c =
    let C = c.args.c.now in let v = c.at.result.now in
    no-svertex_at C c.args.vertex v c.at.ensures.element (hit_point c.hit_at-p.result) c.plane_dir-d.result c.hit_at-p.ensures.same (c.has_no_svertex.ensures.none (search (rules, c.if-not-has_no_svertex.false)))

pub first_in_plane-requires-clause-on : goal.first_in_plane-requires-clause-on
first_in_plane-requires-clause-on c =
    let z : c.hit_side.result ≡ Zero = search (rules, c.if-eq.true) in
    zero_sign (form_at (form_of c.args.h.now) (hit_point c.hit_at-p.result)) (sym c.hit_side.ensures.side ∙ z)

pub first_in_plane-requires-clause-off : goal.first_in_plane-requires-clause-off
first_in_plane-requires-clause-off c = inl (c.args.vertex, c.is_at_vertex.ensures.at.0 c.if-is_at_vertex.true)

pub first_in_plane-requires-clause-direction : goal.first_in_plane-requires-clause-direction
first_in_plane-requires-clause-direction c =
    inr ((c.args.vertex, c.is_at_vertex.ensures.at.0 c.if-is_at_vertex.true), inl (SameDirection-turned (plane_dir (normal_of (form_of c.args.h.now))) (vector_of c.plane_dir-d.result) c.plane_dir-d.ensures.dir))
