use Rattle.tests_places.proofs.Prelude.{form_of, vector_of, hit_point, are-items}
use Rattle.nef_facets.proofs.WayInward.{small-back}
use Rattle.tests_places.proofs.Directions.{no-svertex_at}
use Rattle.tests_places.proofs.rays.met_against.Goals as goal

pub first_along_dir-requires-clause-items : goal.first_along_dir-requires-clause-items
first_along_dir-requires-clause-items c = are-items c.args.c.now (form_of c.args.h.now) c.plane_items.result c.plane_items.ensures.edges c.plane_items.ensures.vertices c.plane_items.ensures.peaks

pub first_along_dir-requires-clause-small : goal.first_along_dir-requires-clause-small
first_along_dir-requires-clause-small c = small-back (vector_of c.plane_dir-d.result) (vector_of c.back-e.result) c.back-e.ensures.back c.plane_dir-d.ensures.small.each

pub first_along_dir-requires-clause-no_svertex : goal.first_along_dir-requires-clause-no_svertex
first_along_dir-requires-clause-no_svertex c =
    let C = c.args.c.now in let v = c.at.result.now in
    no-svertex_at C c.args.vertex v c.at.ensures.element (hit_point c.hit_at-p.result) c.back-e.result c.hit_at-p.ensures.same (c.has_no_svertex.ensures.none c.if-has_no_svertex.true)
