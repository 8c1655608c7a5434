use Rattle.tests_places.proofs.Prelude.{form_of, hit_point, complex_of, meets-on}
use Rattle.tests_places.proofs.rays.add_corner.Goals as goal

pub in_facet-requires-clause-off : goal.in_facet-requires-clause-off
in_facet-requires-clause-off c = λ m e. c.in-Some.ensures.off (meets-on c.requires.shows.0 (complex_of c.args.c.now) c.requires.shows.1.shows (form_of c.args.h.now) m (hit_point c.in-Some.q) e)
