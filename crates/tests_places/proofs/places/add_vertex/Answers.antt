use Rattle.tests_places.proofs.Prelude.{vertices-sorted}
use Rattle.tests_places.proofs.places.add_vertex.Goals as goal

pub vertex_at-requires : goal.vertex_at-requires
vertex_at-requires c = let S = c.requires.shows in record { sorted = vertices-sorted S.0 c.args.c.now S.1 }
