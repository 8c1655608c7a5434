use Rattle.nef_unique.proofs.Prelude.{List, ap, map, Vertex, vertex_of, complex_of}
use Rattle.nef_unique.proofs.Sets.{vertices-set}
use Rattle.nef_unique.proofs.Vertices.{set-vertices}
use Rattle.nef_unique.proofs.comparison.compare.Goals as goal

pub returns : goal.returns
returns c =
    let a = c.args.a.now in
    let b = c.args.b.now in
    record {
      same = λ s t S T. (
        λ h. vertices-set s t (complex_of a) (complex_of b) S.shows T.shows (ap (λ (r : List Vertex). map vertex_of r) (c.same_vertices.ensures.same.0 h)),
        λ e. c.same_vertices.ensures.same.1 (set-vertices s t a b S.shows T.shows e).0,
      );
    }
