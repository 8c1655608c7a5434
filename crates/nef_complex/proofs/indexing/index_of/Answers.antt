use Rattle.nef_complex.proofs.Prelude.{List, length, refl, sym, subst, Span, IndexedLists, AreAlone}
use Rattle.nef_index.specs.Index.{AreGiven}
use Rattle.nef_complex.proofs.Pointed.{rows-points, spans-points, ends-points}
use Rattle.nef_complex.proofs.indexing.index_of.Goals as goal

pub of-requires : goal.of-requires
of-requires g c =
    let vs = c.args.vertices.now in let es = c.args.edges.now in let spans : List Span = c.from_vec-points.result in
    subst (λ (x : IndexedLists). AreGiven x (length c.args.carriers.now) es c.args.at_vertex spans) (sym c.requires.0)
    (record {
      count = refl;
      edges = refl;
      ends = ends-points vs es c.requires.1.1;
      rows = rows-points c.args.carriers.now vs c.args.at_vertex c.requires.1.0;
      spans = spans-points vs spans (subst (AreAlone vs) (sym c.from_vec-points.ensures.all) c.in_ok-vertex_spans.ensures.alone);
    })
