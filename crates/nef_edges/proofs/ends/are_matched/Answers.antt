use Rattle.nef_edges.proofs.Prelude.{refl, edge_between}
use Rattle.nef_edges.proofs.Checked.{ends-matched}
use Rattle.nef_edges.proofs.ends.are_matched.Goals as goal

pub returns : goal.returns
returns c =
    let x = c.args.low.now in let y = c.args.high.now in
    record {
      matched = λ t vs b a.
          ends-matched vs (edge_between x y.vertex_number y.svertex_number) x.vertex.now y.vertex.now x.svertex.now y.svertex.now a.vertex a.svertex b.vertex b.svertex c.if-low-high.false refl (c.is_matched.ensures.matched t);
    }
