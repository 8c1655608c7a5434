use Rattle.nef_edges.proofs.Prelude.{List, subst, IsAt, SVertex}
use Rattle.nef_edges.proofs.ends.end_at.Goals as goal
use Rattle.nef_space.proofs.Lists.{is-at_read}

pub returns-clause-end : goal.returns-clause-end
returns-clause-end c =
    let vs = c.args.vertices.now in
    let v = c.in_ok-vertex.vertex.now in let s = c.in_ok-svertex.svertex.now in
    let a = c.in_ok-vertex.ensures.lookup.3 in let b = c.in_ok-svertex.ensures.lookup.3 in
    record {
      vertex = is-at_read vs c.args.vertex_number v a.0 (a.1 v);
      svertex = subst (λ (ss : List SVertex). IsAt ss c.args.svertex_number s) c.as_slice.ensures.all (is-at_read c.as_slice.result.now c.args.svertex_number s b.0 (b.1 s));
    }
