use Rattle.tests_places.proofs.Prelude.{rules, subst, IsAt, is-at_one, Vertex}
use Rattle.tests_places.proofs.rays.is_clear_vertex.Goals as goal

pub returns-else-not-is_at_vertex : goal.returns-else-not-is_at_vertex
returns-else-not-is_at_vertex c = record {
  clear = λ h v a x j u b e.
      let C = c.args.c.now in let w = c.at.result.now in
      let o = is-at_one C.vertices c.args.number v w a c.at.ensures.element in
      c.has_svertex.ensures.none (search (rules, h)) j u (subst (λ (r : Vertex). IsAt r.map.svertices j u) o b) e;
}
