use Rattle.nef_result.proofs.Prelude.{◌∙◌, sym, subst, IsVertex, Cone, map_of, IsLeastMap, SphereMap}
use Rattle.nef_star.proofs.Needed.{true_or_false}
use Rattle.nef_result.proofs.Vertices.{vertex-flat, flat-vertex}
use Rattle.nef_result.proofs.outcome.Outcome.of.Goals as goal

pub returns-then-not-is_vertex : goal.returns-then-not-is_vertex
returns-then-not-is_vertex c = record {
  outcome = λ us vs s p K v. true_or_false (sym (c.is_vertex.ensures.vertex.1 (flat-vertex (map_of c.args.map) s p c.requires.least.least K v)) ∙ c.if-not-is_vertex.true);
}

pub returns : goal.returns
returns c = record {
  outcome = λ us vs s p K. subst (λ (m : SphereMap). IsVertex s p × IsLeastMap m × Cone (map_of m) s p) (sym c.in_ok-map.ensures.ok)
      (vertex-flat (map_of c.args.map) s p c.requires.least.least K (c.is_vertex.ensures.vertex.0 c.if-not-is_vertex.false), c.requires.least, K);
}
