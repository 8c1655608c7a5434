use Rattle.nef_volumes.proofs.Prelude.{◌≤◌, List, ◌∷◌, length, map, ap, ◌∙◌, subst, take_all, vertex_of, count_sides}
use Rattle.nef_complex.specs.declared.complex.Vertex.{Vertex}
use Rattle.nef_volumes.proofs.numbers.side_counts.Goals as goal

pub returns : goal.returns
returns c = record {
  counts = c.loop-vertex.invariant ∙ ap (λ (us : List Vertex). 1 ∷ map count_sides (map vertex_of us)) (take_all c.loop-vertex.vertex-index c.args.c.now.vertices (subst (λ (us : List Vertex). length us ≤ c.loop-vertex.vertex-index) c.as_slice-vertex-items.ensures.all c.loop-vertex-test.false));
}
