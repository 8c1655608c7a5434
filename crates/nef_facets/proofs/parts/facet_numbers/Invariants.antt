use Rattle.nef_facets.proofs.Prelude.{◌≡◌, map, take, vertex_of, count_items}
use Rattle.nef_facets.proofs.parts.facet_numbers.Given as goal

abbrev pub invariant-loop-vertex : goal.invariant-loop-vertex
invariant-loop-vertex l = l.counts.items ≡ map count_items (map vertex_of (take l.vertex-index l.c.vertices))
