use Rattle.nef_volumes.proofs.Prelude.{◌≡◌, ◌∷◌, map, take, vertex_of, count_sides}
use Rattle.nef_volumes.proofs.numbers.side_counts.Given as goal

abbrev pub invariant-loop-vertex : goal.invariant-loop-vertex
invariant-loop-vertex l = l.counts.items ≡ 1 ∷ map count_sides (map vertex_of (take l.vertex-index l.c.vertices))
