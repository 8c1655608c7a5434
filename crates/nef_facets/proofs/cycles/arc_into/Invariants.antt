use Rattle.nef_facets.proofs.Prelude.{◌≡◌, ℕ, ◌<◌, length, SameDirection, vector_of, IsAt, Arc, map_of}
use Rattle.std.specs.Prelude.{◌-◌}
use Rattle.nef_facets.proofs.cycles.arc_into.Given as goal

abbrev pub invariant-loop-arc : goal.invariant-loop-arc
invariant-loop-arc l = (l.number < length l.arcs) × ((k : ℕ) → k < l.number → (a : Arc) → IsAt (map_of l.map).arcs k a → (a.target ≡ l.svertex) × SameDirection (vector_of l.normal) a.normal → ⊥)

abbrev pub decreases-loop-arc : goal.decreases-loop-arc
decreases-loop-arc l = length l.arcs - l.number
