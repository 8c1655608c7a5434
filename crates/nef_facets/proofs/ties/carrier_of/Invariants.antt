use Rattle.nef_facets.proofs.Prelude.{ℕ, ◌<◌, length, point_of, vector_of, IsAt}
use Rattle.std.specs.Prelude.{◌-◌}
use Rattle.nef_complex.specs.declared.complex.Vertex.{Vertex}
use Rattle.nef_facets.proofs.ItemCarriers.{CarriesWith}
use Rattle.nef_facets.proofs.ties.carrier_of.Given as goal

abbrev pub invariant-loop-normal : goal.invariant-loop-normal
invariant-loop-normal l = (l.place < length l.holders) × ((j k : ℕ) → j < l.place → IsAt l.holders j k → (u : Vertex) × IsAt l.c.vertices l.k.vertex u × CarriesWith l.c (point_of u.point) (vector_of l.normal) k → ⊥)

abbrev pub decreases-loop-normal : goal.decreases-loop-normal
decreases-loop-normal l = length l.holders - l.place
