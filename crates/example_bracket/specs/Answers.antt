-- Answers about a set, and about the parts of a complex.
use Rattle.std.specs.Prelude.{◌≡◌, ℕ, Bool, true, false, length, nat_lt}
use Rattle.nef_complex.specs.Prelude.{IsAt, SpacePoint, Set, Vector, Label, Out, Not, In, Point}
use Rattle.nef_complex.specs.declared.complex.Complex.{Complex}
use Rattle.nef_index.specs.declared.skeleton.Edge.{Edge}
use Rattle.nef_complex.specs.declared.complex.Vertex.{Vertex}
use Rattle.nef_complex.specs.declared.parts.Facet.{Facet}
use Rattle.nef_conn.specs.Components.{HasComponents}
use Rattle.nef_ray.specs.Ends.{IsRayEnd}
use Rattle.example_bracket.specs.declared.read.Counts.{Counts}

-- the label along the ray from p along d first changes where the ray leaves the frame
abbrev pub IsRayClear : Set → SpacePoint → Vector → Type 0
IsRayClear s p d = (q : SpacePoint) × (after : Bool) × IsRayEnd s p d q after Out

-- the numbers of connected components of the points with no, one, two and three flat directions
pub record HasComponentCounts (s : Set) (n : Counts) : Type 0 where
  pub vertices : HasComponents s 0 n.vertices
  pub edges : HasComponents s 1 n.edges
  pub facets : HasComponents s 2 n.facets
  pub volumes : HasComponents s 3 n.volumes

-- the vertex with the number k lies at p
abbrev pub IsPointOf : Complex → ℕ → Point → Type 0
IsPointOf c k p = (v : Vertex) × IsAt c.vertices k v × (v.point ≡ p)

-- the lower end of the edge with the number n lies at p, the higher end at q
abbrev pub HasEdgeEnds : Complex → ℕ → Point → Point → Type 0
HasEdgeEnds c n p q = (e : Edge) × IsAt c.edges n e × IsPointOf c e.low p × IsPointOf c e.high q

-- at least two cycles bound the facet
abbrev pub has_hole : Facet → Bool
has_hole f = nat_lt 1 (length f.cycles)

abbrev pub is_within : Label → Bool
is_within In = true
is_within Not = false
is_within Out = false
