-- Arcs of a plane beside an edge.
use Rattle.nef_space.specs.Prelude.{ℕ, Vector, SameDirection, IsAt}
use Rattle.law_geometry.specs.sphere.Maps.{Arc}
use Rattle.law_geometry.specs.complex.Complexes.{Vertex, Edge, Complex}
use Rattle.law_geometry.specs.complex.Skeleton.{PlaneMeet, meets_vertex, meets_edge, IsArcOnSide}

-- the arc with this number has the normal n and leaves svertex s on the side to which d points
abbrev pub IsArcBeside : Vertex → ℕ → Vector → Vector → ℕ → Type 0
IsArcBeside v s n d k = (a : Arc) × IsAt v.map.arcs k a × SameDirection a.normal n × IsArcOnSide v s n d a

-- the complex has the vertex or the edge with this number
abbrev pub HasMet : Complex → PlaneMeet → Type 0
HasMet C (meets_vertex k) = (v : Vertex) × IsAt C.vertices k v
HasMet C (meets_edge k) = (e : Edge) × IsAt C.edges k e
