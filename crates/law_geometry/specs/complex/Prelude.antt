-- The names that most clauses cite, passed on from one place. Declares nothing.
pub use Rattle.law_geometry.specs.complex.Belongs.{Belongs}
pub use Rattle.law_geometry.specs.complex.Complexes.{Complex, Corner, Edge, Edges, HasEnds, IsCorner, Vertex}
pub use Rattle.law_geometry.specs.complex.Laws.{IsSkeletonIn}
pub use Rattle.law_geometry.specs.complex.Rays.{HasSideLabel, HasVolumeSide, RayDown, VertexSide}
pub use Rattle.law_geometry.specs.complex.Shows.{Shows}
pub use Rattle.law_geometry.specs.complex.Skeleton.{HasCorner, IsEdgePoint, IsVertexPoint, PlaneMeet, RayNames, meets_edge, meets_vertex}
