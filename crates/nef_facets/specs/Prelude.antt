-- The names that most clauses cite, passed on from one place. Declares nothing.
pub use Rattle.nef_smap.specs.Prelude.{arc_of, map_of}
pub use Rattle.nef_complex.specs.Prelude.{Corner, FacetNumbers, IfOk, IsAt, IsFacetOf, IsTrue, Leads, OnOk, Plane, Set, ShowsSet, complex_of, corner_of, count_items, edge_of, false, length, map, vector_of, ℕ}
pub use Rattle.law_geometry.specs.complex.Complexes.{Complex, Edge}
pub use Rattle.law_geometry.specs.complex.links.Links.{FacetLink, LinkAcross, LinkAlong}
pub use Rattle.nef_classes.specs.Tables.{AreTied, AreTiedWithin}
pub use Rattle.nef_facets.specs.Carriers.{HasItem, IsPlaneAt}
pub use Rattle.nef_facets.specs.Corners.{AreCorners, AreListed, StandFrom, corners_at}
pub use Rattle.nef_facets.specs.Facets.{AreCyclesOf, AreFirsts, AreMarksAt, ArePlanesAt, IsFacetParts}
pub use Rattle.nef_facets.specs.Next.{AreNext, HaveNextFrom, IsArcInto, KeepsNext}
pub use Rattle.nef_facets.specs.Orbits.{AreCornersOf, AreCycleRows, AreMarked, AreNumberedOrbits, AreOrbits, ComesBack, IsClosedUnderSteps, IsStep}
pub use Rattle.nef_facets.specs.Ties.{Adds, Any, BeginAndEnd, IsLinkedFrom, IsTieAcross, IsTieFromArc, IsTieOfEdge, cell_of}
