-- The names that most clauses cite, passed on from one place. Declares nothing.
pub use Rattle.nef_smap.specs.Prelude.{IsSide, MatchOption, sides_of}
pub use Rattle.nef_complex.specs.Prelude.{Corner, IfOk, InFrame, IsAt, IsParts, IsTrue, IsVolumeOf, Joined, List, OnOk, Out, Set, SfaceNumbers, ShowsSet, Side, VolumeNumbers, complex_of, corner_of, count_items, length, map, point_of, ℕ}
pub use Rattle.nef_facets.specs.Prelude.{Adds, Any, AreTied, AreTiedWithin, FacetLink, HasItem, cell_of, map_of}
pub use Rattle.law_geometry.specs.complex.links.Links.{LinkInSface, LinkOutside}
pub use Rattle.nef_classes.specs.Tables.{AreNumbers, HasCounts, IsCellIn}
pub use Rattle.nef_classes.specs.declared.table.Tie.{Tie}
pub use Rattle.nef_complex.specs.declared.parts.Cycle.{Cycle}
pub use Rattle.nef_volumes.specs.Joining.{AreNumberLinks, AreRenumbered, HaveNumbers, IsRenumbered, TableIsBelow}
pub use Rattle.nef_volumes.specs.Joins.{AreCounted, FacetsAreComponents, IsPartAt, VolumesAreComponents}
pub use Rattle.nef_volumes.specs.Labels.{AreLabelsTo, AreVolumeLabels, HasAppeared}
pub use Rattle.nef_volumes.specs.Parts.{AreFacetPieces, AreFacetsOf, ArePieces, AreVolumesOf, HasFirst, side_beside}
pub use Rattle.nef_volumes.specs.Shells.{AreGathered, AreNumberedNames, AreShellRows, AreShellsOf, HaveVolumes, IsPut}
pub use Rattle.nef_volumes.specs.Ties.{AddsInSfaces, AreDownBetween, AreItemTies, AreTiedOutside, AreTiesDown, AreTiesOf, AreTiesWithOutside, Finds, HasNoLinkDown, HasSfaces, HasSvertex, IsAroundCell, IsFirstNumber, IsItemSide, IsSideTie, IsTieDown, IsTieOfEnds, IsTieOutside, LinkOfEnds, row_counts, side_cell}
