-- The names that most clauses cite, passed on from one place. Declares nothing.
pub use Rattle.nef_geo.specs.Prelude.{IfOk, IfSome, IsAt, IsTrue, List, OnOk, SpacePoint, length, nat_abs, point_limit, point_of, pos, ℕ}
pub use Rattle.nef_index.specs.Common.{AreCommon, AreCommonRows, DoAllRise, HasAdded, HaveRows}
pub use Rattle.nef_index.specs.Counting.{AreNumbersBelow, AreRanks, AreRowsByRank, HaveCounts, StandsFor}
pub use Rattle.nef_index.specs.Groups.{AreKeyed, IsInCluster, IsInGroup, IsWide, StandsIn}
pub use Rattle.nef_index.specs.Index.{AreCarrierPoints, AreCarrierSpans, AreClusters, ArePointSpans}
pub use Rattle.nef_index.specs.Numbers.{AreNumbersOf, AreNumbersWith, AreRowsOfOnce, DoRise, HasNumber}
pub use Rattle.nef_index.specs.Peaks.{ArePeaks, EndBelow, HavePeaks, block_start}
pub use Rattle.nef_index.specs.Skeleton.{IndexedLists}
pub use Rattle.nef_index.specs.Spans.{AreNarrower, AreNarrowerListed, AreSmallBounds, DoOverlap, HaveCommon, IsInSpan, IsNarrower}
pub use Rattle.nef_index.specs.Tables.{AreRowEnds}
pub use Rattle.nef_index.specs.declared.groups.Cluster.{Cluster}
pub use Rattle.nef_index.specs.declared.groups.Group.{Group}
pub use Rattle.nef_index.specs.declared.skeleton.Edge.{Edge}
