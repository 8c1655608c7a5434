-- The names that most clauses cite, passed on from one place. Declares nothing.
pub use Rattle.nef_geo.specs.Prelude.{All, IfOk, IsAtMost, IsDirection, IsPermutation, IsTrue, List, MatchOption, MatchOrdering, OnOk, Set, SpacePoint, Vector, [], dot, length, map, normal_limit, pos, true, vector_of, ℕ}
pub use Rattle.nef_star.specs.Prelude.{IsStraight}
pub use Rattle.nef_smap.specs.Prelude.{IsAt, IsLeastMap, IsStar, MapLabel, arc_of, map_of, star_of}
pub use Rattle.law_geometry.specs.sphere.Kinds.{IsInFacet, IsInVolume, IsOnEdge}
pub use Rattle.law_geometry.specs.sphere.Labelling.{ByOp}
pub use Rattle.law_geometry.specs.sphere.Least.{Cone, InOrder, Least, Ordered, SameLabels}
pub use Rattle.law_geometry.specs.sphere.Maps.{Map, Valid}
pub use Rattle.law_geometry.specs.sphere.Raw.{IsBare, IsLabelling, IsRawOf}
pub use Rattle.law_geometry.specs.sphere.building.From.{IsArcFrom, IsFirstAfter, around_of, svertex_at}
pub use Rattle.law_geometry.specs.sphere.building.Overlays.{Raw}
pub use Rattle.nef_smap.specs.Maps.{IsRawStars, raw_of, sloop_of, svertex_of}
pub use Rattle.nef_spair.specs.Arcs.{AreApart, AreArcs, AreTwoEnds, IsArcBelow, IsTwin, LeavesAlong}
pub use Rattle.nef_spair.specs.Kinds.{IsKind, KindFits}
pub use Rattle.nef_spair.specs.Made.{IsMadeOfSimple}
pub use Rattle.nef_spair.specs.Pieces.{AreAllKept, AreCircles, AreOthers, AreSimple, IsBareCircle, IsChosen, IsCircleOf, IsDropped, IsGroundOf, IsProperCircle}
