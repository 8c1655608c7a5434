-- The names that most clauses cite, passed on from one place. Declares nothing.
pub use Rattle.nef_geo.specs.Prelude.{All, IfOk, IsAt, IsAtMost, IsParallel, IsTrue, OnOk, [], drop, label_number, length, slice_index_or, svertex_limit, take, vector_of, ℕ}
pub use Rattle.law_geometry.specs.sphere.cyclic.Arcs.{IsOnCircle}
pub use Rattle.law_geometry.specs.sphere.Stars.{IsPlain, IsSimplified, IsStraight}
pub use Rattle.nef_star.specs.Laws.{EachHasOneLabel}
pub use Rattle.nef_star.specs.Lines.{IsCrossed, IsFourRays, IsOnAxis}
pub use Rattle.nef_star.specs.Ops.{op_label}
pub use Rattle.nef_star.specs.Rounds.{ArcEnd, AreTwoWays, EndsAreApart, HasWays, IsEnded, IsRound, IsWhole}
pub use Rattle.nef_star.specs.Stars.{AreAlternate, AreStraight, BeginsAnywhere, HasLeft, IsCombined, IsCombinedAt, IsCountedFrom, IsLeftCombined, IsNeedless, IsRay, IsRayBelow, IsRayTried, IsStar, IsWithRay, KeepsLabels, LeftAfter, LeftGives, LeftPast, LeftUnder, NoneNeedless, left_at, left_of, star_of}
pub use Rattle.nef_star.specs.Turning.{IsNext}
pub use Rattle.nef_star.specs.declared.star.Star.{Star}
