-- The names that most clauses cite, passed on from one place. Declares nothing.
pub use Rattle.nef_complex.specs.Prelude.{AreAlone, Bool, Form, IfOk, InFrame, IsAt, IsNarrower, IsPointBelow, IsTrue, IsVertex, IsVertexOfBoth, List, MatchOption, OnOk, SamePlane, SamePoint, Set, IsIndexed, ShowsSet, SpacePoint, [], complex_of, form_at, form_of, length, map, min, point_of, pos, take, ℕ}
pub use Rattle.nef_index.specs.declared.skeleton.Edge.{Edge}
pub use Rattle.nef_complex.specs.declared.complex.Vertex.{Vertex}
pub use Rattle.nef_index.specs.declared.spans.Span.{Span}
pub use Rattle.nef_cand.specs.Candidates.{AreCandidates, AreCutCandidates, AreFramed, IsCutBy, IsListed, IsVertexOf}
pub use Rattle.nef_cand.specs.Names.{AreNamedInOrder, IsNamedBetween, IsNamedIn, IsOnceEach, named_point}
pub use Rattle.nef_cand.specs.Near.{AreMergedTo, ArePassed, AreSpannedCarriers, AreSpannedIn, AreThoseNear, AreWithinSpan, CutsBy, CutsEdgeByOne, CutsEdgeHeldOne, CutsHeld, HasBothVertices, HasTogether, HasVertices, IsApart, IsHeldCutOf, ListsCuts, ListsNear, MayBeCut}
pub use Rattle.nef_cand.specs.Points.{AddsAll, AddsPoints, CutsEdge, CutsOne, HasBoth, MissesFrame, points_of}
pub use Rattle.nef_cand.specs.declared.named.Named.{Named}
pub use Rattle.nef_cand.specs.declared.named.Operand.TheVariants.{First, Second}
