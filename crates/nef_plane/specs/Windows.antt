-- Windows: spans of the points before what a ray met.
use Rattle.std.specs.Prelude.{Option, IfSome}
use Rattle.nef_complex.specs.Prelude.{MatchOption, IsInSpan}
use Rattle.nef_space.specs.Points.{SpacePoint, IsBetween}
use Rattle.law_geometry.specs.complex.Complexes.{Complex}
use Rattle.nef_index.specs.declared.spans.Span.{Span}
use Rattle.nef_plane.specs.declared.first.Met.{Met}
use Rattle.nef_plane.specs.Meets.{Encounter, IsMeetPoint}

-- the point lies outside the window, which there is
abbrev pub IsOutside : Option Span → SpacePoint → Type 0
IsOutside window y = MatchOption window ⊥ (λ s. IsInSpan s y → ⊥)

-- if there is a window, something was met, and the window holds each point between p and that
abbrev pub HoldsBefore : {X : Type 0} → (X → Encounter) → SpacePoint → Option X → Option Span → Type 0
HoldsBefore seen p best window = IfSome window (λ s. MatchOption best ⊥ (λ x. (y : SpacePoint) → IsBetween p y (seen x).at.place → IsInSpan s y))

-- if there is a window, it holds each point between a point of the span `from` and a point of what was met
abbrev pub IsWindowTo : {H : Type 0} → Complex → Option Span → Option (Met H) → Option Span → Type 0
IsWindowTo C from best window = (p : SpacePoint) → IfSome from (λ s. IsInSpan s p) → IfSome window (λ s. MatchOption best ⊥ (λ x. (q y : SpacePoint) → IsMeetPoint C x.meet q → IsBetween p y q → IsInSpan s y))
