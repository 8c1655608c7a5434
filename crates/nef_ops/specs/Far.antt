-- Regions of the open frame past the sides of a span of a set's skeleton, in each of which the set has one label.
use Rattle.std.specs.Prelude.{◌≡◌, ◌*ℤ◌, ◌<ℤ◌, ◌≤ℤ◌, ◌⊎◌, ℕ, ℤ, pos, IfSome, List}
use Rattle.nef_complex.specs.Prelude.{HasLabel, FlatDim, SpacePoint, Form, form_at, InFrame, Set, Label, point_of, Point, IsAt, IsSkeletonPoint, complex_of, ShowsSet, IsInSpan}
use Rattle.law_geometry.specs.complex.Spans.{Coordinate, coordinate_of, coordinate_x, coordinate_y, coordinate_z}
use Rattle.nef_complex.specs.declared.complex.Complex.{Complex}
use Rattle.nef_index.specs.declared.spans.Span.{Span}
use Rattle.nef_ops.specs.declared.regions.Axis.{Axis}
use Rattle.nef_ops.specs.declared.regions.Axis.TheVariants.{X, Y, Z}
use Rattle.nef_ops.specs.declared.regions.SpanEnd.{SpanEnd}
use Rattle.nef_ops.specs.declared.regions.SpanEnd.TheVariants.{Below, Above}
use Rattle.nef_ops.specs.declared.regions.SpanSide.{SpanSide}
use Rattle.nef_ops.specs.declared.regions.Region.{Region}

-- ---- the skeleton
-- the plane holds a point of the open frame
abbrev pub MeetsFrame : Form → Type 0
MeetsFrame f = (y : SpacePoint) × InFrame y × (form_at f y ≡ pos 0)

-- the points of the skeleton in the open frame lie in the span
abbrev pub HoldsSkeleton : Complex → Span → Type 0
HoldsSkeleton c span = (s : Set) (y : SpacePoint) → ShowsSet s c → InFrame y → IsSkeletonPoint (complex_of c) y → IsInSpan span y

-- ---- sides
abbrev pub axis_coordinate : Axis → Coordinate
axis_coordinate X = coordinate_x
axis_coordinate Y = coordinate_y
axis_coordinate Z = coordinate_z

-- n/w lies strictly past the end
abbrev pub IsPastEnd : SpanEnd → ℤ → ℤ → ℤ → Type 0
IsPastEnd Below end n w = n <ℤ (end *ℤ w)
IsPastEnd Above end n w = (end *ℤ w) <ℤ n

-- n/w lies at the end or before the end
abbrev pub IsWithinEnd : SpanEnd → ℤ → ℤ → ℤ → Type 0
IsWithinEnd Below end n w = (end *ℤ w) ≤ℤ n
IsWithinEnd Above end n w = n ≤ℤ (end *ℤ w)

abbrev pub IsPast : SpanSide → SpacePoint → Type 0
IsPast side p = IsPastEnd side.way side.end (coordinate_of (axis_coordinate side.axis) p) (pos p.w)

-- the point lies in the open frame, past the side
abbrev pub IsFar : SpanSide → SpacePoint → Type 0
IsFar side p = InFrame p × IsPast side p

-- each of the points in the open frame is a skeleton point, or lies in the span
abbrev pub AreHeldBySpan : Complex → Span → List Point → Type 0
AreHeldBySpan c span ps = (k : ℕ) (p : Point) → IsAt ps k p → InFrame (point_of p) → IsSkeletonPoint (complex_of c) (point_of p) ⊎ IsInSpan span (point_of p)

-- ---- labels
-- the set has the label at the point and at all close points
abbrev pub IsUniform : Set → SpacePoint → Label → Type 0
IsUniform s p l = HasLabel s p l × FlatDim s p 3

abbrev pub IsUniformIn : Complex → SpacePoint → Label → Type 0
IsUniformIn c p l = (s : Set) → ShowsSet s c → IsUniform s p l

-- where the region has a label, all its points have that label
abbrev pub IsTold : Complex → Region → Type 0
IsTold c r = IfSome r.label (λ (l : Label). (p : SpacePoint) → IsFar r.side p → IsUniformIn c p l)

abbrev pub AreTold : Complex → List Region → Type 0
AreTold c regions = (k : ℕ) (r : Region) → IsAt regions k r → IsTold c r

-- with so many points labels of regions are looked for
abbrev pub many_points : ℕ
many_points = 64
