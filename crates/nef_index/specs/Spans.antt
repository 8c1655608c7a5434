-- Spans: boxes with whole numbers as bounds.
use Rattle.std.specs.Prelude.{◌<◌, ◌≤◌, ◌≤ℤ◌}
use Rattle.nef_geo.specs.Prelude.{ℕ, nat_abs, List, point_limit, IsAt, SpacePoint}
use Rattle.law_geometry.specs.complex.Spans.{coordinate_x, coordinate_y, coordinate_z, IsWithin}
use Rattle.nef_index.specs.declared.spans.Bounds.{Bounds}
use Rattle.nef_index.specs.declared.spans.Span.{Span}

-- the coordinates of the point lie within the span's bounds
abbrev pub IsInSpan : Span → SpacePoint → Type 0
IsInSpan s p = IsWithin coordinate_x s.x.low s.x.high p × IsWithin coordinate_y s.y.low s.y.high p × IsWithin coordinate_z s.z.low s.z.high p

-- what lies within the bounds a lies within the bounds b
abbrev pub AreNarrower : Bounds → Bounds → Type 0
AreNarrower a b = (b.low ≤ℤ a.low) × (a.high ≤ℤ b.high)

-- what lies within the span s lies within the span t
abbrev pub IsNarrower : Span → Span → Type 0
IsNarrower s t = AreNarrower s.x t.x × AreNarrower s.y t.y × AreNarrower s.z t.z

-- the bounds are at most as large in size as a point's numbers
abbrev pub AreSmallBounds : Bounds → Type 0
AreSmallBounds b = (nat_abs b.low ≤ point_limit) × (nat_abs b.high ≤ point_limit)

-- the two bounds have a number in common
abbrev pub HaveCommon : Bounds → Bounds → Type 0
HaveCommon a b = (a.low ≤ℤ b.high) × (b.low ≤ℤ a.high)

-- the bounds of the two spans have a number in common in each coordinate
abbrev pub DoOverlap : Span → Span → Type 0
DoOverlap s t = HaveCommon s.x t.x × HaveCommon s.y t.y × HaveCommon s.z t.z

-- the spans with the first n of these numbers are at most as wide as s
abbrev pub AreNarrowerListed : List Span → List ℕ → ℕ → Span → Type 0
AreNarrowerListed spans ns n s = (i k : ℕ) (t : Span) → i < n → IsAt ns i k → IsAt spans k t → IsNarrower t s
