-- Numbers within bounds and within the frame's, and points strictly within the sides of a window.
use Rattle.std.specs.Prelude.{◌*◌, ◌≤◌, ◌*ℤ◌, ◌<ℤ◌, ◌≤ℤ◌}
use Rattle.nef_space.specs.Prelude.{ℤ, pos, nat_abs, half_side, SpacePoint}
use Rattle.law_geometry.specs.complex.Spans.{Coordinate, coordinate_of, coordinate_y, coordinate_z}
use Rattle.nef_index.specs.declared.spans.Bounds.{Bounds}
use Rattle.nef_index.specs.declared.spans.Span.{Span}

-- n/w lies within the bounds and is at most the frame's half side in size
abbrev pub LiesBetween : Bounds → ℤ → ℤ → Type 0
LiesBetween b n w = (nat_abs n ≤ half_side * nat_abs w) × ((b.low *ℤ w) ≤ℤ n) × (n ≤ℤ (b.high *ℤ w))

-- the coordinate of the point lies within the bounds and within those of the closed frame
abbrev pub IsFramedIn : Coordinate → Bounds → SpacePoint → Type 0
IsFramedIn c b p = LiesBetween b (coordinate_of c p) (pos p.w)

-- the coordinate of the point lies strictly within the bounds
abbrev pub IsInsideBounds : Coordinate → Bounds → SpacePoint → Type 0
IsInsideBounds c b p = ((b.low *ℤ pos p.w) <ℤ coordinate_of c p) × (coordinate_of c p <ℤ (b.high *ℤ pos p.w))

-- y and z of the point lie strictly within the window's bounds
abbrev pub IsAmidWindow : Span → SpacePoint → Type 0
IsAmidWindow w p = IsInsideBounds coordinate_y w.y p × IsInsideBounds coordinate_z w.z p
