-- Bounds on the vertices of a plane, which hold on its edges and facets, and how close points of a vertical ray lie.
use Rattle.std.specs.Prelude.{◌≡◌, ◌*◌, ◌^◌, ◌-ℤ◌, ◌*ℤ◌, ◌<ℤ◌, ◌≤ℤ◌}
use Rattle.nef_space.specs.Prelude.{ℕ, ℤ, pos, SpacePoint, Form, form_at, InClosedFrame, IsAhead, opposite, up, Set, IsAt}
use Rattle.law_geometry.specs.complex.Complexes.{Vertex, Complex}
use Rattle.law_geometry.specs.complex.Shows.{Shows}
use Rattle.law_geometry.specs.complex.Skeleton.{IsVertexPoint, IsEdgePoint, LiesIn}
use Rattle.law_geometry.specs.complex.Laws.{IsFlatIn}

-- ---- in a plane
-- P holds at each vertex of C that lies on the plane h
abbrev pub EachVertexOn : Complex → Form → (SpacePoint → Type 0) → Type 0
EachVertexOn C h P = (k : ℕ) (v : Vertex) → IsAt C.vertices k v → form_at h v.point ≡ pos 0 → P v.point

-- P holds at each vertex on the plane, at each point of an edge with both ends on the plane, and in each facet of it
abbrev pub EachPointOn : Set → Complex → Form → (SpacePoint → Type 0) → Type 0
EachPointOn s C h P = ((k : ℕ) (y : SpacePoint) → IsVertexPoint C k y → form_at h y ≡ pos 0 → P y)
    × ((k : ℕ) (y : SpacePoint) → IsEdgePoint C k y → LiesIn C h k → P y)
    × ((y : SpacePoint) → form_at h y ≡ pos 0 → IsFlatIn s h y → P y)

-- the form f is at most nought at the point p
abbrev pub IsAtMostNought : Form → SpacePoint → Type 0
IsAtMostNought f p = form_at f p ≤ℤ pos 0

-- a form that is at most nought at the vertices of a plane is at most nought at all its edge points and facet points
abbrev pub PlaneBounded : Type 0
PlaneBounded = (s : Set) (C : Complex) (h f : Form) → Shows s C
    → EachVertexOn C h (IsAtMostNought f) → EachPointOn s C h (IsAtMostNought f)

pub data Coordinate : Type 0 where
  coordinate_x coordinate_y coordinate_z : Coordinate

-- the numerator of a coordinate of the point: the coordinate times the weight
abbrev pub coordinate_of : Coordinate → SpacePoint → ℤ
coordinate_of coordinate_x p = p.x
coordinate_of coordinate_y p = p.y
coordinate_of coordinate_z p = p.z

-- low <= the point's coordinate <= high
abbrev pub IsWithin : Coordinate → ℤ → ℤ → SpacePoint → Type 0
IsWithin c low high p = ((low *ℤ pos p.w) ≤ℤ coordinate_of c p) × (coordinate_of c p ≤ℤ (high *ℤ pos p.w))

-- whole numbers that bound a coordinate at the vertices of a plane bound it at all its edge points and facet points
abbrev pub PlaneWithin : Type 0
PlaneWithin = (s : Set) (C : Complex) (h : Form) (c : Coordinate) (low high : ℤ) → Shows s C
    → EachVertexOn C h (IsWithin c low high) → EachPointOn s C h (IsWithin c low high)

-- ---- along the upward direction
-- t/w is greater than s/v, by 1/n at most
abbrev pub IsJustAbove : ℕ → ℤ → ℕ → ℤ → ℕ → Type 0
IsJustAbove n s v t w = ((s *ℤ pos w) <ℤ (t *ℤ pos v)) × ((pos n *ℤ (t *ℤ pos v -ℤ s *ℤ pos w)) ≤ℤ pos (v * w))

-- q has a greater y than p, by 1/2 at most, and a greater z, by 2^-14 at most
abbrev pub IsCloseAbove : SpacePoint → SpacePoint → Type 0
IsCloseAbove p q = IsJustAbove 2 p.y p.w q.y q.w × IsJustAbove (2 ^ 14) p.z p.w q.z q.w

-- of two points of the closed frame on a ray up or down, the upper point is close above the lower point
abbrev pub RayStaysClose : Type 0
RayStaysClose = (p q : SpacePoint) → InClosedFrame p → InClosedFrame q → (IsAhead p up q → IsCloseAbove p q) × (IsAhead p (opposite up) q → IsCloseAbove q p)
