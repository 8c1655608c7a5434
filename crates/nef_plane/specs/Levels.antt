-- The vertices of a plane beside a line along its axis.
use Rattle.std.specs.Prelude.{◌≡◌, ◌<◌, ◌≤◌, ◌*ℤ◌, ◌<ℤ◌, ◌≤ℤ◌, ◌⊎◌}
use Rattle.nef_space.specs.Prelude.{ℕ, ℤ, pos, Bool, true, false, List, IsAt, SpacePoint, Form, form_at, slope, Vector, dot}
use Rattle.nef_geo.specs.Shapes.{point_of}
use Rattle.nef_complex.specs.declared.complex.Vertex.{Vertex}
use Rattle.nef_plane.specs.declared.course.Course.{Course}
use Rattle.nef_plane.specs.Meets.{sweep_axis, sweep_form}

-- the form changes as a positive multiple of the coordinate that is constant along the plane's axis
abbrev pub IsSwept : Form → Form → Type 0
IsSwept h k = (m : ℤ) × (pos 0 <ℤ m) × ((d : Vector) → slope k d ≡ m *ℤ dot (sweep_axis h) d)

-- a point where the form is z lies before the form's plane or, if points on the plane count, on the plane
abbrev pub IsBeforePlane : Bool → ℤ → Type 0
IsBeforePlane true z = z ≤ℤ pos 0
IsBeforePlane false z = z <ℤ pos 0

-- the vertices on h with numbers below n are short of the plane k
abbrev pub AreShortBelow : List Vertex → Form → Form → Bool → ℕ → Type 0
AreShortBelow vs h k b n = (j : ℕ) (v : Vertex) → j < n → IsAt vs j v → form_at h (point_of v.point) ≡ pos 0 → IsBeforePlane b (form_at k (point_of v.point))

-- the vertices on h with numbers from n on aren't short of the plane k
abbrev pub AreFarFrom : List Vertex → Form → Form → Bool → ℕ → Type 0
AreFarFrom vs h k b n = (j : ℕ) (v : Vertex) → n ≤ j → IsAt vs j v → form_at h (point_of v.point) ≡ pos 0 → IsBeforePlane b (form_at k (point_of v.point)) → ⊥

-- the vertices on h below x.first lie before the line through p, those from x.past on past it, and the others on it
pub record IsLevel (vs : List Vertex) (h : Form) (p : SpacePoint) (x : Course) : Type 0 where
  pub before : AreShortBelow vs h (sweep_form h p) false x.first
  pub not_before : AreFarFrom vs h (sweep_form h p) false x.first
  pub not_past : AreShortBelow vs h (sweep_form h p) true x.past
  pub past : AreFarFrom vs h (sweep_form h p) true x.past

-- vertex low lies before the line and high not past it, or low not before the line and high past it
abbrev pub IsUnparted : Course → ℕ → ℕ → Type 0
IsUnparted x low high = ((low < x.first) × (high < x.past)) ⊎ ((x.first ≤ low) × (x.past ≤ high))
