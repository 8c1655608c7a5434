-- The order of a point among the vertices on a plane, and points on an edge's line.
use Rattle.std.specs.Prelude.{◌≡◌, ◌<◌, ◌≤◌}
use Rattle.nef_complex.specs.Prelude.{ℕ, pos, List, IsAt, SpacePoint, Form, form_at, IsPointBelow, point_of}
use Rattle.nef_complex.specs.declared.complex.Complex.{Complex}
use Rattle.nef_edges.specs.Prelude.{Edge, Vertex}
use Rattle.nef_plane.specs.Amid.{AllThrough}

-- the vertices on the plane with numbers below n come before the point y, the other vertices on the plane after y
pub record PartsOn (vs : List Vertex) (h : Form) (y : SpacePoint) (n : ℕ) : Type 0 where
  pub before : (j : ℕ) (v : Vertex) → j < n → IsAt vs j v → form_at h (point_of v.point) ≡ pos 0 → IsPointBelow (point_of v.point) y
  pub after : (j : ℕ) (v : Vertex) → n ≤ j → IsAt vs j v → form_at h (point_of v.point) ≡ pos 0 → IsPointBelow y (point_of v.point)

-- each carrier that holds both ends of the edge with this number holds the point
abbrev pub AreThroughEnds : Complex → ℕ → SpacePoint → Type 0
AreThroughEnds c k y = (e : Edge) (u v : Vertex) → IsAt c.edges k e → IsAt c.vertices e.low u → IsAt c.vertices e.high v → AllThrough c.carriers (point_of u.point) (point_of v.point) y
