-- What an index tells of, and what lies in planes of it.
use Rattle.std.specs.Prelude.{◌≡◌, ◌<◌}
use Rattle.nef_space.specs.Prelude.{ℕ, pos, List, length, IsAt, SpacePoint, Form, form_at}
use Rattle.nef_geo.specs.Shapes.{point_of}
use Rattle.nef_geo.specs.declared.plane.Plane.{Plane}
use Rattle.nef_geo.specs.declared.point.Point.{Point}
use Rattle.nef_index.specs.declared.skeleton.Edge.{Edge}

-- carriers, the points of vertices, and the edges between these vertices
pub record IndexedLists : Type 0 where
  pub carriers : List Plane
  pub points : List Point
  pub edges : List Edge

-- the plane holds both points
abbrev pub HoldsBoth : Form → SpacePoint → SpacePoint → Type 0
HoldsBoth h a b = (form_at h a ≡ pos 0) × (form_at h b ≡ pos 0)

-- the point with this number lies on the plane
abbrev pub IsPointOn : List Point → Form → ℕ → Type 0
IsPointOn ps h k = (p : Point) × IsAt ps k p × (form_at h (point_of p) ≡ pos 0)

-- the edge with this number lies in the plane: the plane holds the points of both ends
abbrev pub IsEdgeIn : List Point → List Edge → Form → ℕ → Type 0
IsEdgeIn ps es h k = (e : Edge) × IsAt es k e × IsPointOn ps h e.low × IsPointOn ps h e.high

-- the ends of the edges are numbers of elements of the list
abbrev pub HaveEnds : {X : Type 0} → List X → List Edge → Type 0
HaveEnds xs es = (k : ℕ) (e : Edge) → IsAt es k e → (e.low < length xs) × (e.high < length xs)
