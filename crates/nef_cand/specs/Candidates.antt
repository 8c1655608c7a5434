-- The points that may be vertices of a combination of two sets, and of a half.
use Rattle.std.specs.Prelude.{◌≡◌, ◌⊎◌}
use Rattle.nef_complex.specs.Prelude.{ℕ, pos, List, point_of, Point, IsAt, IsVertexPoint}
use Rattle.std.specs.List.{Contains}
use Rattle.nef_space.specs.Points.{SpacePoint, Form, form_at, SamePoint, InClosedFrame, IsPointBelow, IsBetween}
use Rattle.law_geometry.specs.sphere.Least.{InOrder}
use Rattle.law_geometry.specs.complex.Complexes.{Vertex, Edge, Complex, HasEnds}
use Rattle.law_geometry.specs.complex.Laws.{HoldsEdge, IsCut}

-- one of the points is y
abbrev pub IsListed : List Point → SpacePoint → Type 0
IsListed ps y = (p : Point) × Contains ps p × SamePoint (point_of p) y

-- the points are those with P, in increasing order, once each
pub record AreExactly (P : SpacePoint → Type 0) (ps : List Point) : Type 0 where
  pub ordered : InOrder (λ (p q : Point). IsPointBelow (point_of p) (point_of q)) ps
  pub each : (p : Point) → Contains ps p → P (point_of p)
  pub all : (y : SpacePoint) → P y → IsListed ps y

-- the points lie in the closed frame
abbrev pub AreFramed : List Point → Type 0
AreFramed ps = (p : Point) → Contains ps p → InClosedFrame (point_of p)

-- y is a vertex of the complex
abbrev pub IsVertexOf : Complex → SpacePoint → Type 0
IsVertexOf C y = (k : ℕ) × IsVertexPoint C k y

-- y lies strictly inside an edge of the complex and on the plane h, which doesn't hold the edge
abbrev pub IsCutBy : Complex → Form → SpacePoint → Type 0
IsCutBy C h y = (k : ℕ) × (e : Edge) × (v : Vertex) × (w : Vertex) × IsAt C.edges k e × HasEnds C e v w × IsBetween v.point y w.point
    × (form_at h y ≡ pos 0) × (HoldsEdge h v w → ⊥)

-- the vertices of both complexes, and the points where an edge of the one crosses a carrier of the other
abbrev pub AreCandidates : Complex → Complex → List Point → Type 0
AreCandidates C D ps = AreExactly (λ y. IsVertexOf C y ⊎ IsVertexOf D y ⊎ IsCut C D y ⊎ IsCut D C y) ps

-- the vertices of the complex, and the points where an edge of it crosses the plane
abbrev pub AreCutCandidates : Complex → Form → List Point → Type 0
AreCutCandidates C h ps = AreExactly (λ y. IsVertexOf C y ⊎ IsCutBy C h y) ps
