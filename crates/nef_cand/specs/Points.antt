-- Points added to a list, and where a plane parts an edge.
use Rattle.std.specs.Prelude.{◌≡◌, ◌⊎◌}
use Rattle.nef_complex.specs.Prelude.{ℕ, pos, List, map, point_of, form_of, Plane, Point, IsAt, HoldsBoth, Set, IsVertexOfBoth, complex_of, ShowsSet}
use Rattle.std.specs.List.{Contains}
use Rattle.nef_space.specs.Points.{SpacePoint, Form, form_at, InClosedFrame, SamePoint, IsBetween}
use Rattle.nef_geo.specs.Steps.{HasOppositeSigns}
use Rattle.law_geometry.specs.complex.Complexes.{Complex as PlainComplex}
use Rattle.nef_complex.specs.declared.complex.Complex.{Complex}
use Rattle.nef_index.specs.declared.skeleton.Edge.{Edge}
use Rattle.nef_complex.specs.declared.complex.Vertex.{Vertex}
use Rattle.nef_cand.specs.declared.named.Named.{Named}
use Rattle.nef_cand.specs.Names.{IsAmong}
use Rattle.nef_cand.specs.Candidates.{IsListed, IsCutBy, AreCandidates, AreFramed}

-- ms are ns and more, which have N and whose points have P; all points with Q are among them
pub record AddsAll (P Q : SpacePoint → Type 0) (N : Named → Type 0) (ns ms : List Named) : Type 0 where
  pub kept : (n : Named) → Contains ns n → Contains ms n
  pub added : (n : Named) → Contains ms n → Contains ns n ⊎ (P (point_of n.point) × N n)
  pub all : (y : SpacePoint) → Q y → IsAmong ms y

-- ms are ns and more, which have N and whose points are those with P
abbrev pub AddsPoints : (SpacePoint → Type 0) → (Named → Type 0) → List Named → List Named → Type 0
AddsPoints P = AddsAll P P

-- zs are the elements of xs and those of ys
pub record HasBoth {X : Type 0} (xs ys zs : List X) : Type 0 where
  pub kept : (x : X) → Contains xs x ⊎ Contains ys x → Contains zs x
  pub only : (x : X) → Contains zs x → Contains xs x ⊎ Contains ys x

-- y lies strictly between p and q on the plane, which doesn't hold both
pub record IsCutBetween (h : Form) (p q y : SpacePoint) : Type 0 where
  pub between : IsBetween p y q
  pub on : form_at h y ≡ pos 0
  pub parts : HoldsBoth h p q → ⊥

-- y is the one point where the plane crosses the segment from p to q
abbrev pub IsOnlyCrossing : Form → SpacePoint → SpacePoint → SpacePoint → Type 0
IsOnlyCrossing h p q y = IsCutBetween h p q y × ((z : SpacePoint) → IsCutBetween h p q z → SamePoint y z)

-- the plane crosses the edge at y
abbrev pub CutsEdge : Complex → Plane → Edge → SpacePoint → Type 0
CutsEdge c h e y = (u : Vertex) × (v : Vertex) × IsAt c.vertices e.low u × IsAt c.vertices e.high v × IsCutBetween (form_of h) (point_of u.point) (point_of v.point) y

abbrev pub vertex_point : Vertex → Point
vertex_point v = v.point

-- the points of the vertices, in their order
abbrev pub points_of : Complex → List Point
points_of c = map vertex_point c.vertices

-- one of the planes cuts an edge at y
abbrev pub CutsOne : PlainComplex → List Plane → SpacePoint → Type 0
CutsOne C hs y = (i : ℕ) × (h : Plane) × IsAt hs i h × IsCutBy C (form_of h) y

-- the points are the candidates of the two complexes; they lie in the closed frame, and all vertices of combinations of the sets are among them
pub record ListsCandidates (a b : Complex) (ps : List Point) : Type 0 where
  pub exactly : AreCandidates (complex_of a) (complex_of b) ps
  pub framed : AreFramed ps
  pub complete : (s t : Set) (y : SpacePoint) → ShowsSet s a → ShowsSet t b → IsVertexOfBoth s t y → IsListed ps y

-- at no two points of the closed frame has the form opposite signs
abbrev pub MissesFrame : Form → Type 0
MissesFrame h = (p q : SpacePoint) → InClosedFrame p → InClosedFrame q → HasOppositeSigns (form_at h p) (form_at h q) → ⊥
