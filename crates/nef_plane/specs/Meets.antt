-- What a ray within a plane meets.
use Rattle.std.specs.Prelude.{◌≡◌, ◌<ℤ◌, ◌&&◌, ◌⊎◌}
use Rattle.nef_geo.specs.Prelude.{ℕ, ℤ, pos, neg_ℤ, cond, Option, Some, List, form_of, hit_point, far_point}
use Rattle.nef_complex.specs.Prelude.{MatchOption, IsCrossing, IsReached, sign_of, Plane, IsAt, MapVertex, meet_of, HoldsBoth}
use Rattle.std.specs.Ordering.{int_eq}
use Rattle.nef_space.specs.Prelude.{SpacePoint, Form, form_at, slope, normal_of, plane_through, toward, SamePoint, IsAhead, IsBetween, Vector, vector, cross, opposite, plane_axis, plane_dir, IsZero, IsDirection, SameDirection}
use Rattle.nef_geo.specs.declared.hit.FarHit.{FarHit}
use Rattle.nef_geo.specs.declared.hit.Hit.{Hit}
use Rattle.law_geometry.specs.complex.Complexes.{Vertex, Edge, Complex, HasEnds}
use Rattle.law_geometry.specs.complex.Skeleton.{PlaneMeet, meets_vertex, meets_edge, IsVertexPoint, IsEdgePoint, LiesIn}
use Rattle.nef_complex.specs.declared.complex.PlaneMeet.{PlaneMeet as ProgramMeet}
use Rattle.nef_complex.specs.declared.complex.PlaneMeet.TheVariants.{AtVertex, AtEdge}
use Rattle.nef_plane.specs.Asked.{meet_at}
use Rattle.nef_plane.specs.declared.first.Met.{Met}
use Rattle.nef_plane.specs.declared.first.MeetKind.{MeetKind}

-- the direction is the direction of the plane's axis, or its opposite
abbrev pub IsAlongAxis : Form → Vector → Type 0
IsAlongAxis h d = SameDirection d (plane_axis (normal_of h)) ⊎ SameDirection d (opposite (plane_axis (normal_of h)))

-- the direction is parallel to the plane's axis
abbrev pub IsParallelToAxis : Form → Vector → Type 0
IsParallelToAxis h d = IsDirection d × IsZero (cross (plane_axis (normal_of h)) d)

-- the direction is the second direction of the plane, or its opposite
abbrev pub IsAlongDir : Form → Vector → Type 0
IsAlongDir h d = SameDirection d (plane_dir (normal_of h)) ⊎ SameDirection d (opposite (plane_dir (normal_of h)))

-- the direction is along the plane's axis, or, from a vertex, along the plane's second direction
abbrev pub IsWithinDirection : Complex → Form → SpacePoint → Vector → Type 0
IsWithinDirection C h p d = IsAlongAxis h d ⊎ (((k : ℕ) × IsVertexPoint C k p) × IsAlongDir h d)

-- no svertex of a vertex at p points along d
abbrev pub HasNoSvertex : Complex → SpacePoint → Vector → Type 0
HasNoSvertex C p d = (k j : ℕ) (v : Vertex) (u : MapVertex) → IsAt C.vertices k v → SamePoint v.point p → IsAt v.map.svertices j u → SameDirection u.dir d → ⊥

-- p is a vertex, or lies strictly inside no edge in the plane
abbrev pub IsOffEdges : Complex → Form → SpacePoint → Type 0
IsOffEdges C h p = ((k : ℕ) × IsVertexPoint C k p) ⊎ ((k : ℕ) → IsEdgePoint C k p → LiesIn C h k → ⊥)

-- the coordinate that is constant along the plane's axis: the first one, or the second where the axis changes the first
abbrev pub sweep_axis : Form → Vector
sweep_axis h = cond (int_eq h.c (pos 0) && int_eq h.b (pos 0)) (vector (pos 0) (pos 1) (pos 0)) (vector (pos 1) (pos 0) (pos 0))

-- the plane through p on which that coordinate is constant
abbrev pub sweep_form : Form → SpacePoint → Form
sweep_form h p = plane_through (sweep_axis h) p

-- the points lie on different sides of the plane, or both on the plane
abbrev pub AreOpposite : Form → SpacePoint → SpacePoint → Type 0
AreOpposite k a b = sign_of (form_at k a) ≡ sign_of (neg_ℤ (form_at k b))

-- a point on a ray, with the step at which it lies
pub record Reach : Type 0 where
  pub place : SpacePoint
  pub num : ℤ
  pub den : ℤ
  pub den_sign : pos 0 <ℤ den

abbrev pub reach_of : Hit → Reach
reach_of q = record { place = hit_point q; num = q.num; den = q.den; den_sign = q.den_sign }

abbrev pub far_reach_of : FarHit → Reach
far_reach_of q = record { place = far_point q; num = q.num; den = q.den; den_sign = q.den_sign }

-- the point lies at its step along the ray
abbrev pub IsReachedAt : SpacePoint → Vector → Reach → Type 0
IsReachedAt p d q = IsReached p d q.num q.den q.den_sign q.place

-- the ray crosses a plane at the point, and this plane holds a and b
pub record IsHitThrough (p : SpacePoint) (d : Vector) (a b : SpacePoint) (q : Reach) : Type 0 where
  pub plane : Plane
  pub holds : HoldsBoth (form_of plane) a b
  pub crosses : IsCrossing p d (form_of plane) q.place
  pub reached : IsReachedAt p d q

-- none of the planes that hold both points crosses the ray
abbrev pub NoneCrosses : List Plane → SpacePoint → Vector → SpacePoint → SpacePoint → Type 0
NoneCrosses gs p d a b = (i : ℕ) (g : Plane) → IsAt gs i g → HoldsBoth (form_of g) a b → (q : SpacePoint) → IsCrossing p d (form_of g) q → ⊥

-- y lies strictly between a and b, or a and b are y
abbrev pub IsBetweenOrAt : SpacePoint → SpacePoint → SpacePoint → Type 0
IsBetweenOrAt a b y = IsBetween a y b ⊎ (SamePoint a y × SamePoint b y)

-- the ray meets y, which lies strictly between two points a and b of the plane, or a and b are y
pub record IsMetBetween (h : Form) (p : SpacePoint) (d : Vector) (a b y : SpacePoint) : Type 0 where
  pub holds : HoldsBoth h a b
  pub ahead : IsAhead p d y
  pub on : IsBetweenOrAt a b y

-- each of the planes that hold a and b is along the direction
abbrev pub AllHold : List Plane → Vector → SpacePoint → SpacePoint → Type 0
AllHold gs d a b = (i : ℕ) (g : Plane) → IsAt gs i g → HoldsBoth (form_of g) a b → slope (form_of g) d ≡ pos 0

-- the plane holds the ray from p along d
abbrev pub HoldsRay : Form → SpacePoint → Vector → Type 0
HoldsRay h p d = (form_at h p ≡ pos 0) × (slope h d ≡ pos 0)

-- what the ray meets is the vertex with this number
abbrev pub AtVertexNumber : Complex → ℕ → PlaneMeet → SpacePoint → Type 0
AtVertexNumber C k m q = (m ≡ meets_vertex k) × IsVertexPoint C k q

-- what the ray meets is strictly inside the edge with this number, which lies in the plane but not along the ray
abbrev pub AtEdgeNumber : Complex → Form → Vector → ℕ → PlaneMeet → SpacePoint → Type 0
AtEdgeNumber C h d k m q = (m ≡ meets_edge k) × (e : Edge) × (v : Vertex) × (w : Vertex) × IsAt C.edges k e × HasEnds C e v w × IsBetween v.point q w.point
    × HoldsBoth h v.point w.point × (IsZero (cross (toward v.point w.point) d) → ⊥)

-- what the ray meets is this vertex, or a point strictly inside this edge
abbrev pub AtMeet : Complex → Form → Vector → ProgramMeet → PlaneMeet → SpacePoint → Type 0
AtMeet C h d (AtVertex k) m q = AtVertexNumber C k m q
AtMeet C h d (AtEdge k) m q = AtEdgeNumber C h d k m q

-- the point is this vertex, or lies strictly inside this edge
abbrev pub IsMeetPoint : Complex → ProgramMeet → SpacePoint → Type 0
IsMeetPoint C (AtVertex k) q = IsVertexPoint C k q
IsMeetPoint C (AtEdge k) q = IsEdgePoint C k q

-- what the ray meets is some vertex
abbrev pub AtSomeVertex : Complex → PlaneMeet → SpacePoint → Type 0
AtSomeVertex C m q = (k : ℕ) × AtVertexNumber C k m q

-- what the ray meets is strictly inside some edge in the plane that isn't along the ray
abbrev pub AtSomeEdge : Complex → Form → Vector → PlaneMeet → SpacePoint → Type 0
AtSomeEdge C h d m q = (k : ℕ) × AtEdgeNumber C h d k m q

-- what the ray meets is some vertex or some edge, as the kind says
abbrev pub AtSome : Complex → Form → Vector → MeetKind → PlaneMeet → SpacePoint → Type 0
AtSome C h d t m q = (k : ℕ) × AtMeet C h d (meet_at t k) m q

abbrev pub AtVertexOrEdge : Complex → Form → Vector → PlaneMeet → SpacePoint → Type 0
AtVertexOrEdge C h d m q = AtSomeVertex C m q ⊎ AtSomeEdge C h d m q

-- what a ray meets, and at which point
pub record Encounter : Type 0 where
  pub meet : PlaneMeet
  pub at : Reach

abbrev pub met_of : {H : Type 0} → (H → Reach) → Met H → Encounter
met_of reach x = record { meet = meet_of x.meet; at = reach x.at }

abbrev pub near_met_of : Met Hit → Encounter
near_met_of = met_of reach_of

abbrev pub far_met_of : Met FarHit → Encounter
far_met_of = met_of far_reach_of

-- what the ray meets is at its step along the ray
abbrev pub IsReachedEncounter : SpacePoint → Vector → Encounter → Type 0
IsReachedEncounter p d x = IsReachedAt p d x.at

-- the ray meets x, which has P, and nothing before it that has P
pub record IsNearestMet (p : SpacePoint) (d : Vector) (P : PlaneMeet → SpacePoint → Type 0) (x : Encounter) : Type 0 where
  pub reached : IsReachedEncounter p d x
  pub ahead : IsAhead p d x.at.place
  pub met : P x.meet x.at.place
  pub first : (n : PlaneMeet) (q : SpacePoint) → IsBetween p q x.at.place → P n q → ⊥

-- the ray meets nothing that has P
abbrev pub IsMissed : SpacePoint → Vector → (PlaneMeet → SpacePoint → Type 0) → Type 0
IsMissed p d P = (n : PlaneMeet) (q : SpacePoint) → IsAhead p d q → P n q → ⊥

-- the option is the first of what has P, or none where the ray meets nothing that has P
abbrev pub IsNearest : {X : Type 0} → (X → Encounter) → SpacePoint → Vector → (PlaneMeet → SpacePoint → Type 0) → Option X → Type 0
IsNearest met p d P o = MatchOption o (IsMissed p d P) (λ x. IsNearestMet p d P (met x))

-- x isn't past y
abbrev pub IsNotPast : Vector → Encounter → Encounter → Type 0
IsNotPast d x y = SamePoint x.at.place y.at.place ⊎ IsAhead x.at.place d y.at.place

-- the option is a or b, and not past either
pub record IsNearer {X : Type 0} (met : X → Encounter) (d : Vector) (a b r : Option X) : Type 0 where
  pub one : (r ≡ a) ⊎ (r ≡ b)
  pub first : (x : X) → a ≡ Some x → (y : X) × (r ≡ Some y) × IsNotPast d (met y) (met x)
  pub second : (x : X) → b ≡ Some x → (y : X) × (r ≡ Some y) × IsNotPast d (met y) (met x)

-- P holds of the point of the vertex with this number
abbrev pub FromVertex : Complex → ℕ → (SpacePoint → Type 0) → Type 0
FromVertex C k P = (v : Vertex) → IsAt C.vertices k v → P v.point
