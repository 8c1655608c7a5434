-- Courses of rays within a plane from a vertex.
use Rattle.std.specs.Prelude.{◌≡◌, ◌*◌, ◌<◌, ◌≤◌, ◌-ℤ◌, ◌*ℤ◌, ◌<ℤ◌, ◌⊎◌}
use Rattle.nef_space.specs.Prelude.{ℕ, ℤ, pos, nat_abs, Bool, true, false, List, IfSome, IsAt, SpacePoint, Form, form, form_at, toward, InClosedFrame, IsAhead, Vector, dot}
use Rattle.nef_complex.specs.Prelude.{complex_of, point_of, Point}
use Rattle.nef_complex.specs.declared.complex.Complex.{Complex}
use Rattle.nef_complex.specs.declared.complex.PlaneMeet.{PlaneMeet}
use Rattle.nef_complex.specs.declared.complex.Vertex.{Vertex}
use Rattle.nef_plane.specs.declared.course.Course.{Course}
use Rattle.nef_plane.specs.Ends.{AreEnds, MeetLiesIn}
use Rattle.nef_plane.specs.Levels.{AreShortBelow, AreFarFrom}
use Rattle.nef_plane.specs.Meets.{sweep_axis, sweep_form, AtMeet, HoldsRay, IsMissed}
use Rattle.nef_plane.specs.Parting.{IsAcrossRay}

-- the vertex with this number stands at the point
abbrev pub StartsAt : List Vertex → ℕ → Point → Type 0
StartsAt vs k p = (v : Vertex) × IsAt vs k v × (v.point ≡ p)

-- for points of the closed frame on a ray along d the product with e differs by less than one
abbrev pub StaysClose : Vector → Vector → Type 0
StaysClose e d = (p q : SpacePoint) → InClosedFrame p → InClosedFrame q → IsAhead p d q → nat_abs (dot e (toward p q)) < p.w * q.w

-- the plane on which the coordinate constant along the axis of h is by z greater than at p
abbrev pub shifted_form : Form → SpacePoint → ℤ → Form
shifted_form h p z = let k = sweep_form h p in form k.a k.b k.c (k.d -ℤ z *ℤ pos p.w)

-- along d that coordinate changes by less than one; n is the number of the first vertex on h past the shifted plane
pub record IsCourseBeside (vs : List Vertex) (h : Form) (p : SpacePoint) (d : Vector) (z : ℤ) (on : Bool) (n : ℕ) : Type 0 where
  pub close : StaysClose (sweep_axis h) d
  pub short : AreShortBelow vs h (shifted_form h p z) on n
  pub far : AreFarFrom vs h (shifted_form h p z) on n

-- some form is positive at all points of the closed frame on the ray, and at no vertex on h with a number below n
abbrev pub IsCourseFirst : List Vertex → Form → SpacePoint → Vector → ℕ → Type 0
IsCourseFirst vs h p d n = (k : Form) × ((q : SpacePoint) → InClosedFrame q → IsAhead p d q → pos 0 <ℤ form_at k q) × AreShortBelow vs h k true n

-- some form is negative at all points of the closed frame on the ray, and at no vertex on h with a number from n on
abbrev pub IsCoursePast : List Vertex → Form → SpacePoint → Vector → ℕ → Type 0
IsCoursePast vs h p d n = (k : Form) × ((q : SpacePoint) → InClosedFrame q → IsAhead p d q → form_at k q <ℤ pos 0) × AreFarFrom vs h k false n

-- x is a course of the ray from p along d, and the plane h holds the ray
pub record IsCourse (vs : List Vertex) (h : Form) (p : Point) (d : Vector) (x : Course) : Type 0 where
  pub holds : HoldsRay h (point_of p) d
  pub first : IsCourseFirst vs h (point_of p) d x.first
  pub past : IsCoursePast vs h (point_of p) d x.past
  pub across : IfSome x.normal (IsAcrossRay d)

-- both numbers are below the course's first, or both are at its past or above
abbrev pub IsCoursePassed : Course → ℕ → ℕ → Type 0
IsCoursePassed x low high = (high < x.first) ⊎ (x.past ≤ low)

-- the plane h holds the ray, which meets nothing of h between vertices below x.first or between vertices from x.past on
pub record IsExcluding (c : Complex) (h : Form) (p : SpacePoint) (d : Vector) (x : Course) : Type 0 where
  pub holds : HoldsRay h p d
  pub first : (m : PlaneMeet) (i j : ℕ) → AreEnds c m i j → MeetLiesIn c h m → i < x.first → j < x.first → IsMissed p d (AtMeet (complex_of c) h d m)
  pub past : (m : PlaneMeet) (i j : ℕ) → AreEnds c m i j → MeetLiesIn c h m → x.past ≤ i → IsMissed p d (AtMeet (complex_of c) h d m)
