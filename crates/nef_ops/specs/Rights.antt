-- When the outcome of a job is right.
use Rattle.nef_result.specs.Prelude.{ℕ, Bool, true, false, List, map, SpacePoint, Set, point_of, form_of, Plane, Cone, Carriers, Vertex, moved_if, IsOutcomeAt, Op, op_set, ShowsSet, ArePointsInOrder}
use Rattle.nef_complex.specs.Prelude.{IsAt, IsVertex, Point}
use Rattle.law_geometry.specs.sphere.Maps.{Map}
use Rattle.nef_cand.specs.Candidates.{IsListed}
use Rattle.nef_result.specs.declared.outcome.Outcome.{Outcome}
use Rattle.nef_result.specs.declared.outcome.Outcome.TheVariants.{Stays, Turned}
use Rattle.nef_cand.specs.declared.named.Operand.{Operand}
use Rattle.nef_ops.specs.declared.local.Input.{Input}
use Rattle.nef_ops.specs.Far.{AreTold}

-- each map of s at the point is a map of r there
abbrev pub IsAsIn : Set → Set → SpacePoint → Type 0
IsAsIn s r y = (M : Map) → Cone M s y → Cone M r y

-- o is an outcome for the set at point number i; us and vs are the vertices of operands whose maps may be moved
abbrev pub IsRight : Set → List Vertex → List Vertex → List Point → ℕ → Outcome → Type 0
IsRight s us vs ps i o = (p : Point) → IsAt ps i p → IsOutcomeAt us vs s (point_of p) o

-- ---- the operands of a combination
-- the operand's complex shows a set, and each of its regions is told rightly
abbrev pub IsInput : Input → Type 0
IsInput x = ((s : Set) × ShowsSet s x.complex.now) × AreTold x.complex.now x.far.now

-- the vertices of the operand whose maps may be moved
abbrev pub movable : Input → List Vertex
movable x = moved_if x.is_own x.complex.now

-- the outcome where the operand's vertex stays, with In and Not exchanged if turned
abbrev pub kept_outcome : Bool → Operand → ℕ → Outcome
kept_outcome false o k = Stays o k
kept_outcome true o k = Turned o k

-- the outcome is right at y for the combination of all sets that the two operands show
abbrev pub IsOutcomeOf : Op → Input → Input → SpacePoint → Outcome → Type 0
IsOutcomeOf op a b y o = (s t : Set) → ShowsSet s a.complex.now → ShowsSet t b.complex.now → IsOutcomeAt (movable a) (movable b) (op_set op s t) y o

-- ---- jobs
-- hs are the set's carriers, the ordered points have all its vertices, and right outcomes are right for the set
pub record IsWorkedBy (Right : ℕ → Outcome → Type 0) (us vs : List Vertex) (s : Set) (hs : List Plane) (ps : List Point) : Type 0 where
  pub carriers : Carriers s (map form_of hs)
  pub ordered : ArePointsInOrder ps
  pub complete : (y : SpacePoint) → IsVertex s y → IsListed ps y
  pub right : (i : ℕ) (o : Outcome) → Right i o → IsRight s us vs ps i o
