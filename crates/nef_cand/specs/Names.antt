-- Candidates that are named by a vertex or an edge of one of two complexes.
use Rattle.std.specs.Prelude.{◌≡◌}
use Rattle.nef_complex.specs.Prelude.{List, SpacePoint, SamePoint, IsPointBelow, point_of, Point, IsVertexPoint, IsEdgePoint}
use Rattle.std.specs.List.{Contains}
use Rattle.law_geometry.specs.sphere.Least.{InOrder}
use Rattle.law_geometry.specs.complex.Complexes.{Complex}
use Rattle.nef_locate.specs.Places.{IsPlaceIn, IsPlaceAt}
use Rattle.nef_cand.specs.declared.named.Operand.{Operand}
use Rattle.nef_cand.specs.declared.named.Operand.TheVariants.{First, Second}
use Rattle.nef_cand.specs.declared.named.CandidateName.{CandidateName}
use Rattle.nef_cand.specs.declared.named.CandidateName.TheVariants as name
use Rattle.nef_cand.specs.declared.named.Named.{Named}

abbrev pub named_point : Named → Point
named_point n = n.point

-- that of two complexes which the operand tells
abbrev pub operand_of : Operand → Complex → Complex → Complex
operand_of First C D = C
operand_of Second C D = D

-- the other one
abbrev pub other_of : Operand → Complex → Complex → Complex
other_of First C D = D
other_of Second C D = C

-- y is the vertex, or lies strictly inside the edge, that the name tells, and lies at the place in the other that it tells
abbrev pub IsNameAt : Complex → Complex → SpacePoint → CandidateName → Type 0
IsNameAt C D y (name.Vertex o k) = IsVertexPoint (operand_of o C D) k y
IsNameAt C D y (name.Edge o k) = IsEdgePoint (operand_of o C D) k y
IsNameAt C D y (name.Cut o k a) = IsEdgePoint (operand_of o C D) k y × IsPlaceIn (other_of o C D) a × IsPlaceAt (other_of o C D) y a

-- the point lies where its name tells
abbrev pub IsNamed : Complex → Complex → Named → Type 0
IsNamed C D n = IsNameAt C D (point_of n.point) n.name

-- the point lies where its name tells, in C, which is this operand
abbrev pub IsNamedIn : Operand → Complex → Named → Type 0
IsNamedIn o C n = (D E : Complex) → operand_of o D E ≡ C → IsNamed D E n

-- the same of C, which is this operand, and D, which is the other
abbrev pub IsNamedBetween : Operand → Complex → Complex → Named → Type 0
IsNamedBetween First C D n = IsNamed C D n
IsNamedBetween Second C D n = IsNamed D C n

abbrev pub AreNamed : Complex → Complex → List Named → Type 0
AreNamed C D ns = (n : Named) → Contains ns n → IsNamed C D n

-- one of the points is y
abbrev pub IsAmong : List Named → SpacePoint → Type 0
IsAmong ns y = (n : Named) × Contains ns n × SamePoint (point_of n.point) y

-- the points are in increasing order
abbrev pub AreNamedInOrder : List Named → Type 0
AreNamedInOrder ns = InOrder (λ (m n : Named). IsPointBelow (point_of m.point) (point_of n.point)) ns

-- all points are below y
abbrev pub AreNamedBelow : List Named → SpacePoint → Type 0
AreNamedBelow ns y = (n : Named) → Contains ns n → IsPointBelow (point_of n.point) y

-- ms are some of ns, in increasing order of their points: for each point one
pub record IsOnceEach (ns ms : List Named) : Type 0 where
  pub ordered : InOrder (λ (m n : Named). IsPointBelow (point_of m.point) (point_of n.point)) ms
  pub among : (m : Named) → Contains ms m → Contains ns m
  pub each : (n : Named) → Contains ns n → (m : Named) × Contains ms m × (m.point ≡ n.point)
