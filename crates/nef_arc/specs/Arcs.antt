-- The directions on an arc and on two arcs, and the order along an arc.
use Rattle.std.specs.Prelude.{◌<ℤ◌, ◌⊎◌}
use Rattle.nef_geo.specs.Prelude.{pos, IsBelow, Vector, SameDirection, triple, direction_numbers, vector_of, sign_of}
use Rattle.nef_geo.specs.declared.sign.Sign.{Sign}
use Rattle.nef_geo.specs.declared.sign.Sign.TheVariants.{Minus, Zero, Plus}
use Rattle.law_geometry.specs.sphere.cyclic.Arcs.{IsStrictlyOn}
use Rattle.nef_arc.specs.declared.arc.Arc.{Arc}
use Rattle.nef_arc.specs.declared.arc.Crossing.{Crossing}
use Rattle.nef_arc.specs.declared.arc.Crossing.TheVariants.{Nowhere, One, Two}

abbrev pub normal_vector : Arc → Vector
normal_vector a = vector_of a.normal

abbrev pub source_vector : Arc → Vector
source_vector a = vector_of a.source

abbrev pub target_vector : Arc → Vector
target_vector a = vector_of a.target

-- the direction is strictly on the arc
abbrev pub IsOn : Arc → Vector → Type 0
IsOn a d = IsStrictlyOn (normal_vector a) (source_vector a) (target_vector a) d

-- the direction is less than half a circle ahead of the source
abbrev pub IsPastSource : Arc → Vector → Type 0
IsPastSource a d = pos 0 <ℤ triple (normal_vector a) (source_vector a) d

-- the target is less than half a circle ahead of the direction
abbrev pub IsBeforeTarget : Arc → Vector → Type 0
IsBeforeTarget a d = pos 0 <ℤ triple (normal_vector a) d (target_vector a)

-- whether a direction is passed that is neither end: by the turn from source to target, being past one, before the
-- other
abbrev pub PastAndBefore : Sign → Type 0 → Type 0 → Type 0
PastAndBefore Plus Past Before = Past × Before
PastAndBefore Minus Past Before = Past ⊎ Before
PastAndBefore Zero Past Before = Past

-- the direction, if it is neither end, is passed
abbrev pub IsPassedByArc : Arc → Vector → Type 0
IsPassedByArc a d = SameDirection (source_vector a) (target_vector a) ⊎ PastAndBefore (sign_of (triple (normal_vector a) (source_vector a) (target_vector a))) (IsPastSource a d) (IsBeforeTarget a d)

-- the direction is an end of the arc
abbrev pub IsEndOfArc : Arc → Vector → Type 0
IsEndOfArc a d = SameDirection (source_vector a) d ⊎ SameDirection (target_vector a) d

-- d lies strictly on the way along the arc from its source to the direction e
abbrev pub IsOnBefore : Arc → Vector → Vector → Type 0
IsOnBefore a e d = IsStrictlyOn (normal_vector a) (source_vector a) e d

pub record IsOnBoth (a b : Arc) (d : Vector) : Type 0 where
  pub first : IsOn a d
  pub second : IsOn b d

-- e is strictly on both arcs, and no other direction is
pub record IsOneCrossing (a b : Arc) (e : Vector) : Type 0 where
  pub on : IsOnBoth a b e
  pub alone : (d : Vector) → IsOnBoth a b d → SameDirection e d

-- e and f are strictly on both arcs, in this order as triples of numbers, and no other direction is
pub record IsTwoCrossings (a b : Arc) (e f : Vector) : Type 0 where
  pub first_on : IsOnBoth a b e
  pub second_on : IsOnBoth a b f
  pub in_order : IsBelow (direction_numbers e) (direction_numbers f)
  pub alone : (d : Vector) → IsOnBoth a b d → SameDirection e d ⊎ SameDirection f d

-- the crossing has the directions strictly on both arcs
abbrev pub IsArcCrossing : Arc → Arc → Crossing → Type 0
IsArcCrossing a b Nowhere = (d : Vector) → IsOnBoth a b d → ⊥
IsArcCrossing a b (One e) = IsOneCrossing a b (vector_of e)
IsArcCrossing a b (Two e f) = IsTwoCrossings a b (vector_of e) (vector_of f)
