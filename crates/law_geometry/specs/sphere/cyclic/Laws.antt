-- The laws of arcs and of the cyclic order about an axis; each is a clause of a public function of `cyclic`.
use Rattle.std.specs.Prelude.{◌⊎◌, ◌↔◌, T}
use Rattle.nef_space.specs.Vectors.{Vector, dot, cross, triple, opposite, IsDirection, IsParallel, SameDirection}
use Rattle.nef_case.specs.Between.{between_signs}
use Rattle.law_geometry.specs.sphere.cyclic.Signs.{sign_of_number}
use Rattle.law_geometry.specs.sphere.cyclic.Arcs.{IsOnCircle, IsStrictlyOn, Passes, AboutThree, AboutFour}

-- ---- arcs
-- the rule of the eight classes of five signs says whether d is strictly on the arc
abbrev pub ClassesAreArcs : Type 0
ClassesAreArcs = (n s t d : Vector) → IsDirection n → IsOnCircle n s → IsOnCircle n t → IsOnCircle n d
    → T (between_signs (sign_of_number (triple n s t)) (sign_of_number (dot s t)) (sign_of_number (triple n s d)) (sign_of_number (dot s d)) (sign_of_number (triple n d t))) ↔ IsStrictlyOn n s t d

-- whether d is strictly on an arc depends on the direction of d alone, and not on its length
abbrev pub ArcsAreOfDirections : Type 0
ArcsAreOfDirections = (n s t d e : Vector) → IsDirection n → IsOnCircle n s → IsOnCircle n t → SameDirection d e → IsStrictlyOn n s t d → IsStrictlyOn n s t e

-- the way back about the opposite normal passes the same directions
abbrev pub WayBackPassesTheSame : Type 0
WayBackPassesTheSame = (n s t d : Vector) → IsDirection n → IsOnCircle n s → IsOnCircle n t → IsStrictlyOn (opposite n) t s d ↔ IsStrictlyOn n s t d

-- two great circles whose normals aren't parallel meet in exactly two opposite directions
abbrev pub TwoMeets : Type 0
TwoMeets = (a b d : Vector) → (IsParallel a b → ⊥) → IsOnCircle a d → IsOnCircle b d → SameDirection (cross a b) d ⊎ SameDirection (opposite (cross a b)) d

-- ---- the order of directions about an axis, seen from a
-- two directions other than a are the same, or one of the two is passed before the other
abbrev pub OneIsFirst : Type 0
OneIsFirst = (n a b c : Vector) → AboutThree n a b c → (SameDirection a b → ⊥) → (SameDirection a c → ⊥) → SameDirection b c ⊎ Passes n a b c ⊎ Passes n a c b

abbrev pub NeverBothWays : Type 0
NeverBothWays = (n a b c : Vector) → AboutThree n a b c → Passes n a b c → Passes n a c b → ⊥

abbrev pub OrderIsTransitive : Type 0
OrderIsTransitive = (n a b c d : Vector) → AboutFour n a b c d → Passes n a b c → Passes n a c d → Passes n a b d

-- the direction c passes as b does, where c and b are the same direction
abbrev pub SameInPlace : Type 0
SameInPlace = (n a b c d : Vector) → AboutFour n a b c d → SameDirection b c → Passes n a b d → Passes n a c d

-- ---- the order seen from another direction
abbrev pub OrderIsCyclic : Type 0
OrderIsCyclic = (n a b c : Vector) → AboutThree n a b c → (SameDirection a c → ⊥) → Passes n a b c → Passes n b c a

-- the way from b to d, for b on the way from a to d, is part of the latter way
abbrev pub WaysGlue : Type 0
WaysGlue = (n a b c d : Vector) → AboutFour n a b c d → Passes n a b d → Passes n b c d → Passes n a c d

-- two directions on a way are the same, or one comes first and the other is on the rest of the way
abbrev pub WaysSplit : Type 0
WaysSplit = (n a b c d : Vector) → AboutFour n a b c d → Passes n a b d → Passes n a c d
    → SameDirection b c ⊎ (Passes n a b c × Passes n b c d) ⊎ (Passes n a c b × Passes n c b d)

-- a direction on the way to b is on the way to each direction that isn't on the way to b
abbrev pub NearerOnes : Type 0
NearerOnes = (n a b c d : Vector) → AboutFour n a b c d → Passes n a c b → (Passes n a d b → ⊥) → (SameDirection a d → ⊥) → Passes n a c d

abbrev pub SeenFromLater : Type 0
SeenFromLater = (n a b c d : Vector) → AboutFour n a b c d → Passes n a b c → Passes n a c d → Passes n b c d

-- if a, b, c come in this order, and d is a or comes before b, the order seen from b is c, d
abbrev pub SeenFromBetween : Type 0
SeenFromBetween = (n a b c d : Vector) → AboutFour n a b c d → (SameDirection a c → ⊥) → Passes n a b c → SameDirection a d ⊎ Passes n a d b → Passes n b c d

-- if a, c, b come in this order, and d is a or comes before c, the order seen from b is d, c
abbrev pub SeenFromAfter : Type 0
SeenFromAfter = (n a b c d : Vector) → AboutFour n a b c d → (SameDirection a b → ⊥) → Passes n a c b → SameDirection a d ⊎ Passes n a d c → Passes n b d c

-- ---- the sector from a ray b to the next ray c, seen from the first ray a
abbrev pub NextRises : Type 0
NextRises = (n a b c : Vector) → AboutThree n a b c → (SameDirection a c → ⊥) → (SameDirection a b → ⊥) → (SameDirection b c → ⊥) → (Passes n b a c → ⊥) → Passes n a b c

-- a direction past b and before c is in the sector
abbrev pub InSector : Type 0
InSector = (n a b c d : Vector) → AboutFour n a b c d → SameDirection a b ⊎ (Passes n a b c × Passes n a b d) → Passes n a d c → Passes n b d c

abbrev pub SectorHolds : Type 0
SectorHolds = (n a b c d : Vector) → AboutFour n a b c d → SameDirection a b ⊎ Passes n a b c → Passes n b d c → Passes n a d c × (SameDirection a b ⊎ Passes n a b d)

-- no ray d is in the sector: a ray is a, b or c, or comes before b or after c
abbrev pub NoRayBetween : Type 0
NoRayBetween = (n a b c d : Vector) → AboutFour n a b c d → SameDirection a b ⊎ Passes n a b c
    → SameDirection b d ⊎ SameDirection c d ⊎ SameDirection a d ⊎ ((SameDirection a b → ⊥) × Passes n a d b) ⊎ ((SameDirection a c → ⊥) × Passes n a c d)
    → Passes n b d c → ⊥
