-- The laws of turns; clauses of public functions cite each law. Any number k is the number of a turn.
use Rattle.std.specs.Prelude.{◌≡◌, ◌↔◌}
use Rattle.nef_space.specs.Prelude.{ℕ, List, Bool, Lies, Vector, dot, cross, triple, IsDirection, SameDirection, IsOpposite, IsAtMost, IsNormal, direction_numbers as vector_numbers, IsLowest, SpacePoint, Form, form_numbers, normal_of, form_at, slope, Ratio, step, toward, Within, SamePoint, InFrame, IsAhead, IsBetween, Set, Holds, HasLabel, SameSet, Germ, Flat, FlatDim, IsVertex, Joined}
use Rattle.nef_case.specs.Turns.{negated_if, Undoes, IsComposition}
use Rattle.nef_space.specs.declared.label.Label.{Label}
use Rattle.law_geometry.specs.near.Cells.{carriers}
use Rattle.law_geometry.specs.near.Cones.{NearGerm}
use Rattle.law_geometry.specs.sphere.cyclic.Arcs.{IsStrictlyOn}
use Rattle.law_geometry.specs.sphere.Prelude.{IsAt, Arc, Map, MapLabel, NearLabel, Shaped, Valid, Least, Ordered, Cone}
use Rattle.law_geometry.specs.sphere.Vectors.{IsPrimitive}
use Rattle.law_geometry.specs.complex.Complexes.{Vertex, Complex}
use Rattle.law_geometry.specs.complex.Shows.{SamePlane, Carriers, Shows}
use Rattle.law_geometry.specs.turns.Turned.{turned_vector, turned_plane, turned_point, turned_set, point_numbers, is_odd, signed}
use Rattle.law_geometry.specs.turns.Maps.{IsTurnedMap, HasTurnedLists}
use Rattle.law_geometry.specs.turns.Complexes.{AreTurnedPlanes, AreTurnedVertices, IsTurnedComplex, ShowsVertices, signed_form}

-- ---- vectors
-- turns keep dot products
abbrev pub DotTurned : Type 0
DotTurned = (k : ℕ) (a b : Vector) → dot (turned_vector k a) (turned_vector k b) ≡ dot a b

-- turns keep cross products and triple products up to the sign of the turn
abbrev pub CrossTurned : Type 0
CrossTurned = (k : ℕ) (a b : Vector) → cross (turned_vector k a) (turned_vector k b) ≡ signed (is_odd k) (turned_vector k (cross a b))

abbrev pub TripleTurned : Type 0
TripleTurned = (k : ℕ) (a b c : Vector) → triple (turned_vector k a) (turned_vector k b) (turned_vector k c) ≡ negated_if (is_odd k) (triple a b c)

abbrev pub DirectionTurned : Type 0
DirectionTurned = (k : ℕ) (d : Vector) → IsDirection (turned_vector k d) ↔ IsDirection d

abbrev pub SameDirectionTurned : Type 0
SameDirectionTurned = (k : ℕ) (a b : Vector) → SameDirection (turned_vector k a) (turned_vector k b) ↔ SameDirection a b

abbrev pub OppositeTurned : Type 0
OppositeTurned = (k : ℕ) (a b : Vector) → IsOpposite (turned_vector k a) (turned_vector k b) ↔ IsOpposite a b

-- a way about a normal stays the way about the turned normal with the sign of the turn
abbrev pub ArcTurned : Type 0
ArcTurned = (k : ℕ) (n s t d : Vector) → IsStrictlyOn (signed (is_odd k) (turned_vector k n)) (turned_vector k s) (turned_vector k t) (turned_vector k d) ↔ IsStrictlyOn n s t d

-- each vector is the turned image of a vector
abbrev pub EachVectorIsTurned : Type 0
EachVectorIsTurned = (k : ℕ) (e : Vector) → (d : Vector) × (turned_vector k d ≡ e)

-- ---- numbers of turned vectors, forms and points, with either sign
abbrev pub AtMostTurned : Type 0
AtMostTurned = (k : ℕ) (b : Bool) (n : ℕ) (d : Vector) → IsAtMost n d → IsAtMost n (signed b (turned_vector k d))

-- vectors, forms and points in lowest terms stay in lowest terms
abbrev pub PrimitiveTurned : Type 0
PrimitiveTurned = (k : ℕ) (b : Bool) (d : Vector) → IsPrimitive d → IsPrimitive (signed b (turned_vector k d))

abbrev pub LowestVectorTurned : Type 0
LowestVectorTurned = (k : ℕ) (b : Bool) (d : Vector) → IsLowest (vector_numbers d) → IsLowest (vector_numbers (signed b (turned_vector k d)))

abbrev pub LowestFormTurned : Type 0
LowestFormTurned = (k : ℕ) (b : Bool) (h : Form) → IsLowest (form_numbers h) → IsLowest (form_numbers (signed_form b (turned_plane k h)))

abbrev pub LowestPointTurned : Type 0
LowestPointTurned = (k : ℕ) (p : SpacePoint) → IsLowest (point_numbers p) → IsLowest (point_numbers (turned_point k p))

-- exactly one of a direction and its opposite is in normal form
abbrev pub NormalExists : Type 0
NormalExists = (d : Vector) → IsDirection d → (b : Bool) × IsNormal (signed b d)

abbrev pub NormalIsOne : Type 0
NormalIsOne = (b c : Bool) (d : Vector) → IsNormal (signed b d) → IsNormal (signed c d) → b ≡ c

-- different vectors stay different, and so do different normals and planes in normal form, whatever the signs
abbrev pub VectorsDiffer : Type 0
VectorsDiffer = (k : ℕ) (a b : Vector) → turned_vector k a ≡ turned_vector k b → a ≡ b

abbrev pub NormalsDiffer : Type 0
NormalsDiffer = (k : ℕ) (b c : Bool) (n m : Vector) → IsNormal n → IsNormal m → signed b (turned_vector k n) ≡ signed c (turned_vector k m) → n ≡ m

abbrev pub PlanesDiffer : Type 0
PlanesDiffer = (k : ℕ) (b c : Bool) (g h : Form) → IsNormal (normal_of g) → IsNormal (normal_of h) → signed_form b (turned_plane k g) ≡ signed_form c (turned_plane k h) → g ≡ h

-- ---- points
-- a turned form has at a turned point the value of the form at the point
abbrev pub FormTurned : Type 0
FormTurned = (k : ℕ) (h : Form) (p : SpacePoint) → form_at (turned_plane k h) (turned_point k p) ≡ form_at h p

abbrev pub SlopeTurned : Type 0
SlopeTurned = (k : ℕ) (h : Form) (d : Vector) → slope (turned_plane k h) (turned_vector k d) ≡ slope h d

abbrev pub StepTurned : Type 0
StepTurned = (k : ℕ) (p : SpacePoint) (t : Ratio) (d : Vector) → step (turned_point k p) t (turned_vector k d) ≡ turned_point k (step p t d)

abbrev pub TowardTurned : Type 0
TowardTurned = (k : ℕ) (p q : SpacePoint) → toward (turned_point k p) (turned_point k q) ≡ turned_vector k (toward p q)

abbrev pub AheadTurned : Type 0
AheadTurned = (k : ℕ) (p : SpacePoint) (d : Vector) (q : SpacePoint) → IsAhead (turned_point k p) (turned_vector k d) (turned_point k q) ↔ IsAhead p d q

abbrev pub BetweenTurned : Type 0
BetweenTurned = (k : ℕ) (p r q : SpacePoint) → IsBetween (turned_point k p) (turned_point k r) (turned_point k q) ↔ IsBetween p r q

abbrev pub SamePointTurned : Type 0
SamePointTurned = (k : ℕ) (p q : SpacePoint) → SamePoint (turned_point k p) (turned_point k q) ↔ SamePoint p q

abbrev pub WithinTurned : Type 0
WithinTurned = (k : ℕ) (n : ℕ) (p q : SpacePoint) → Within n (turned_point k p) (turned_point k q) ↔ Within n p q

abbrev pub FrameTurned : Type 0
FrameTurned = (k : ℕ) (p : SpacePoint) → InFrame (turned_point k p) ↔ InFrame p

-- each point is the turned image of a point
abbrev pub EachPointIsTurned : Type 0
EachPointIsTurned = (k : ℕ) (q : SpacePoint) → (p : SpacePoint) × (turned_point k p ≡ q)

-- ---- sets
-- a turned set holds at a turned point exactly where the set holds at the point
abbrev pub HoldsTurned : Type 0
HoldsTurned = (k : ℕ) (s : Set) (p : SpacePoint) → Holds (turned_set k s) (turned_point k p) ↔ Holds s p

abbrev pub LabelTurned : Type 0
LabelTurned = (k : ℕ) (s : Set) (p : SpacePoint) (l : Label) → HasLabel (turned_set k s) (turned_point k p) l ↔ HasLabel s p l

abbrev pub SameSetTurned : Type 0
SameSetTurned = (k : ℕ) (s t : Set) → SameSet (turned_set k s) (turned_set k t) ↔ SameSet s t

abbrev pub GermTurned : Type 0
GermTurned = (k : ℕ) (s : Set) (p : SpacePoint) (d : Vector) (l : Label) → Germ (turned_set k s) (turned_point k p) (turned_vector k d) l ↔ Germ s p d l

abbrev pub NearGermTurned : Type 0
NearGermTurned = (k : ℕ) (s : Set) (p : SpacePoint) (d e : Vector) (l : Label) → NearGerm (turned_set k s) (turned_point k p) (turned_vector k d) (turned_vector k e) l ↔ NearGerm s p d e l

abbrev pub FlatTurned : Type 0
FlatTurned = (k : ℕ) (s : Set) (p : SpacePoint) (d : Vector) → Flat (turned_set k s) (turned_point k p) (turned_vector k d) ↔ Flat s p d

abbrev pub FlatDimTurned : Type 0
FlatDimTurned = (k : ℕ) (s : Set) (p : SpacePoint) (j : ℕ) → FlatDim (turned_set k s) (turned_point k p) j ↔ FlatDim s p j

abbrev pub VertexTurned : Type 0
VertexTurned = (k : ℕ) (s : Set) (p : SpacePoint) → IsVertex (turned_set k s) (turned_point k p) ↔ IsVertex s p

abbrev pub JoinedTurned : Type 0
JoinedTurned = (k : ℕ) (s : Set) (p q : SpacePoint) → Joined (turned_set k s) (turned_point k p) (turned_point k q) ↔ Joined s p q

-- a set that is turned, and then turned by the turn that undoes the first, is the set
abbrev pub SetTurnedBack : Type 0
SetTurnedBack = (j k : ℕ) (s : Set) → Undoes j k → turned_set j (turned_set k s) ≡ s

-- a set that is turned twice is the set turned once by the composition
abbrev pub SetTurnedTwice : Type 0
SetTurnedTwice = (i j k : ℕ) (s : Set) → IsComposition i j k → turned_set i s ≡ turned_set j (turned_set k s)

-- ---- sphere maps
-- a turned map has at a turned direction the label of the map at the direction
abbrev pub MapLabelTurned : Type 0
MapLabelTurned = (k : ℕ) (M N : Map) (d : Vector) (m : Label) → Shaped M → IsTurnedMap k M N → MapLabel N (turned_vector k d) m ↔ MapLabel M d m

abbrev pub NearLabelTurned : Type 0
NearLabelTurned = (k : ℕ) (M N : Map) (d e : Vector) (m : Label) → Shaped M → IsTurnedMap k M N → NearLabel N (turned_vector k d) (turned_vector k e) m ↔ NearLabel M d e m

-- a turned map is valid where the map is, and least where the map is
abbrev pub MapTurned : Type 0
MapTurned = (k : ℕ) (M N : Map) → IsTurnedMap k M N → Valid M → Valid N

abbrev pub LeastTurned : Type 0
LeastTurned = (k : ℕ) (M N : Map) → IsTurnedMap k M N → Shaped M → Least M → Least N

-- a turned map shows the turned set at the turned point
abbrev pub ConeTurned : Type 0
ConeTurned = (k : ℕ) (M N : Map) (s : Set) (p : SpacePoint) → IsTurnedMap k M N → Cone M s p → Cone N (turned_set k s) (turned_point k p)

-- a map whose ordered lists have the turned items of M is a turned map of M
abbrev pub ListsTurned : Type 0
ListsTurned = (k : ℕ) (M N : Map) → HasTurnedLists k M N → IsTurnedMap k M N

-- each ordered, well shaped map has a turned map that is ordered
abbrev pub TurnedExists : Type 0
TurnedExists = (k : ℕ) (M : Map) → Shaped M → Ordered M → (N : Map) × HasTurnedLists k M N × Ordered N

-- arcs with one normal that begin, or that end, at one svertex are equal, so exchanging ends keeps the order strict
abbrev pub ArcsBegin : Type 0
ArcsBegin = (M : Map) → Shaped M → (i j : ℕ) (a b : Arc) → IsAt M.arcs i a → IsAt M.arcs j b → a.normal ≡ b.normal → a.source ≡ b.source → i ≡ j

abbrev pub ArcsEnd : Type 0
ArcsEnd = (M : Map) → Shaped M → (i j : ℕ) (a b : Arc) → IsAt M.arcs i a → IsAt M.arcs j b → a.normal ≡ b.normal → a.target ≡ b.target → i ≡ j

-- ---- complexes
-- the carriers of a turned set are the turned carriers
abbrev pub CarrierTurned : Type 0
CarrierTurned = (k : ℕ) (s : Set) (h : Form) → Lies (carriers s) h → Lies (carriers (turned_set k s)) (turned_plane k h)

abbrev pub CarrierIsTurned : Type 0
CarrierIsTurned = (k : ℕ) (s : Set) (g : Form) → Lies (carriers (turned_set k s)) g → (h : Form) × Lies (carriers s) h × (g ≡ turned_plane k h)

abbrev pub SamePlaneTurned : Type 0
SamePlaneTurned = (k : ℕ) (g h : Form) → SamePlane (turned_plane k g) (turned_plane k h) ↔ SamePlane g h

abbrev pub CarriersTurned : Type 0
CarriersTurned = (k : ℕ) (s : Set) (gs hs : List Form) → Carriers s gs → AreTurnedPlanes k gs hs → Carriers (turned_set k s) hs

-- the turned vertices of a set are the vertices of the turned set
abbrev pub VerticesTurned : Type 0
VerticesTurned = (k : ℕ) (s : Set) (us vs : List Vertex) → ShowsVertices s us → AreTurnedVertices k us vs → ShowsVertices (turned_set k s) vs

-- a turned complex shows the turned set
abbrev pub ShowsTurned : Type 0
ShowsTurned = (k : ℕ) (s : Set) (C D : Complex) → Shows s C → IsTurnedComplex k C D → Shows (turned_set k s) D

-- turned planes and turned vertices, in order, exist for each complex that shows a set
abbrev pub TurnedPlanesExist : Type 0
TurnedPlanesExist = (k : ℕ) (gs : List Form) → (hs : List Form) × AreTurnedPlanes k gs hs

abbrev pub TurnedVerticesExist : Type 0
TurnedVerticesExist = (k : ℕ) (s : Set) (C : Complex) → Shows s C → (vs : List Vertex) × AreTurnedVertices k C.vertices vs
