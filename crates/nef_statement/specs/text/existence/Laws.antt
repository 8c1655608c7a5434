-- What exists for every set: each fact is one statement that a function's contract cites.
use Rattle.std.specs.Prelude.{◌≡◌, ◌<◌, ◌≤◌, ◌^◌, ◌⊎◌}
use Rattle.nef_complex.specs.Prelude.{ℕ, nat_abs, List, length, IsVertex, Joined, SpacePoint, Form, normal_of, SamePoint, IsPointBelow, Lies, IsDirection, IsAtMost, IsAt, Shaped, form_of, Plane, complex_of, IsParts}
use Rattle.nef_space.specs.Prelude.{normal_limit, offset_limit, Set, halves}
use Rattle.law_geometry.specs.turns.Turned.{turned_plane}
use Rattle.law_geometry.specs.near.Cells.{carriers}
use Rattle.law_geometry.specs.sphere.Least.{InOrder, Least, Ordered, Cone}
use Rattle.law_geometry.specs.complex.Complexes.{Vertex, Edge, Complex, Edges}
use Rattle.law_geometry.specs.complex.Shows.{SamePlane, Shows}
use Rattle.nef_conn.specs.Components.{HasComponents}
use Rattle.nef_complex.specs.declared.complex.Complex.{Complex as ProgramComplex}
use Rattle.nef_complex.specs.declared.parts.Parts.{Parts}

-- vs are the vertices of the set s, in order, once each, with least maps
pub record AreVertices (s : Set) (vs : List Vertex) : Type 0 where
  pub vertices : (k : ℕ) (v : Vertex) → IsAt vs k v → IsVertex s v.point
  pub complete : (p : SpacePoint) → IsVertex s p → (k : ℕ) × (v : Vertex) × IsAt vs k v × SamePoint v.point p
  pub ordered : InOrder (λ u v. IsPointBelow u.point v.point) vs
  pub cones : (k : ℕ) (v : Vertex) → IsAt vs k v → Cone v.map s v.point
  pub least : (k : ℕ) (v : Vertex) → IsAt vs k v → Least v.map
  pub maps_ordered : (k : ℕ) (v : Vertex) → IsAt vs k v → Ordered v.map

-- every set has an ordered list of its vertices
abbrev pub EverySetHasVertices : Type 0
EverySetHasVertices = (s : Set) → (vs : List Vertex) × AreVertices s vs

-- a list of vertices in the order of their points, with well shaped maps, has an ordered list of all its edges
abbrev pub VerticesHaveEdges : Type 0
VerticesHaveEdges = (vs : List Vertex) → InOrder (λ u v. IsPointBelow u.point v.point) vs → ((k : ℕ) (v : Vertex) → IsAt vs k v → Shaped v.map) → (es : List Edge) × Edges vs es

-- no carrier of the set has a zero normal, so no half at any depth has one
abbrev pub HasPlanes : Set → Type 0
HasPlanes s = (f : Form) → Lies (carriers s) f → IsDirection (normal_of f)

-- a set whose carriers are planes has a complex that shows the set
abbrev pub EverySetIsShown : Type 0
EverySetIsShown = (s : Set) → HasPlanes s → (C : Complex) × Shows s C

-- ---- the program's complexes
-- each carrier of the set s is one of the planes hs
abbrev pub AreCarried : Set → List Plane → Type 0
AreCarried s hs = (f : Form) → Lies (carriers s) f → (h : Plane) × Lies hs h × SamePlane (form_of h) f

-- the program has a complex that shows a set, if the carriers are planes of the program, 2^32 at most
abbrev pub EveryCarriedSetIsShown : Type 0
EveryCarriedSetIsShown = (s : Set) (hs : List Plane) → length hs ≤ 2 ^ 32 → AreCarried s hs → (c : ProgramComplex) × Shows s (complex_of c)

-- the numbers of f are within the limits of planes, and the normal of f isn't zero
pub record IsSmallForm (f : Form) : Type 0 where
  pub normal : IsDirection (normal_of f)
  pub normal_small : IsAtMost normal_limit (normal_of f)
  pub offset_small : nat_abs f.d ≤ offset_limit

abbrev pub AreSmallForms : List Form → Type 0
AreSmallForms bs = (b : Form) → Lies bs b → IsSmallForm b

-- f is a form of bs, turned by one of the 48 turns
abbrev pub IsTurnOf : List Form → Form → Type 0
IsTurnOf bs f = (b : Form) × (k : ℕ) × Lies bs b × (k < 48) × (f ≡ turned_plane k b)

-- each half of the set s has a form of bs, turned by some turn
abbrev pub AreTurnsOf : List Form → Set → Type 0
AreTurnsOf bs s = (f : Form) → Lies (halves s) f → IsTurnOf bs f

-- the program has a complex for a set of any number of halves, if few forms within the limits give all halves by turns
abbrev pub EveryTurnedSetIsShown : Type 0
EveryTurnedSetIsShown = (bs : List Form) → AreSmallForms bs → length bs ≤ 2 ^ 20 → (s : Set) → AreTurnsOf bs s → (c : ProgramComplex) × Shows s (complex_of c)

-- every complex of the program that shows a set has parts
abbrev pub EveryShownHasParts : Type 0
EveryShownHasParts = (s : Set) (c : ProgramComplex) → Shows s (complex_of c) → (p : Parts) × IsParts (complex_of c) p

-- ---- joined points
-- two points of a set are joined or aren't joined
abbrev pub JoinedIsDecided : Type 0
JoinedIsDecided = (s : Set) (p q : SpacePoint) → Joined s p q ⊎ (Joined s p q → ⊥)

-- the points of a set with k flat directions have a number of components
abbrev pub ComponentsAreCounted : Type 0
ComponentsAreCounted = (s : Set) (k : ℕ) → (n : ℕ) × HasComponents s k n
