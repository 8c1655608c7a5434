-- Complexes that are the turned images of others.
use Rattle.std.specs.Prelude.{◌≡◌}
use Rattle.nef_space.specs.Prelude.{ℕ, Bool, List, IsBelow, Form, form, form_numbers, SamePoint, IsPointBelow, Set, IsVertex, SpacePoint}
use Rattle.nef_case.specs.Turns.{negated_if}
use Rattle.law_geometry.specs.sphere.Prelude.{Least, Ordered, Cone, InOrder, IsAt}
use Rattle.law_geometry.specs.complex.Complexes.{Vertex, Complex, Edges}
use Rattle.law_geometry.specs.turns.Turned.{turned_plane, turned_point}
use Rattle.law_geometry.specs.turns.Maps.{IsTurnedMap}

-- the form h, or the form of the same plane with opposite numbers
abbrev pub signed_form : Bool → Form → Form
signed_form b h = form (negated_if b h.a) (negated_if b h.b) (negated_if b h.c) (negated_if b h.d)

-- hs lists the planes of gs, turned, in the order of their numbers and with either sign
pub record AreTurnedPlanes (k : ℕ) (gs hs : List Form) : Type 0 where
  pub each : (j : ℕ) (h : Form) → IsAt hs j h → (i : ℕ) × (g : Form) × (b : Bool) × IsAt gs i g × (h ≡ signed_form b (turned_plane k g))
  pub all : (i : ℕ) (g : Form) → IsAt gs i g → (j : ℕ) × (h : Form) × (b : Bool) × IsAt hs j h × (h ≡ signed_form b (turned_plane k g))
  pub ordered : InOrder (λ g h. IsBelow (form_numbers g) (form_numbers h)) hs

-- vs lists the vertices of us, turned, in the order of their points and with the turned maps
pub record AreTurnedVertices (k : ℕ) (us vs : List Vertex) : Type 0 where
  pub each : (j : ℕ) (v : Vertex) → IsAt vs j v → (i : ℕ) × (u : Vertex) × IsAt us i u × SamePoint v.point (turned_point k u.point) × IsTurnedMap k u.map v.map
  pub all : (i : ℕ) (u : Vertex) → IsAt us i u → (j : ℕ) × (v : Vertex) × IsAt vs j v × SamePoint v.point (turned_point k u.point)
  pub ordered : InOrder (λ u v. IsPointBelow u.point v.point) vs
  pub maps_ordered : (j : ℕ) (v : Vertex) → IsAt vs j v → Ordered v.map

-- D has the turned planes and the turned vertices of C, and the edges of these vertices
pub record IsTurnedComplex (k : ℕ) (C D : Complex) : Type 0 where
  pub planes : AreTurnedPlanes k C.carriers D.carriers
  pub vertices : AreTurnedVertices k C.vertices D.vertices
  pub edges : Edges D.vertices D.edges

-- vs are the vertices of the set s, in any order, with least maps that show the set
pub record ShowsVertices (s : Set) (vs : List Vertex) : Type 0 where
  pub vertices : (k : ℕ) (v : Vertex) → IsAt vs k v → IsVertex s v.point
  pub complete : (p : SpacePoint) → IsVertex s p → (k : ℕ) × (v : Vertex) × IsAt vs k v × SamePoint v.point p
  pub cones : (k : ℕ) (v : Vertex) → IsAt vs k v → Cone v.map s v.point
  pub least : (k : ℕ) (v : Vertex) → IsAt vs k v → Least v.map
