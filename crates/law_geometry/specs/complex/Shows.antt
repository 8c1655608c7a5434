-- Complexes that show a set.
use Rattle.std.specs.Prelude.{◌≡◌, ◌*ℤ◌}
use Rattle.nef_space.specs.Prelude.{ℕ, List, Lies, IsBelow, SpacePoint, Form, form_numbers, normal_of, SamePoint, IsPointBelow, IsDirection, Set, IsVertex}
use Rattle.law_geometry.specs.near.Cells.{carriers}
use Rattle.law_geometry.specs.sphere.Prelude.{Least, Ordered, Cone, InOrder, IsAt}
use Rattle.law_geometry.specs.complex.Complexes.{Vertex, Complex, Edges}

-- g and h are forms of one plane: multiples of each other, with a normal that isn't zero
pub record SamePlane (g h : Form) : Type 0 where
  pub is_plane : IsDirection (normal_of g)
  pub is_other_plane : IsDirection (normal_of h)
  pub ab : g.a *ℤ h.b ≡ g.b *ℤ h.a
  pub ac : g.a *ℤ h.c ≡ g.c *ℤ h.a
  pub ad : g.a *ℤ h.d ≡ g.d *ℤ h.a
  pub bc : g.b *ℤ h.c ≡ g.c *ℤ h.b
  pub bd : g.b *ℤ h.d ≡ g.d *ℤ h.b
  pub cd : g.c *ℤ h.d ≡ g.d *ℤ h.c

-- hs lists the planes of the halves of s and of the frame, in order of their four numbers, once each
pub record Carriers (s : Set) (hs : List Form) : Type 0 where
  pub each : (k : ℕ) (h : Form) → IsAt hs k h → (f : Form) × Lies (carriers s) f × SamePlane h f
  pub all : (f : Form) → Lies (carriers s) f → (k : ℕ) × (h : Form) × IsAt hs k h × SamePlane h f
  pub ordered : InOrder (λ g h. IsBelow (form_numbers g) (form_numbers h)) hs

-- the complex C shows the set s: its vertices are the vertices of s, in order, once each, with least maps
pub record Shows (s : Set) (C : Complex) : Type 0 where
  pub vertices : (k : ℕ) (v : Vertex) → IsAt C.vertices k v → IsVertex s v.point
  pub complete : (p : SpacePoint) → IsVertex s p → (k : ℕ) × (v : Vertex) × IsAt C.vertices k v × SamePoint v.point p
  pub ordered : InOrder (λ u v. IsPointBelow u.point v.point) C.vertices
  pub cones : (k : ℕ) (v : Vertex) → IsAt C.vertices k v → Cone v.map s v.point
  pub least : (k : ℕ) (v : Vertex) → IsAt C.vertices k v → Least v.map
  pub maps_ordered : (k : ℕ) (v : Vertex) → IsAt C.vertices k v → Ordered v.map
  pub edges : Edges C.vertices C.edges
  pub carriers : Carriers s C.carriers
