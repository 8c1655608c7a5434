-- Common points of planes.
use Rattle.std.specs.Prelude.{◌≡◌, ◌*ℤ◌, ◌<ℤ◌}
use Rattle.nef_space.specs.Prelude.{ℤ, pos, Vector, IsParallel, triple, SpacePoint, Form, form_at, normal_of, SamePoint}

-- m lies on all three planes, and no other point does
pub record IsOnlyCommon (p q r : Form) (m : SpacePoint) : Type 0 where
  pub on_p : form_at p m ≡ pos 0
  pub on_q : form_at q m ≡ pos 0
  pub on_r : form_at r m ≡ pos 0
  pub only : (n : SpacePoint) → form_at p n ≡ pos 0 → form_at q n ≡ pos 0 → form_at r n ≡ pos 0 → SamePoint n m

-- the triple product of the three planes' normals is zero
abbrev pub HasDependentNormals : Form → Form → Form → Type 0
HasDependentNormals p q r = triple (normal_of p) (normal_of q) (normal_of r) ≡ pos 0

-- the four numbers of g and of h are proportional: both are forms of one plane
pub record IsSamePlane (g h : Form) : Type 0 where
  pub parallel : IsParallel (normal_of g) (normal_of h)
  pub along_a : g.a *ℤ h.d ≡ h.a *ℤ g.d
  pub along_b : g.b *ℤ h.d ≡ h.b *ℤ g.d
  pub along_c : g.c *ℤ h.d ≡ h.c *ℤ g.d

-- a is a positive multiple of b
pub record IsStretched (a b : Vector) : Type 0 where
  pub factor : ℤ
  pub positive : pos 0 <ℤ factor
  pub x_is : a.x ≡ factor *ℤ b.x
  pub y_is : a.y ≡ factor *ℤ b.y
  pub z_is : a.z ≡ factor *ℤ b.z
