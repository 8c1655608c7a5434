-- Homogeneous vectors (x, y, z, w): the point (x/w, y/w, z/w) for a positive w, the direction (x, y, z) where w is
-- nought. So points, rays, directions and segments, also of great circles, share laws.
use Rattle.std.specs.Prelude.{◌≡◌, ◌+◌, ◌<◌, ◌+ℤ◌, ◌*ℤ◌, ◌∷◌, ◌⊎◌}
use Rattle.nef_space.specs.Prelude.{ℕ, ℤ, pos, nat_abs, List, [], sign, Lies, Vector, SpacePoint, Form, form, SamePoint, IsBetween}

pub record Homogeneous : Type 0 where
  pub x : ℤ
  pub y : ℤ
  pub z : ℤ
  pub w : ℤ

abbrev pub homogeneous : ℤ → ℤ → ℤ → ℤ → Homogeneous
homogeneous x y z w = record { x = x; y = y; z = z; w = w }

abbrev pub of_point : SpacePoint → Homogeneous
of_point p = homogeneous p.x p.y p.z (pos p.w)

abbrev pub of_direction : Vector → Homogeneous
of_direction d = homogeneous d.x d.y d.z (pos 0)

-- the value of the form at the vector: form_at at a point, the slope at a direction
abbrev pub form_on : Form → Homogeneous → ℤ
form_on h v = h.a *ℤ v.x +ℤ h.b *ℤ v.y +ℤ h.c *ℤ v.z +ℤ h.d *ℤ v.w

-- the form of the plane through the origin with the normal n
abbrev pub direction_form : Vector → Form
direction_form n = form n.x n.y n.z (pos 0)

-- the vector i p + j q
abbrev pub mix : ℕ → Homogeneous → ℕ → Homogeneous → Homogeneous
mix i p j q = homogeneous
    (pos i *ℤ p.x +ℤ pos j *ℤ q.x)
    (pos i *ℤ p.y +ℤ pos j *ℤ q.y)
    (pos i *ℤ p.z +ℤ pos j *ℤ q.z)
    (pos i *ℤ p.w +ℤ pos j *ℤ q.w)

-- k r is i p + j q
pub record IsSum (k : ℕ) (r : Homogeneous) (i : ℕ) (p : Homogeneous) (j : ℕ) (q : Homogeneous) : Type 0 where
  pub is_x : pos k *ℤ r.x ≡ pos i *ℤ p.x +ℤ pos j *ℤ q.x
  pub is_y : pos k *ℤ r.y ≡ pos i *ℤ p.y +ℤ pos j *ℤ q.y
  pub is_z : pos k *ℤ r.z ≡ pos i *ℤ p.z +ℤ pos j *ℤ q.z
  pub is_w : pos k *ℤ r.w ≡ pos i *ℤ p.w +ℤ pos j *ℤ q.w

-- the vectors are equal up to a positive factor: k p = l q
pub record SameUpToFactor (p q : Homogeneous) : Type 0 where
  pub k : ℕ
  pub l : ℕ
  pub some_k : 0 < k
  pub some_l : 0 < l
  pub is_x : pos k *ℤ p.x ≡ pos l *ℤ q.x
  pub is_y : pos k *ℤ p.y ≡ pos l *ℤ q.y
  pub is_z : pos k *ℤ p.z ≡ pos l *ℤ q.z
  pub is_w : pos k *ℤ p.w ≡ pos l *ℤ q.w

-- r is i p + j q up to a positive factor, with i and j positive
pub record IsMixed (p r q : Homogeneous) : Type 0 where
  pub k : ℕ
  pub i : ℕ
  pub j : ℕ
  pub some_k : 0 < k
  pub some_i : 0 < i
  pub some_j : 0 < j
  pub sum : IsSum k r i p j q

-- r is i p + j q up to a positive factor, where one of i and j may be nought: r is on the closed segment from p to q
pub record OnSegment (p r q : Homogeneous) : Type 0 where
  pub k : ℕ
  pub i : ℕ
  pub j : ℕ
  pub some_k : 0 < k
  pub some : 0 < i + j
  pub sum : IsSum k r i p j q

-- the point r is p or q or lies strictly between them
abbrev pub IsOnSegment : SpacePoint → SpacePoint → SpacePoint → Type 0
IsOnSegment p r q = SamePoint r p ⊎ IsBetween p r q ⊎ SamePoint r q

-- the direction r is passed strictly on the way from d to e along a great circle; r is passed, or is an end
abbrev pub IsPassed : Vector → Vector → Vector → Type 0
IsPassed d r e = IsMixed (of_direction d) (of_direction r) (of_direction e)

abbrev pub OnWay : Vector → Vector → Vector → Type 0
OnWay d r e = OnSegment (of_direction d) (of_direction r) (of_direction e)

-- the forms of the list have the same signs at u and v
abbrev pub SameFormSigns : List Form → Homogeneous → Homogeneous → Type 0
SameFormSigns hs u v = (h : Form) → Lies hs h → sign (form_on h u) ≡ sign (form_on h v)

-- the forms of the list that aren't nought at v have the same signs at u
abbrev pub KeepsFormSigns : List Form → Homogeneous → Homogeneous → Type 0
KeepsFormSigns hs v u = (h : Form) → Lies hs h → (form_on h v ≡ pos 0 → ⊥) → sign (form_on h u) ≡ sign (form_on h v)

abbrev pub IsZeroForm : Form → Type 0
IsZeroForm h = (h.a ≡ pos 0) × (h.b ≡ pos 0) × (h.c ≡ pos 0) × (h.d ≡ pos 0)

-- no form of the list is nought at v, but for those that are nought everywhere
abbrev pub Avoids : List Form → Homogeneous → Type 0
Avoids hs v = (h : Form) → Lies hs h → ¬ IsZeroForm h → form_on h v ≡ pos 0 → ⊥

-- from this k on, k p + e has the sign of p at each form of the list that isn't nought at p
abbrev pub form_amount : List Form → Homogeneous → ℕ
form_amount [] e = 1
form_amount (h ∷ hs) e = nat_abs (form_on h e) + form_amount hs e
