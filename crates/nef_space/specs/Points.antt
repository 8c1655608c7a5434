-- Points with rational coordinates, linear forms, the frame, and how points lie to one another.
use Rattle.std.specs.Prelude.{◌≡◌, ℕ, ◌*◌, ◌<◌, ◌≤◌, ℤ, pos, ◌+ℤ◌, ◌-ℤ◌, ◌*ℤ◌, neg_ℤ, nat_abs, List, [], ◌∷◌}
use Rattle.std.proofs.Math.Nat.{mul-pos}
use Rattle.nef_space.specs.Limits.{half_side}
use Rattle.nef_space.specs.Numbers.{IsBelow}
use Rattle.nef_space.specs.Vectors.{Vector, vector, dot, SameDirection}

-- the point (x/w, y/w, z/w)
pub record SpacePoint : Type 0 where
  pub x : ℤ
  pub y : ℤ
  pub z : ℤ
  pub w : ℕ
  pub proper : 0 < w

-- the form ax + by + cz + dw
pub record Form : Type 0 where
  pub a : ℤ
  pub b : ℤ
  pub c : ℤ
  pub d : ℤ

abbrev pub form : ℤ → ℤ → ℤ → ℤ → Form
form a b c d = record { a = a; b = b; c = c; d = d }

abbrev pub form_numbers : Form → List ℤ
form_numbers h = h.a ∷ h.b ∷ h.c ∷ h.d ∷ []

-- the form of the same plane with its sides exchanged
abbrev pub opposite_form : Form → Form
opposite_form h = form (neg_ℤ h.a) (neg_ℤ h.b) (neg_ℤ h.c) (neg_ℤ h.d)

abbrev pub form_at : Form → SpacePoint → ℤ
form_at h p = h.a *ℤ p.x +ℤ h.b *ℤ p.y +ℤ h.c *ℤ p.z +ℤ h.d *ℤ pos p.w

-- the form's normal
abbrev pub normal_of : Form → Vector
normal_of h = vector h.a h.b h.c

-- the product of the form's normal with the vector
abbrev pub slope : Form → Vector → ℤ
slope h d = dot (normal_of h) d

-- the form of the plane through p with the normal n
abbrev pub plane_through : Vector → SpacePoint → Form
plane_through n p = form (n.x *ℤ pos p.w) (n.y *ℤ pos p.w) (n.z *ℤ pos p.w) (neg_ℤ (n.x *ℤ p.x +ℤ n.y *ℤ p.y +ℤ n.z *ℤ p.z))

-- a rational number a/b
pub record Ratio : Type 0 where
  pub a : ℤ
  pub b : ℕ
  pub proper : 0 < b

-- the point p + t d
abbrev pub step : SpacePoint → Ratio → Vector → SpacePoint
step p t d = record {
  x = p.x *ℤ pos t.b +ℤ t.a *ℤ pos p.w *ℤ d.x;
  y = p.y *ℤ pos t.b +ℤ t.a *ℤ pos p.w *ℤ d.y;
  z = p.z *ℤ pos t.b +ℤ t.a *ℤ pos p.w *ℤ d.z;
  w = p.w * t.b;
  proper = mul-pos p.proper t.proper;
}

-- n |s/v - t/w| < 1
abbrev pub NearNumber : ℕ → ℤ → ℕ → ℤ → ℕ → Type 0
NearNumber n s v t w = n * nat_abs (s *ℤ pos w -ℤ t *ℤ pos v) < v * w

-- each coordinate of q differs from the same coordinate of p by less than 1/n
pub record Within (n : ℕ) (p q : SpacePoint) : Type 0 where
  pub along_x : NearNumber n q.x q.w p.x p.w
  pub along_y : NearNumber n q.y q.w p.y p.w
  pub along_z : NearNumber n q.z q.w p.z p.w

pub record SamePoint (p q : SpacePoint) : Type 0 where
  pub along_x : p.x *ℤ pos q.w ≡ q.x *ℤ pos p.w
  pub along_y : p.y *ℤ pos q.w ≡ q.y *ℤ pos p.w
  pub along_z : p.z *ℤ pos q.w ≡ q.z *ℤ pos p.w

pub record InFrame (p : SpacePoint) : Type 0 where
  pub along_x : nat_abs p.x < half_side * p.w
  pub along_y : nat_abs p.y < half_side * p.w
  pub along_z : nat_abs p.z < half_side * p.w

pub record InClosedFrame (p : SpacePoint) : Type 0 where
  pub along_x : nat_abs p.x ≤ half_side * p.w
  pub along_y : nat_abs p.y ≤ half_side * p.w
  pub along_z : nat_abs p.z ≤ half_side * p.w

-- the order of points by x/w, then by y/w, then by z/w
abbrev pub IsPointBelow : SpacePoint → SpacePoint → Type 0
IsPointBelow p q = IsBelow
    ((p.x *ℤ pos q.w) ∷ (p.y *ℤ pos q.w) ∷ (p.z *ℤ pos q.w) ∷ [])
    ((q.x *ℤ pos p.w) ∷ (q.y *ℤ pos p.w) ∷ (q.z *ℤ pos p.w) ∷ [])

-- a positive multiple of the vector from p to q
abbrev pub toward : SpacePoint → SpacePoint → Vector
toward p q = vector (q.x *ℤ pos p.w -ℤ p.x *ℤ pos q.w) (q.y *ℤ pos p.w -ℤ p.y *ℤ pos q.w) (q.z *ℤ pos p.w -ℤ p.z *ℤ pos q.w)

-- q is p + t d for some t > 0
abbrev pub IsAhead : SpacePoint → Vector → SpacePoint → Type 0
IsAhead p d q = SameDirection (toward p q) d

-- r lies strictly between p and q
abbrev pub IsBetween : SpacePoint → SpacePoint → SpacePoint → Type 0
IsBetween p r q = SameDirection (toward p r) (toward r q)
