-- Points by their numbers.
use Rattle.nef_geo.proofs.Prelude.{◌≡◌, ◌+ℤ◌, ℤ, pos, ◌*ℤ◌, ◌<ℤ◌, nat_abs, ap, [], ◌∷◌, Form, form_at, SamePoint, at, ◌⊗◌, ring, IsReduced, point_at, point_of, Point, pos-abs}

-- one coordinate of numbers and of their parts
along : (g x x' w w' : ℤ) → pos 0 <ℤ w → pos 0 <ℤ w' → x ≡ g *ℤ x' → w ≡ g *ℤ w' → x *ℤ pos (nat_abs w') ≡ x' *ℤ pos (nat_abs w)
along g x x' w w' p q ex ew = rw (pos-abs w p, pos-abs w' q, ex, ew) (ring (g ∷ x' ∷ w' ∷ []) (at 0 ⊗ at 1 ⊗ at 2) (at 1 ⊗ (at 0 ⊗ at 2)) tt)

pub SamePoint-reduced : (x y z w x' y' z' w' : ℤ) (p : pos 0 <ℤ w) (q : pos 0 <ℤ w') → IsReduced x y z w x' y' z' w' → SamePoint (point_at x y z w p) (point_at x' y' z' w' q)
SamePoint-reduced x y z w x' y' z' w' p q r = record {
  along_x = along r.factor x x' w w' p q r.x_is r.w_is;
  along_y = along r.factor y y' w w' p q r.y_is r.w_is;
  along_z = along r.factor z z' w w' p q r.z_is r.w_is;
}

-- the form by the point's numbers
pub form_at-point_of : (h : Form) (p : Point) → form_at h (point_of p) ≡ h.a *ℤ p.x +ℤ h.b *ℤ p.y +ℤ h.c *ℤ p.z +ℤ h.d *ℤ p.w
form_at-point_of h p = ap (λ (n : ℤ). h.a *ℤ p.x +ℤ h.b *ℤ p.y +ℤ h.c *ℤ p.z +ℤ h.d *ℤ n) (pos-abs p.w p.proper)
