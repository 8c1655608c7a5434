-- The frame is open, and outside its closure nothing changes.
use Rattle.law_geometry.proofs.near.Prelude.{◌≡◌, ◌+◌, ◌*◌, ℤ, pos, negsuc, neg_ℤ, ◌≤ℤ◌, ◌<ℤ◌, arith, refl, sym, inl, inr, ◌↔◌, subst, ints, by_lt_z, Lies, sign-plus, half_side, SpacePoint, Form, form_at, Ratio, step, Within, InFrame, InClosedFrame, Vector, vector, Set, HasLabel, Germ, Flat, FlatDim, Label, Out, Not, In, sign_at, side, frame}
use Rattle.nef_space.specs.Signs.{Sign, minus, nought, plus}
use Rattle.law_geometry.proofs.near.Near.{stride, step-within, reach_all}
use Rattle.law_geometry.proofs.near.Cells.{reach-some, keeps-all, coordinate-in, InFrame-cells}
use Rattle.nef_space.proofs.Elementary.{minus-not_nought, plus-not_nought}

-- ---- the sides at a point
x-sides : (p : SpacePoint) → InFrame p → (sign_at (side (pos 1) (pos 0) (pos 0)) p ≡ minus) × (sign_at (side (negsuc 0) (pos 0) (pos 0)) p ≡ minus)
x-sides p i = (coordinate-in (side (pos 1) (pos 0) (pos 0)) (side (negsuc 0) (pos 0) (pos 0)) p.x p (omega (arith, ints)) (omega (arith, ints))).0 i.along_x

y-sides : (p : SpacePoint) → InFrame p → (sign_at (side (pos 0) (pos 1) (pos 0)) p ≡ minus) × (sign_at (side (pos 0) (negsuc 0) (pos 0)) p ≡ minus)
y-sides p i = (coordinate-in (side (pos 0) (pos 1) (pos 0)) (side (pos 0) (negsuc 0) (pos 0)) p.y p (omega (arith, ints)) (omega (arith, ints))).0 i.along_y

z-sides : (p : SpacePoint) → InFrame p → (sign_at (side (pos 0) (pos 0) (pos 1)) p ≡ minus) × (sign_at (side (pos 0) (pos 0) (negsuc 0)) p ≡ minus)
z-sides p i = (coordinate-in (side (pos 0) (pos 0) (pos 1)) (side (pos 0) (pos 0) (negsuc 0)) p.z p (omega (arith, ints)) (omega (arith, ints))).0 i.along_z

at_side : (p : SpacePoint) (g h : Form) → g ≡ h → sign_at g p ≡ minus → sign_at h p ≡ minus
at_side p g h e s = subst (λ (f : Form). sign_at f p ≡ minus) e s

-- all sides are negative at a point of the frame
pub frame-minus : (p : SpacePoint) → InFrame p → (h : Form) → Lies frame h → sign_at h p ≡ minus
frame-minus p i h (inl e) = at_side p _ h e (x-sides p i).0
frame-minus p i h (inr (inl e)) = at_side p _ h e (x-sides p i).1
frame-minus p i h (inr (inr (inl e))) = at_side p _ h e (y-sides p i).0
frame-minus p i h (inr (inr (inr (inl e)))) = at_side p _ h e (y-sides p i).1
frame-minus p i h (inr (inr (inr (inr (inl e))))) = at_side p _ h e (z-sides p i).0
frame-minus p i h (inr (inr (inr (inr (inr (inl e)))))) = at_side p _ h e (z-sides p i).1
frame-minus p i h (inr (inr (inr (inr (inr (inr e)))))) = absurd e

-- ---- the frame is open
pub frame-near : (p q : SpacePoint) → InFrame p → Within (reach_all frame p) p q → InFrame q
frame-near p q i c = InFrame-cells frame (λ h l. l) p q (λ h l. sym (keeps-all frame p q c h l (λ o. minus-not_nought (sign_at h p) (frame-minus p i h l) o))) i

pub no-germ_out : (s : Set) (p : SpacePoint) (d : Vector) → InFrame p → Germ s p d Out → ⊥
no-germ_out s p d i (n, some, f) =
    let k = n + stride (reach_all frame p) d in
    let t : Ratio = record { a = pos 1; b = k + 1; proper = omega arith } in
    f t (omega (arith, ints), omega (arith, ints)) (frame-near p (step p t d) i (step-within (reach_all frame p) p d t (omega (arith, ints), omega (arith, ints))))

-- ---- outside
-- a point outside the closed frame is beyond a side
record Beyond (p : SpacePoint) : Type 0 where
  pub side_of : Form
  pub listed : Lies frame side_of
  pub above : sign_at side_of p ≡ plus

beyond : (p : SpacePoint) → (InClosedFrame p → ⊥) → Beyond p
beyond p n =
    far p.x (pos (half_side * p.w))
    (λ h. record { side_of = side (pos 1) (pos 0) (pos 0); listed = inl refl; above = sign-plus (form_at (side (pos 1) (pos 0) (pos 0)) p) (omega (arith, ints)) })
    (λ h. record { side_of = side (negsuc 0) (pos 0) (pos 0); listed = inr (inl refl); above = sign-plus (form_at (side (negsuc 0) (pos 0) (pos 0)) p) (omega (arith, ints)) })
    (λ x0 x1.
    far p.y (pos (half_side * p.w))
    (λ h. record { side_of = side (pos 0) (pos 1) (pos 0); listed = inr (inr (inl refl)); above = sign-plus (form_at (side (pos 0) (pos 1) (pos 0)) p) (omega (arith, ints)) })
    (λ h. record { side_of = side (pos 0) (negsuc 0) (pos 0); listed = inr (inr (inr (inl refl))); above = sign-plus (form_at (side (pos 0) (negsuc 0) (pos 0)) p) (omega (arith, ints)) })
    (λ y0 y1.
    far p.z (pos (half_side * p.w))
    (λ h. record { side_of = side (pos 0) (pos 0) (pos 1); listed = inr (inr (inr (inr (inl refl)))); above = sign-plus (form_at (side (pos 0) (pos 0) (pos 1)) p) (omega (arith, ints)) })
    (λ h. record { side_of = side (pos 0) (pos 0) (negsuc 0); listed = inr (inr (inr (inr (inr (inl refl))))); above = sign-plus (form_at (side (pos 0) (pos 0) (negsuc 0)) p) (omega (arith, ints)) })
    (λ z0 z1. absurd (n (record { along_x = omega (arith, ints); along_y = omega (arith, ints); along_z = omega (arith, ints) })))))
  where
    far : (x b : ℤ) → (b <ℤ x → Beyond p) → (x <ℤ neg_ℤ b → Beyond p) → (x ≤ℤ b → neg_ℤ b ≤ℤ x → Beyond p) → Beyond p
    far x b f g h = by_lt_z b x f (λ k. by_lt_z x (neg_ℤ b) g (h k))

pub still-outside : (p : SpacePoint) → (InClosedFrame p → ⊥) → (q : SpacePoint) → Within (reach_all frame p) p q → InFrame q → ⊥
still-outside p n q c i =
    let b = beyond p n in
    differ (sign_at b.side_of p) (sign_at b.side_of q) b.above (frame-minus q i b.side_of b.listed) (λ o. keeps-all frame p q c b.side_of b.listed o)
  where
    differ : (s t : Sign) → s ≡ plus → t ≡ minus → ((s ≡ nought → ⊥) → t ≡ s) → ⊥
    differ s t e f g = let k = g (λ o. plus-not_nought s e o) in cc

both-out : (s : Set) (q r : SpacePoint) → (InFrame q → ⊥) → (InFrame r → ⊥) → (l : Label) → HasLabel s q l ↔ HasLabel s r l
both-out s q r m n Out = (λ h. n, λ h. m)
both-out s q r m n Not = (λ h. absurd (m h.0), λ h. absurd (n h.0))
both-out s q r m n In = (λ h. absurd (m h.0), λ h. absurd (n h.0))

pub flat-outside : (s : Set) (p : SpacePoint) (d : Vector) → (InClosedFrame p → ⊥) → Flat s p d
flat-outside s p d n = (reach_all frame p, reach-some frame p, λ q t c k l. both-out s q (step q t d) (still-outside p n q c) (still-outside p n (step q t d) k) l)

pub flat_dim-outside : (s : Set) (p : SpacePoint) → (InClosedFrame p → ⊥) → FlatDim s p 3
flat_dim-outside s p n =
    let x = vector (pos 1) (pos 0) (pos 0) in
    let y = vector (pos 0) (pos 1) (pos 0) in
    let z = vector (pos 0) (pos 0) (pos 1) in
    ((x, y, z, (λ e. omega (arith, ints, e)), flat-outside s p x n, flat-outside s p y n, flat-outside s p z n), λ h. h)
