-- Turned points: the values of turned forms, and how the points lie to one another and to the frame.
use Rattle.law_geometry.proofs.turns.Prelude.{◌≡◌, ℕ, ◌*◌, ◌<◌, ℤ, pos, ◌+ℤ◌, ◌-ℤ◌, ◌*ℤ◌, neg_ℤ, nat_abs, ap, sym, ◌∙◌, subst, arith, ◌↔◌, [], ◌∷◌, ints, mul-pos, ring, at, neg, ◌⊕◌, ◌⊖◌, ◌⊗◌, half_side, Vector, SameDirection, SpacePoint, Form, form_at, slope, Ratio, step, toward, NearNumber, Within, SamePoint, InFrame, IsAhead, IsBetween, Triple, vector_of_triple, triple_of, turned_vector, turned_plane, turned_point, unturned_point}
use Rattle.law_geometry.proofs.turns.Coordinates.{zip-turned, IsOddFunction, SignBlind, each-turned, each-back, dots-turned, turned-back}
use Rattle.law_geometry.proofs.turns.Vectors.{same_direction-turned}
use Rattle.nef_space.proofs.Products.{neg-*ℤ}
use Rattle.nef_space.proofs.Elementary.{size-opposite}

abbrev pub numbers : SpacePoint → Triple
numbers p = (p.x, p.y, p.z)

-- the point with these numbers
abbrev pub located : (w : ℕ) → 0 < w → Triple → SpacePoint
located w proper t = record { x = t.0; y = t.1; z = t.2; w = w; proper = proper }

pub form-turned : (k : ℕ) (h : Form) (p : SpacePoint) → form_at (turned_plane k h) (turned_point k p) ≡ form_at h p
form-turned k h p = ap (λ r. r +ℤ h.d *ℤ pos p.w) (dots-turned k (h.a, h.b, h.c) (numbers p))

pub slope-turned : (k : ℕ) (h : Form) (d : Vector) → slope (turned_plane k h) (turned_vector k d) ≡ slope h d
slope-turned k h d = dots-turned k (h.a, h.b, h.c) (triple_of d)

-- ---- every point is the image of one
pub point-back : (k : ℕ) (p : SpacePoint) → turned_point k (unturned_point k p) ≡ p
point-back k p = ap (located p.w p.proper) (turned-back k (numbers p))

pub every-point : (k : ℕ) (P : SpacePoint → Type 0) → ((p : SpacePoint) → P (turned_point k p)) → (q : SpacePoint) → P q
every-point k P f q = subst P (point-back k q) (f (unturned_point k q))

-- ---- steps and ways
step-odd : (b : ℤ) (m : ℤ) → IsOddFunction (λ x y. x *ℤ b +ℤ m *ℤ y)
step-odd b m x y = ring (b ∷ m ∷ x ∷ y ∷ []) (neg (at 2) ⊗ at 0 ⊕ at 1 ⊗ neg (at 3)) (neg (at 2 ⊗ at 0 ⊕ at 1 ⊗ at 3)) tt

pub step-turned : (k : ℕ) (p : SpacePoint) (t : Ratio) (d : Vector) → step (turned_point k p) t (turned_vector k d) ≡ turned_point k (step p t d)
step-turned k p t d = ap (located (p.w * t.b) (mul-pos p.proper t.proper)) (zip-turned (λ x y. x *ℤ pos t.b +ℤ t.a *ℤ pos p.w *ℤ y) (step-odd (pos t.b) (t.a *ℤ pos p.w)) k (numbers p) (triple_of d))

toward-odd : (v w : ℤ) → IsOddFunction (λ x y. y *ℤ v -ℤ x *ℤ w)
toward-odd v w x y = ring (v ∷ w ∷ x ∷ y ∷ []) (neg (at 3) ⊗ at 0 ⊖ neg (at 2) ⊗ at 1) (neg (at 3 ⊗ at 0 ⊖ at 2 ⊗ at 1)) tt

pub toward-turned : (k : ℕ) (p q : SpacePoint) → toward (turned_point k p) (turned_point k q) ≡ turned_vector k (toward p q)
toward-turned k p q = ap vector_of_triple (zip-turned (λ x y. y *ℤ pos p.w -ℤ x *ℤ pos q.w) (toward-odd (pos p.w) (pos q.w)) k (numbers p) (numbers q))

pub ahead-turned : (k : ℕ) (p : SpacePoint) (d : Vector) (q : SpacePoint) → IsAhead (turned_point k p) (turned_vector k d) (turned_point k q) ↔ IsAhead p d q
ahead-turned k p d q = (
  λ h. (same_direction-turned k (toward p q) d).0 (subst (λ (v : Vector). SameDirection v (turned_vector k d)) (toward-turned k p q) h),
  λ h. subst (λ (v : Vector). SameDirection v (turned_vector k d)) (sym (toward-turned k p q)) ((same_direction-turned k (toward p q) d).1 h),
)

pub between-turned : (k : ℕ) (p r q : SpacePoint) → IsBetween (turned_point k p) (turned_point k r) (turned_point k q) ↔ IsBetween p r q
between-turned k p r q =
    let T = turned_point k in
    let e = toward-turned k p r in
    let f = toward-turned k r q in (
      λ h. (same_direction-turned k (toward p r) (toward r q)).0 (subst (λ (v : Vector). SameDirection (turned_vector k (toward p r)) v) f (subst (λ (v : Vector). SameDirection v (toward (T r) (T q))) e h)),
      λ h. subst (λ (v : Vector). SameDirection v (toward (T r) (T q))) (sym e) (subst (λ (v : Vector). SameDirection (turned_vector k (toward p r)) v) (sym f) ((same_direction-turned k (toward p r) (toward r q)).1 h)),
    )

-- ---- coordinate by coordinate
abbrev SameNumbers : ℕ → ℕ → ℤ → ℤ → Type 0
SameNumbers v w x y = x *ℤ pos w ≡ y *ℤ pos v

same-blind : (v w : ℕ) → SignBlind (SameNumbers v w)
same-blind v w x y e = neg-*ℤ x (pos w) ∙ ap neg_ℤ e ∙ sym (neg-*ℤ y (pos v))

pub same_point-turned : (k : ℕ) (p q : SpacePoint) → SamePoint (turned_point k p) (turned_point k q) ↔ SamePoint p q
same_point-turned k p q = (
  λ h. let e = each-back (SameNumbers p.w q.w) (same-blind p.w q.w) k (numbers p) (numbers q) (h.along_x, h.along_y, h.along_z) in
      record { along_x = e.0; along_y = e.1; along_z = e.2 },
  λ h. let e = each-turned (SameNumbers p.w q.w) (same-blind p.w q.w) k (numbers p) (numbers q) (h.along_x, h.along_y, h.along_z) in
      record { along_x = e.0; along_y = e.1; along_z = e.2 },
)

abbrev IsInside : ℕ → ℤ → ℤ → Type 0
IsInside w x y = nat_abs x < half_side * w

inside-blind : (w : ℕ) → SignBlind (IsInside w)
inside-blind w x y h = omega (arith, ints, h)

pub frame-turned : (k : ℕ) (p : SpacePoint) → InFrame (turned_point k p) ↔ InFrame p
frame-turned k p = (
  λ h. let e = each-back (IsInside p.w) (inside-blind p.w) k (numbers p) (numbers p) (h.along_x, h.along_y, h.along_z) in
      record { along_x = e.0; along_y = e.1; along_z = e.2 },
  λ h. let e = each-turned (IsInside p.w) (inside-blind p.w) k (numbers p) (numbers p) (h.along_x, h.along_y, h.along_z) in
      record { along_x = e.0; along_y = e.1; along_z = e.2 },
)

abbrev IsNear : ℕ → ℕ → ℕ → ℤ → ℤ → Type 0
IsNear n v w x y = NearNumber n y w x v

difference-size : (x y v w : ℤ) → nat_abs (neg_ℤ y *ℤ v -ℤ neg_ℤ x *ℤ w) ≡ nat_abs (y *ℤ v -ℤ x *ℤ w)
difference-size x y v w = ap nat_abs (toward-odd v w x y) ∙ size-opposite (y *ℤ v -ℤ x *ℤ w)

near-blind : (n v w : ℕ) → SignBlind (IsNear n v w)
near-blind n v w x y h = subst (λ (i : ℕ). n * i < w * v) (sym (difference-size x y (pos v) (pos w))) h

pub within-turned : (k : ℕ) (n : ℕ) (p q : SpacePoint) → Within n (turned_point k p) (turned_point k q) ↔ Within n p q
within-turned k n p q = (
  λ h. let e = each-back (IsNear n p.w q.w) (near-blind n p.w q.w) k (numbers p) (numbers q) (h.along_x, h.along_y, h.along_z) in
      record { along_x = e.0; along_y = e.1; along_z = e.2 },
  λ h. let e = each-turned (IsNear n p.w q.w) (near-blind n p.w q.w) k (numbers p) (numbers q) (h.along_x, h.along_y, h.along_z) in
      record { along_x = e.0; along_y = e.1; along_z = e.2 },
)
