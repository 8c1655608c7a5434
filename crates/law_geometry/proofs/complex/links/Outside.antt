-- The points outside the closed frame are joined round the frame.
use Rattle.law_geometry.proofs.complex.links.Prelude.{◌≡◌, ℕ, ◌+◌, ◌*◌, ◌<◌, ◌≤◌, ℤ, pos, negsuc, ◌+ℤ◌, ◌-ℤ◌, ◌*ℤ◌, neg_ℤ, ◌<ℤ◌, ◌≤ℤ◌, nat_abs, arith, refl, ap, sym, ◌∙◌, inl, inr, ◌∷◌, subst, [], ints, by_lt_z, unsigned_abs-mul, mul-pos, mul-le-mul_left, Lies, ring, at, num, ◌⊕◌, ◌⊖◌, ◌⊗◌, sign-plus, plus-is, half_side, HasLabel, Germ, FlatDim, Joined, SpacePoint, Form, form_at, Ratio, InClosedFrame, toward, Set, zero_vector, Out, side, frame, flat-germ, ahead, near-ahead, span-3, joined-turned, joined-both, Germ-zero, seen, Complex, Shows, VertexSide, HasSideLabel, label-germ, even-by, LinkOutside, IsAtSide}
use Rattle.law_geometry.proofs.near.Frames.{flat_dim-outside}
use Rattle.law_geometry.proofs.near.Topology.{near-germ_zero}
use Rattle.law_geometry.proofs.complex.links.Ties.{same-between, joined-even}
use Rattle.law_geometry.proofs.complex.links.NearVertex.{free-dim}
use Rattle.law_geometry.proofs.complex.links.SideSight.{seen-free, side-sees}
use Rattle.law_geometry.proofs.complex.links.SidePoints.{at-side}
use Rattle.law_geometry.proofs.complex.links.SideLinks.{JoinsSides}

-- ---- beyond a side of the frame
abbrev pub IsPastSide : Form → SpacePoint → Type 0
IsPastSide h p = pos 0 <ℤ form_at h p

abbrev right : Form
right = side (pos 1) (pos 0) (pos 0)

abbrev left : Form
left = side (negsuc 0) (pos 0) (pos 0)

abbrev front : Form
front = side (pos 0) (pos 1) (pos 0)

abbrev rear : Form
rear = side (pos 0) (negsuc 0) (pos 0)

abbrev top : Form
top = side (pos 0) (pos 0) (pos 1)

abbrev bottom : Form
bottom = side (pos 0) (pos 0) (negsuc 0)

past : (f h : Form) (p : SpacePoint) → f ≡ h → IsPastSide h p → IsPastSide f p
past f h p e g = subst (λ (k : Form). IsPastSide k p) (sym e) g

past-outside : (h : Form) → Lies frame h → (p : SpacePoint) → IsPastSide h p → InClosedFrame p → ⊥
past-outside h (inl e) p g c = let k = past right h p e g in let l = c.along_x in omega (arith, ints)
past-outside h (inr (inl e)) p g c = let k = past left h p e g in let l = c.along_x in omega (arith, ints)
past-outside h (inr (inr (inl e))) p g c = let k = past front h p e g in let l = c.along_y in omega (arith, ints)
past-outside h (inr (inr (inr (inl e)))) p g c = let k = past rear h p e g in let l = c.along_y in omega (arith, ints)
past-outside h (inr (inr (inr (inr (inl e))))) p g c = let k = past top h p e g in let l = c.along_z in omega (arith, ints)
past-outside h (inr (inr (inr (inr (inr (inl e)))))) p g c = let k = past bottom h p e g in let l = c.along_z in omega (arith, ints)
past-outside h (inr (inr (inr (inr (inr (inr e)))))) p g c = absurd e

-- the way between two points past one side is outside
joined-past : (s : Set) (h : Form) → Lies frame h → (p q : SpacePoint) → IsPastSide h p → IsPastSide h q → Joined s p q
joined-past s h l p q a b =
    let f = λ (r : SpacePoint) (g : IsPastSide h r). flat_dim-outside s r (past-outside h l r g) in
    joined-even s 3 p q (even-by s 3 p q (f p a) (λ r c. f r (plus-is (form_at h r) (same-between h p q r c (sign-plus (form_at h q) b ∙ sym (sign-plus (form_at h p) a)) ∙ sign-plus (form_at h q) b))) (f q b))

-- ---- round the frame
abbrev whole_point : ℤ → ℤ → ℤ → SpacePoint
whole_point x y z = record { x = x; y = y; z = z; w = 1; proper = omega arith }

abbrev far_corner : SpacePoint
far_corner = whole_point (pos 4096) (pos 4096) (pos 4096)

abbrev second : SpacePoint
second = whole_point (pos 4096) (pos 4096) (negsuc 4095)

abbrev third : SpacePoint
third = whole_point (negsuc 4095) (pos 4096) (negsuc 4095)

abbrev near_corner : SpacePoint
near_corner = whole_point (negsuc 4095) (negsuc 4095) (negsuc 4095)

corners-joined : (s : Set) → Joined s near_corner far_corner
corners-joined s =
    joined-both s near_corner third far_corner (joined-past s bottom (inr (inr (inr (inr (inr (inl refl)))))) near_corner third (omega (arith, ints)) (omega (arith, ints)))
    (joined-both s third second far_corner (joined-past s front (inr (inr (inl refl))) third second (omega (arith, ints)) (omega (arith, ints)))
    (joined-past s right (inl refl) second far_corner (omega (arith, ints)) (omega (arith, ints))))

to-corner : (s : Set) (p : SpacePoint) → (InClosedFrame p → ⊥) → Joined s p far_corner
to-corner s p n =
    far p.x (pos (half_side * p.w))
    (λ h. joined-past s right (inl refl) p far_corner (omega (arith, ints)) (omega (arith, ints)))
    (λ h. round (joined-past s left (inr (inl refl)) p near_corner (omega (arith, ints)) (omega (arith, ints))))
    (λ a b.
    far p.y (pos (half_side * p.w))
    (λ h. joined-past s front (inr (inr (inl refl))) p far_corner (omega (arith, ints)) (omega (arith, ints)))
    (λ h. round (joined-past s rear (inr (inr (inr (inl refl)))) p near_corner (omega (arith, ints)) (omega (arith, ints))))
    (λ c d.
    far p.z (pos (half_side * p.w))
    (λ h. joined-past s top (inr (inr (inr (inr (inl refl))))) p far_corner (omega (arith, ints)) (omega (arith, ints)))
    (λ h. round (joined-past s bottom (inr (inr (inr (inr (inr (inl refl)))))) p near_corner (omega (arith, ints)) (omega (arith, ints))))
    (λ e f. absurd (n (record { along_x = omega (arith, ints); along_y = omega (arith, ints); along_z = omega (arith, ints) })))))
  where
    round : Joined s p near_corner → Joined s p far_corner
    round j = joined-both s p near_corner far_corner j (corners-joined s)

    far : (x b : ℤ) → (b <ℤ x → Joined s p far_corner) → (x <ℤ neg_ℤ b → Joined s p far_corner) → (x ≤ℤ b → neg_ℤ b ≤ℤ x → Joined s p far_corner) → Joined s p far_corner
    far x b f g h = by_lt_z b x f (λ k. by_lt_z x (neg_ℤ b) g (h k))

pub outside-joined : (s : Set) (p q : SpacePoint) → (InClosedFrame p → ⊥) → (InClosedFrame q → ⊥) → Joined s p q
outside-joined s p q m n = joined-both s p far_corner q (to-corner s p m) (joined-turned s q far_corner (to-corner s q n))

-- ---- a point with the label Out at which all directions are flat is outside the closed frame
abbrev middle : SpacePoint
middle = whole_point (pos 0) (pos 0) (pos 0)

-- a step from a point of the closed frame toward its middle leads into the frame
inward : (x : ℤ) (w c : ℕ) → 0 < w → nat_abs x ≤ half_side * w → nat_abs (x *ℤ pos (w + c) +ℤ pos 1 *ℤ pos w *ℤ (pos 0 *ℤ pos w -ℤ x *ℤ pos 1)) < half_side * (w * (w + c))
inward x w c some l =
    let e : x *ℤ pos (w + c) +ℤ pos 1 *ℤ pos w *ℤ (pos 0 *ℤ pos w -ℤ x *ℤ pos 1) ≡ pos c *ℤ x =
    ring (x ∷ pos w ∷ pos c ∷ []) (at 0 ⊗ (at 1 ⊕ at 2) ⊕ num (pos 1) ⊗ at 1 ⊗ (num (pos 0) ⊗ at 1 ⊖ at 0 ⊗ num (pos 1))) (at 2 ⊗ at 0) tt in
    let f : nat_abs (x *ℤ pos (w + c) +ℤ pos 1 *ℤ pos w *ℤ (pos 0 *ℤ pos w -ℤ x *ℤ pos 1)) ≡ c * nat_abs x = ap nat_abs e ∙ unsigned_abs-mul (pos c) x in
    let g = mul-le-mul_left {m = nat_abs x} {n = half_side * w} c l in
    let h = mul-pos some some in
    omega arith

out-outside : (s : Set) (p : SpacePoint) → FlatDim s p 3 → HasLabel s p Out → InClosedFrame p → ⊥
out-outside s p f o c =
    let h = f.0 in
    let d = toward p middle in
    let g : Germ s p d Out = flat-germ s p d Out (span-3 s p h.0 h.1 h.2 d h.3 h.4 h.5 h.6) o in
    by g
  where
    by : Germ s p (toward p middle) Out → ⊥
    by (n, some, all) =
        let t : Ratio = record { a = pos 1; b = p.w + (n + 1); proper = omega arith } in
        all t (omega (arith, ints), omega (arith, ints)) (record {
          along_x = inward p.x p.w (n + 1) p.proper c.along_x;
          along_y = inward p.y p.w (n + 1) p.proper c.along_y;
          along_z = inward p.z p.w (n + 1) p.proper c.along_z;
        })

-- ---- the link of the outside
module _ (s : Set) (C : Complex) (S : Shows s C) where
  abbrev Apart : VertexSide → Type 0
  Apart x = (p : SpacePoint) × IsAtSide s C x p × (InClosedFrame p → ⊥)

  point-outside : (x : VertexSide) → HasSideLabel C x Out → Apart x
  point-outside x (v, a, h) =
      let K = S.cones x.vertex v a in
      let o = side-sees v.map K.valid.shaped x.side Out h in
      let d = o.0 in
      let F = seen-free v.map x.side d o.1 in
      let g = label-germ v.map s v.point K d Out (seen (record { side = x.side; has = h; sees = o.1 })) in
      let p = ahead s v.point d in
      let l : HasLabel s p Out = (Germ-zero s p zero_vector Out (refl, refl, refl)).0 ((near-ahead s v.point d zero_vector Out).1 ((near-germ_zero s v.point d zero_vector Out (refl, refl, refl)).1 g)) in
      (p, at-side s C S x v Out a h d o.1, out-outside s p (free-dim v.map s v.point K d F) l)

  pub joins-outside : (x y : VertexSide) → LinkOutside C x y → JoinsSides s C x y
  joins-outside x y L =
      let P = point-outside x L.0 in
      let Q = point-outside y L.1 in
      (P.0, Q.0, P.1, Q.1, outside-joined s P.0 Q.0 P.2 Q.2)
