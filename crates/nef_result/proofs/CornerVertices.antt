-- The frame's corners are vertices of every set, and the only ones of a set that holds all of the frame or nothing of it.
use Rattle.nef_result.proofs.Prelude.{◌≡◌, ℤ, pos, negsuc, neg_ℤ, ◌+ℤ◌, ◌*ℤ◌, ◌<ℤ◌, arith, refl, sym, ◌∙◌, ap, ◌⊎◌, inl, inr, ⊎_elim, Bool, true, false, not, subst, ints, minus, nought, sign, minus-is, nought-is, sign-minus, mul_pos, by_order, SpacePoint, Form, form_at, slope, Vector, vector, IsDirection, Set, Flat, IsVertex, Label, Out, sign_at, slide, FlatCone, is_nought, Germ-unique, FlatCone-from_flat, Flat-from_cone, slope-slide, frame_end, FrameCorner, ends, IsFrameCornerAt, axis_x, axis_y, axis_z}
use Rattle.law_geometry.proofs.near.Flats.{FlatCone-from_carriers}
use Rattle.nef_result.proofs.Walls.{Axis, on_x, on_y, on_z, wall, listed-wall, IsOneLabelSet, LeadsIn, germ-framed, germ-outward}

abbrev pub is_high_on : FrameCorner → Axis → Bool
is_high_on k on_x = k.x
is_high_on k on_y = k.y
is_high_on k on_z = k.z

abbrev pub axis_number : Axis → SpacePoint → ℤ
axis_number on_x p = p.x
axis_number on_y p = p.y
axis_number on_z p = p.z

abbrev pub inward : Bool → ℤ
inward true = negsuc 0
inward false = pos 1

-- ---- which sides a corner lies on
on-wall : (a : Axis) (b : Bool) (p : SpacePoint) → axis_number a p ≡ frame_end b *ℤ pos p.w → form_at (wall a b) p ≡ pos 0
on-wall on_x true p e = omega (arith, ints)
on-wall on_x false p e = omega (arith, ints)
on-wall on_y true p e = omega (arith, ints)
on-wall on_y false p e = omega (arith, ints)
on-wall on_z true p e = omega (arith, ints)
on-wall on_z false p e = omega (arith, ints)

off-wall : (a : Axis) (b : Bool) (p : SpacePoint) → axis_number a p ≡ frame_end b *ℤ pos p.w → form_at (wall a (not b)) p <ℤ pos 0
off-wall on_x true p e = let m = p.proper in omega (arith, ints)
off-wall on_x false p e = let m = p.proper in omega (arith, ints)
off-wall on_y true p e = let m = p.proper in omega (arith, ints)
off-wall on_y false p e = let m = p.proper in omega (arith, ints)
off-wall on_z true p e = let m = p.proper in omega (arith, ints)
off-wall on_z false p e = let m = p.proper in omega (arith, ints)

coordinate-from : (a : Axis) (b : Bool) (p : SpacePoint) → form_at (wall a b) p ≡ pos 0 → axis_number a p ≡ frame_end b *ℤ pos p.w
coordinate-from on_x true p e = omega (arith, ints)
coordinate-from on_x false p e = omega (arith, ints)
coordinate-from on_y true p e = omega (arith, ints)
coordinate-from on_y false p e = omega (arith, ints)
coordinate-from on_z true p e = omega (arith, ints)
coordinate-from on_z false p e = omega (arith, ints)

-- an inward vector
abbrev pub inward_way : FrameCorner → Vector
inward_way k = vector (inward k.x) (inward k.y) (inward k.z)

inward-slope : (k : FrameCorner) (a : Axis) (b : Bool) → b ≡ is_high_on k a → slope (wall a b) (inward_way k) ≡ negsuc 0
inward-slope k on_x true e = rw (sym e) (omega (arith, ints))
inward-slope k on_x false e = rw (sym e) (omega (arith, ints))
inward-slope k on_y true e = rw (sym e) (omega (arith, ints))
inward-slope k on_y false e = rw (sym e) (omega (arith, ints))
inward-slope k on_z true e = rw (sym e) (omega (arith, ints))
inward-slope k on_z false e = rw (sym e) (omega (arith, ints))

either-end : (b c : Bool) → (b ≡ c) ⊎ (b ≡ not c)
either-end true true = inl refl
either-end true false = inr refl
either-end false true = inr refl
either-end false false = inl refl

-- -1 + m m isn't negative where m isn't zero
not-minus : (m : ℤ) → (m ≡ pos 0 → ⊥) → sign (pos 1 *ℤ negsuc 0 +ℤ m *ℤ m) ≡ minus → ⊥
not-minus m n e =
    let l = minus-is (pos 1 *ℤ negsuc 0 +ℤ m *ℤ m) e in
    by_order m (pos 0)
    (λ h. let q = mul_pos (neg_ℤ m) (neg_ℤ m) (omega (arith, ints)) (omega (arith, ints)) in let r : neg_ℤ m *ℤ neg_ℤ m ≡ m *ℤ m = grind (arith, ints) in omega (arith, ints))
    (λ h. n h)
    (λ h. let q = mul_pos m m h h in omega (arith, ints))

slope-x : (b : Bool) (d : Vector) → slope (wall on_x b) d ≡ pos 0 → d.x ≡ pos 0
slope-x true d e = omega (arith, ints)
slope-x false d e = omega (arith, ints)

slope-y : (b : Bool) (d : Vector) → slope (wall on_y b) d ≡ pos 0 → d.y ≡ pos 0
slope-y true d e = omega (arith, ints)
slope-y false d e = omega (arith, ints)

slope-z : (b : Bool) (d : Vector) → slope (wall on_z b) d ≡ pos 0 → d.z ≡ pos 0
slope-z true d e = omega (arith, ints)
slope-z false d e = omega (arith, ints)

-- ---- a corner is a vertex, whatever the set
pub beside : (k : FrameCorner) (p : SpacePoint) → IsFrameCornerAt k p → (a : Axis) → axis_number a p ≡ frame_end (is_high_on k a) *ℤ pos p.w
beside k p c on_x = c.along_x
beside k p c on_y = c.along_y
beside k p c on_z = c.along_z

pub through : (k : FrameCorner) (p : SpacePoint) → IsFrameCornerAt k p → (a : Axis) → sign_at (wall a (is_high_on k a)) p ≡ nought
through k p c a = ap sign (on-wall a (is_high_on k a) p (beside k p c a))

-- a direction that leads inward from the three sides at the corner
pub leads-in : (k : FrameCorner) (p : SpacePoint) → IsFrameCornerAt k p → (d : Vector) → ((a : Axis) → sign (slope (wall a (is_high_on k a)) d) ≡ minus) → (a : Axis) (b : Bool) → LeadsIn p d a b
leads-in k p c d f a b = ⊎_elim
    (λ e. subst (LeadsIn p d a) (sym e) (inr (through k p c a, f a)))
    (λ e. subst (LeadsIn p d a) (sym e) (inl (sign-minus (form_at (wall a (not (is_high_on k a))) p) (off-wall a (is_high_on k a) p (beside k p c a)))))
    (either-end b (is_high_on k a))

module _ (s : Set) (k : FrameCorner) (p : SpacePoint) (c : IsFrameCornerAt k p) where
  carried : (d : Vector) (a : Axis) → (slope (wall a (is_high_on k a)) d ≡ pos 0 → ⊥) → FlatCone s p d → ⊥
  carried d a n f =
      let h = wall a (is_high_on k a) in
      let m = slope h d in
      let v = inward_way k in
      let g = germ-framed s p v (leads-in k p c v (λ o. ap sign (inward-slope k o (is_high_on k o) refl))) in
      let into = (f v 1 m (omega arith) g.0).0 g.2 in
      let out = germ-outward s p (slide 1 v m d) a (is_high_on k a) (through k p c a) (λ e.
      not-minus m n (sym (ap sign (slope-slide h 1 v m d ∙ ap (λ z. pos 1 *ℤ z +ℤ m *ℤ m) (inward-slope k a (is_high_on k a) refl))) ∙ e)) in
      g.1 (Germ-unique s p (slide 1 v m d) g.0 Out into out)

  -- a flat direction lies in all three sides: it would carry the inward direction outward
  level : (d : Vector) → FlatCone s p d → (a : Axis) → slope (wall a (is_high_on k a)) d ≡ pos 0
  level d f a = ⊎_elim (λ e. nought-is (slope (wall a (is_high_on k a)) d) e) (λ n. absurd (carried d a (λ z. n (ap sign z)) f)) (is_nought (sign (slope (wall a (is_high_on k a)) d)))

  pub corner-vertex : IsVertex s p
  corner-vertex = (tt, λ f. let g = FlatCone-from_flat s p f.0 f.2 in f.1 (slope-x k.x f.0 (level f.0 g on_x), slope-y k.y f.0 (level f.0 g on_y), slope-z k.z f.0 (level f.0 g on_z)))

-- ---- a vertex is a corner
abbrev away : Axis → Vector
away on_x = axis_x
away on_y = axis_y
away on_z = axis_z

away-some : (a : Axis) → IsDirection (away a)
away-some on_x z = let e = z.0 in omega (arith, ints)
away-some on_y z = let e = z.1 in omega (arith, ints)
away-some on_z z = let e = z.2 in omega (arith, ints)

-- the axis lies in each side of another axis
away-level : (a o : Axis) (b : Bool) → (o ≡ a → ⊥) → slope (wall o b) (away a) ≡ pos 0
away-level on_x on_x b n = absurd (n refl)
away-level on_x on_y true n = refl
away-level on_x on_y false n = refl
away-level on_x on_z true n = refl
away-level on_x on_z false n = refl
away-level on_y on_y b n = absurd (n refl)
away-level on_y on_x true n = refl
away-level on_y on_x false n = refl
away-level on_y on_z true n = refl
away-level on_y on_z false n = refl
away-level on_z on_z b n = absurd (n refl)
away-level on_z on_x true n = refl
away-level on_z on_x false n = refl
away-level on_z on_y true n = refl
away-level on_z on_y false n = refl

module _ (s : Set) (l : Label) (W : IsOneLabelSet s l) (p : SpacePoint) where
  -- where the point lies on no side of the axis, the axis is flat
  flat-away : (a : Axis) → ((b : Bool) → sign_at (wall a b) p ≡ nought → ⊥) → Flat s p (away a)
  flat-away a off = Flat-from_cone s p (away a) (FlatCone-from_carriers s p (away a) (λ h i z. by h (listed-wall h (W.only h i)) z))
    where
      by : (h : Form) → (o : Axis) × (b : Bool) × (wall o b ≡ h) → sign_at h p ≡ nought → slope h (away a) ≡ pos 0
      by h (o, b, e) z =
          let y = subst (λ (g : Form). sign_at g p ≡ nought) (sym e) z in
          subst (λ (g : Form). slope g (away a) ≡ pos 0) e (away-level a o b (λ i. off b (subst (λ (u : Axis). sign_at (wall u b) p ≡ nought) i y)))

  end-of : IsVertex s p → (a : Axis) → (b : Bool) × (axis_number a p ≡ frame_end b *ℤ pos p.w)
  end-of v a = ⊎_elim
      (λ e. (true, coordinate-from a true p (nought-is (form_at (wall a true) p) e)))
      (λ n. ⊎_elim
      (λ e. (false, coordinate-from a false p (nought-is (form_at (wall a false) p) e)))
      (λ m. absurd (v.1 (away a, away-some a, flat-away a (off n m))))
      (is_nought (sign_at (wall a false) p)))
      (is_nought (sign_at (wall a true) p))
    where
      off : (sign_at (wall a true) p ≡ nought → ⊥) → (sign_at (wall a false) p ≡ nought → ⊥) → (b : Bool) → sign_at (wall a b) p ≡ nought → ⊥
      off n m true = n
      off n m false = m

  pub vertex-corner : IsVertex s p → (k : FrameCorner) × IsFrameCornerAt k p
  vertex-corner v =
      let x = end-of v on_x in let y = end-of v on_y in let z = end-of v on_z in
      (ends x.0 y.0 z.0, record { along_x = x.1; along_y = y.1; along_z = z.1 })
