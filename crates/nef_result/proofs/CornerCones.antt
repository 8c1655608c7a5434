-- The map of a corner shows the set there.
use Rattle.nef_result.proofs.Prelude.{◌≡◌, neg_ℤ, arith, refl, sym, ◌∙◌, ap, ◌⊎◌, inl, inr, Bool, true, false, subst, ints, Sign, minus, nought, plus, sign, sign-neg, sign_turned, SpacePoint, slope, Vector, dot, Set, HasLabel, Germ, Label, Out, Not, In, point_of, sign_at, frame-minus, Cone, op_label, And, map_of, Vertex, FrameCorner, IsFrameCornerAt, IsFrameCornerOf, at_wall, corner_label, axis_x, axis_y, axis_z}
use Rattle.nef_result.proofs.Walls.{Axis, on_x, on_y, on_z, wall, wall-listed, IsOneLabelSet, germ-inward, germ-outward}
use Rattle.nef_result.proofs.CornerVertices.{is_high_on, through, leads-in}
use Rattle.nef_space.proofs.Elementary.{minus-not_nought}

abbrev pub axis_of : Axis → Vector
axis_of on_x = axis_x
axis_of on_y = axis_y
axis_of on_z = axis_z

-- the sign outward by the sign along the axis
abbrev outward : Bool → Sign → Sign
outward true s = s
outward false s = sign_turned s

outward-is : (a : Axis) (b : Bool) (d : Vector) → sign (slope (wall a b) d) ≡ outward b (sign (dot (axis_of a) d))
outward-is on_x true d = refl
outward-is on_x false d = let e : slope (wall on_x false) d ≡ neg_ℤ (dot axis_x d) = omega (arith, ints) in ap sign e ∙ sign-neg (dot axis_x d)
outward-is on_y true d = refl
outward-is on_y false d = let e : slope (wall on_y false) d ≡ neg_ℤ (dot axis_y d) = omega (arith, ints) in ap sign e ∙ sign-neg (dot axis_y d)
outward-is on_z true d = refl
outward-is on_z false d = let e : slope (wall on_z false) d ≡ neg_ℤ (dot axis_z d) = omega (arith, ints) in ap sign e ∙ sign-neg (dot axis_z d)

-- at one side: inward with the label, or not inward with Out
abbrev pub AtSide : Axis → Bool → Label → Vector → Type 0
AtSide a b l d = ((sign (slope (wall a b) d) ≡ minus) × (at_wall b l (sign (dot (axis_of a) d)) ≡ l)) ⊎ ((sign (slope (wall a b) d) ≡ minus → ⊥) × (at_wall b l (sign (dot (axis_of a) d)) ≡ Out))

pub at-side : (a : Axis) (b : Bool) (l : Label) (d : Vector) → AtSide a b l d
at-side a b l d = subst (λ (t : Sign). ((t ≡ minus) × (at_wall b l (sign (dot (axis_of a) d)) ≡ l)) ⊎ ((t ≡ minus → ⊥) × (at_wall b l (sign (dot (axis_of a) d)) ≡ Out)))
    (sym (outward-is a b d)) (by b (sign (dot (axis_of a) d)))
  where
    by : (b : Bool) (t : Sign) → ((outward b t ≡ minus) × (at_wall b l t ≡ l)) ⊎ ((outward b t ≡ minus → ⊥) × (at_wall b l t ≡ Out))
    by true minus = inl (refl, refl)
    by true nought = inr (λ e. cc, refl)
    by true plus = inr (λ e. cc, refl)
    by false minus = inr (λ e. cc, refl)
    by false nought = inr (λ e. cc, refl)
    by false plus = inl (refl, refl)

abbrev all_three : Label → Label → Label → Label
all_three i j k = op_label And (op_label And i j) k

all-same : (l i j k : Label) → i ≡ l → j ≡ l → k ≡ l → all_three i j k ≡ l
all-same Out i j k e f g = rw e refl
all-same Not i j k e f g = rw (e, f, g) refl
all-same In i j k e f g = rw (e, f, g) refl

first-out : (i j k : Label) → i ≡ Out → all_three i j k ≡ Out
first-out i j k e = rw e refl

second-out : (i j k : Label) → j ≡ Out → all_three i j k ≡ Out
second-out Out j k e = refl
second-out Not j k e = rw e refl
second-out In j k e = rw e refl

third-out : (i j k : Label) → k ≡ Out → all_three i j k ≡ Out
third-out i j k e = rw e (last (op_label And i j))
  where
    last : (m : Label) → op_label And m Out ≡ Out
    last Out = refl
    last Not = refl
    last In = refl

module _ (s : Set) (l : Label) (W : IsOneLabelSet s l) (k : FrameCorner) (p : SpacePoint) (c : IsFrameCornerAt k p) where
  corner-germ : (d : Vector) → Germ s p d (corner_label l k d)
  corner-germ d = by (at-side on_x k.x l d) (at-side on_y k.y l d) (at-side on_z k.z l d)
    where
      outside : (a : Axis) → (sign (slope (wall a (is_high_on k a)) d) ≡ minus → ⊥) → Germ s p d Out
      outside a n = germ-outward s p d a (is_high_on k a) (through k p c a) n

      by : AtSide on_x k.x l d → AtSide on_y k.y l d → AtSide on_z k.z l d → Germ s p d (corner_label l k d)
      by (inr (n, e)) f g = subst (Germ s p d) (sym (first-out _ _ _ e)) (outside on_x n)
      by (inl e) (inr (n, f)) g = subst (Germ s p d) (sym (second-out _ _ _ f)) (outside on_y n)
      by (inl e) (inl f) (inr (n, g)) = subst (Germ s p d) (sym (third-out _ _ _ g)) (outside on_z n)
      by (inl (i, e)) (inl (j, f)) (inl (m, g)) = subst (Germ s p d) (sym (all-same l _ _ _ e f g)) (germ-inward s l W p d (leads-in k p c d (each i j m)))
        where
          each : sign (slope (wall on_x k.x) d) ≡ minus → sign (slope (wall on_y k.y) d) ≡ minus → sign (slope (wall on_z k.z) d) ≡ minus → (a : Axis) → sign (slope (wall a (is_high_on k a)) d) ≡ minus
          each i j m on_x = i
          each i j m on_y = j
          each i j m on_z = m

pub corner-cone : (s : Set) (l : Label) (k : FrameCorner) (v : Vertex) → IsOneLabelSet s l → IsFrameCornerOf l k v → Cone (map_of v.map) s (point_of v.point)
corner-cone s l k v W V = record {
  valid = V.map.sphere_map.valid;
  mark = subst (HasLabel s (point_of v.point)) (sym V.mark) (λ i. minus-not_nought (sign_at (wall on_x k.x) (point_of v.point)) (frame-minus (point_of v.point) i (wall on_x k.x) (wall-listed on_x k.x)) (through k (point_of v.point) V.place on_x));
  labels = λ d i. (corner_label l k d, V.labels d i, corner-germ s l W k (point_of v.point) V.place d);
}
