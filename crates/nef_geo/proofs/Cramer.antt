-- Cramer's rule for three planes.
use Rattle.nef_geo.proofs.Prelude.{◌≡◌, ◌≢◌, ℕ, zero, suc, ◌+◌, ℤ, pos, negsuc, neg_ℤ, ◌+ℤ◌, ◌-ℤ◌, ◌*ℤ◌, ◌<ℤ◌, nat_abs, List, [], ◌∷◌, arith, refl, sym, ap, ◌∙◌, ints, Vector, vector, dot, cross, triple, Form, form_at, normal_of, SamePoint, none, given, follows, Poly, at, num, neg, ◌⊕◌, ◌⊖◌, ◌⊗◌, ring, IsSameRatios, IsOnlyCommon, point_at, pos-abs}

abbrev pub constants : Form → Form → Form → Vector
constants p q r = vector p.d q.d r.d

abbrev pub meet_x : Form → Form → Form → ℤ
meet_x p q r = dot (constants p q r) (vector (cross (normal_of q) (normal_of r)).x (cross (normal_of r) (normal_of p)).x (cross (normal_of p) (normal_of q)).x)

abbrev pub meet_y : Form → Form → Form → ℤ
meet_y p q r = dot (constants p q r) (vector (cross (normal_of q) (normal_of r)).y (cross (normal_of r) (normal_of p)).y (cross (normal_of p) (normal_of q)).y)

abbrev pub meet_z : Form → Form → Form → ℤ
meet_z p q r = dot (constants p q r) (vector (cross (normal_of q) (normal_of r)).z (cross (normal_of r) (normal_of p)).z (cross (normal_of p) (normal_of q)).z)

abbrev pub meet_w : Form → Form → Form → ℤ
meet_w p q r = triple (normal_of p) (normal_of q) (normal_of r)

-- the form at four numbers
abbrev pub form_value : Form → ℤ → ℤ → ℤ → ℤ → ℤ
form_value h x y z w = h.a *ℤ x +ℤ h.b *ℤ y +ℤ h.c *ℤ z +ℤ h.d *ℤ w

-- ---- the same as polynomials: variables 0 to 3 are p, 4 to 7 are q, 8 to 11 are r
-- an entry of the cross product of two planes' normals, by the planes' first variables and the two places
abbrev cross_poly : ℕ → ℕ → ℕ → ℕ → Poly
cross_poly i j k l = at (i + k) ⊗ at (j + l) ⊖ at (i + l) ⊗ at (j + k)

abbrev w_poly : Poly
w_poly = at 0 ⊗ cross_poly 4 8 1 2 ⊕ at 1 ⊗ cross_poly 4 8 2 0 ⊕ at 2 ⊗ cross_poly 4 8 0 1

abbrev meet_poly : ℕ → ℕ → Poly
meet_poly k l = at 3 ⊗ cross_poly 4 8 k l ⊕ at 7 ⊗ cross_poly 8 0 k l ⊕ at 11 ⊗ cross_poly 0 4 k l

abbrev form_poly : ℕ → Poly → Poly → Poly → Poly → Poly
form_poly i x y z w = at (i + 0) ⊗ x ⊕ at (i + 1) ⊗ y ⊕ at (i + 2) ⊗ z ⊕ at (i + 3) ⊗ w

abbrev planes : Form → Form → Form → List ℤ → List ℤ
planes p q r xs = p.a ∷ p.b ∷ p.c ∷ p.d ∷ q.a ∷ q.b ∷ q.c ∷ q.d ∷ r.a ∷ r.b ∷ r.c ∷ r.d ∷ xs

-- the normals' triple product with two of them exchanged
pub exchanged_w : (p q r : Form) → neg_ℤ (dot (normal_of p) (cross (normal_of r) (normal_of q))) ≡ meet_w p q r
exchanged_w p q r = ring (planes p q r []) (neg (at 0 ⊗ cross_poly 8 4 1 2 ⊕ at 1 ⊗ cross_poly 8 4 2 0 ⊕ at 2 ⊗ cross_poly 8 4 0 1)) w_poly tt

-- the solution lies on the plane h
abbrev Solves : Form → Form → Form → Form → Type 0
Solves h p q r = form_value h (neg_ℤ (meet_x p q r)) (neg_ℤ (meet_y p q r)) (neg_ℤ (meet_z p q r)) (meet_w p q r) ≡ pos 0

solves_p : (p q r : Form) → Solves p p q r
solves_p p q r = ring (planes p q r []) (form_poly 0 (neg (meet_poly 1 2)) (neg (meet_poly 2 0)) (neg (meet_poly 0 1)) w_poly) (num (pos 0)) tt

solves_q : (p q r : Form) → Solves q p q r
solves_q p q r = ring (planes p q r []) (form_poly 4 (neg (meet_poly 1 2)) (neg (meet_poly 2 0)) (neg (meet_poly 0 1)) w_poly) (num (pos 0)) tt

solves_r : (p q r : Form) → Solves r p q r
solves_r p q r = ring (planes p q r []) (form_poly 8 (neg (meet_poly 1 2)) (neg (meet_poly 2 0)) (neg (meet_poly 0 1)) w_poly) (num (pos 0)) tt

-- ---- a common point of any size: the determinant times its x is minus the column's product times its w
combine : (a b c f g h : ℤ) → f ≡ pos 0 → g ≡ pos 0 → h ≡ pos 0 → a *ℤ f +ℤ b *ℤ g +ℤ c *ℤ h ≡ pos 0
combine a b c f g h i j k = rw (i, j, k) (ring (a ∷ b ∷ c ∷ []) (at 0 ⊗ num (pos 0) ⊕ at 1 ⊗ num (pos 0) ⊕ at 2 ⊗ num (pos 0)) (num (pos 0)) tt)

record IsCommon (p q r : Form) (x y z w : ℤ) : Type 0 where
  on_p : form_value p x y z w ≡ pos 0
  on_q : form_value q x y z w ≡ pos 0
  on_r : form_value r x y z w ≡ pos 0

abbrev point_poly : ℕ → Poly
point_poly i = form_poly i (at 12) (at 13) (at 14) (at 15)

solved_x : (p q r : Form) (x y z w : ℤ) → IsCommon p q r x y z w → meet_w p q r *ℤ x +ℤ meet_x p q r *ℤ w ≡ pos 0
solved_x p q r x y z w h =
    ring (planes p q r (x ∷ y ∷ z ∷ w ∷ [])) (w_poly ⊗ at 12 ⊕ meet_poly 1 2 ⊗ at 15) (cross_poly 4 8 1 2 ⊗ point_poly 0 ⊕ cross_poly 8 0 1 2 ⊗ point_poly 4 ⊕ cross_poly 0 4 1 2 ⊗ point_poly 8) tt
    ∙ combine _ _ _ _ _ _ h.on_p h.on_q h.on_r

solved_y : (p q r : Form) (x y z w : ℤ) → IsCommon p q r x y z w → meet_w p q r *ℤ y +ℤ meet_y p q r *ℤ w ≡ pos 0
solved_y p q r x y z w h =
    ring (planes p q r (x ∷ y ∷ z ∷ w ∷ [])) (w_poly ⊗ at 13 ⊕ meet_poly 2 0 ⊗ at 15) (cross_poly 4 8 2 0 ⊗ point_poly 0 ⊕ cross_poly 8 0 2 0 ⊗ point_poly 4 ⊕ cross_poly 0 4 2 0 ⊗ point_poly 8) tt
    ∙ combine _ _ _ _ _ _ h.on_p h.on_q h.on_r

solved_z : (p q r : Form) (x y z w : ℤ) → IsCommon p q r x y z w → meet_w p q r *ℤ z +ℤ meet_z p q r *ℤ w ≡ pos 0
solved_z p q r x y z w h =
    ring (planes p q r (x ∷ y ∷ z ∷ w ∷ [])) (w_poly ⊗ at 14 ⊕ meet_poly 0 1 ⊗ at 15) (cross_poly 4 8 0 1 ⊗ point_poly 0 ⊕ cross_poly 8 0 0 1 ⊗ point_poly 4 ⊕ cross_poly 0 4 0 1 ⊗ point_poly 8) tt
    ∙ combine _ _ _ _ _ _ h.on_p h.on_q h.on_r

-- ---- dividing by a factor
pub cancel : (f a : ℤ) → f ≢ pos 0 → f *ℤ a ≡ pos 0 → a ≡ pos 0
cancel f (pos zero) n e = refl
cancel (pos zero) (pos (suc a)) n e = absurd (n refl)
cancel (pos (suc f)) (pos (suc a)) n e = absurd (omega (arith, ints))
cancel (negsuc f) (pos (suc a)) n e = absurd (omega (arith, ints))
cancel (pos zero) (negsuc a) n e = absurd (n refl)
cancel (pos (suc f)) (negsuc a) n e = absurd (omega (arith, ints))
cancel (negsuc f) (negsuc a) n e = absurd (omega (arith, ints))

pub difference : (a b : ℤ) → a -ℤ b ≡ pos 0 → a ≡ b
difference a b e = omega (arith, ints)

-- a plane that holds the solution holds the point of the same ratios
on_ratios : (h : Form) (x y z w x' y' z' w' : ℤ) → w ≢ pos 0 → IsSameRatios x y z w x' y' z' w' → form_value h x y z w ≡ pos 0 → form_value h x' y' z' w' ≡ pos 0
on_ratios h x y z w x' y' z' w' n s e =
    cancel w _ n
    (follows (h.a ∷ h.b ∷ h.c ∷ h.d ∷ x ∷ y ∷ z ∷ w ∷ x' ∷ y' ∷ z' ∷ w' ∷ [])
    (at 7 ⊗ form_poly 0 (at 8) (at 9) (at 10) (at 11)) (num (pos 0))
    (given (at 11) (form_poly 0 (at 4) (at 5) (at 6) (at 7)) (num (pos 0)) e
    (given (neg (at 0)) (at 4 ⊗ at 11) (at 8 ⊗ at 7) s.along_x
    (given (neg (at 1)) (at 5 ⊗ at 11) (at 9 ⊗ at 7) s.along_y
    (given (neg (at 2)) (at 6 ⊗ at 11) (at 10 ⊗ at 7) s.along_z none)))) tt)

-- one coordinate of a common point, k/l, against the solution's ratio
same_from : (v d k l x w : ℤ) → d ≢ pos 0 → neg_ℤ v *ℤ w ≡ x *ℤ d → d *ℤ k +ℤ v *ℤ l ≡ pos 0 → k *ℤ w ≡ x *ℤ l
same_from v d k l x w n s e =
    difference _ _ (cancel d _ n
    (follows (v ∷ d ∷ k ∷ l ∷ x ∷ w ∷ []) (at 1 ⊗ (at 2 ⊗ at 5 ⊖ at 4 ⊗ at 3)) (num (pos 0))
    (given (at 5) (at 1 ⊗ at 2 ⊕ at 0 ⊗ at 3) (num (pos 0)) e
    (given (at 3) (neg (at 0) ⊗ at 5) (at 4 ⊗ at 1) s none)) tt))

-- at a place
at_place : (h : Form) (x y z w : ℤ) (positive : pos 0 <ℤ w) → form_value h x y z w ≡ pos 0 → form_at h (point_at x y z w positive) ≡ pos 0
at_place h x y z w positive e = ap (λ (n : ℤ). form_value h x y z n) (pos-abs w positive) ∙ e

pub IsOnlyCommon-from_ratios : (p q r : Form) (x y z w : ℤ) (positive : pos 0 <ℤ w) → meet_w p q r ≢ pos 0 → IsSameRatios (neg_ℤ (meet_x p q r)) (neg_ℤ (meet_y p q r)) (neg_ℤ (meet_z p q r)) (meet_w p q r) x y z w → IsOnlyCommon p q r (point_at x y z w positive)
IsOnlyCommon-from_ratios p q r x y z w positive some s = record {
  on_p = at_place p x y z w positive (on_ratios p _ _ _ _ x y z w some s (solves_p p q r));
  on_q = at_place q x y z w positive (on_ratios q _ _ _ _ x y z w some s (solves_q p q r));
  on_r = at_place r x y z w positive (on_ratios r _ _ _ _ x y z w some s (solves_r p q r));
  only = λ n a b c.
      let h : IsCommon p q r n.x n.y n.z (pos n.w) = record { on_p = a; on_q = b; on_r = c } in
      let k = pos-abs w positive in
      record {
        along_x = ap (λ (m : ℤ). n.x *ℤ m) k ∙ same_from (meet_x p q r) (meet_w p q r) n.x (pos n.w) x w some s.along_x (solved_x p q r n.x n.y n.z (pos n.w) h);
        along_y = ap (λ (m : ℤ). n.y *ℤ m) k ∙ same_from (meet_y p q r) (meet_w p q r) n.y (pos n.w) y w some s.along_y (solved_y p q r n.x n.y n.z (pos n.w) h);
        along_z = ap (λ (m : ℤ). n.z *ℤ m) k ∙ same_from (meet_z p q r) (meet_w p q r) n.z (pos n.w) z w some s.along_z (solved_z p q r n.x n.y n.z (pos n.w) h);
      };
}

-- ---- what the code computes: the three cross products the other way round
pub turned_x : (p q r : Form) → dot (constants p q r) (vector (cross (normal_of r) (normal_of q)).x (cross (normal_of p) (normal_of r)).x (cross (normal_of q) (normal_of p)).x) ≡ neg_ℤ (meet_x p q r)
turned_x p q r = ring (planes p q r []) (at 3 ⊗ cross_poly 8 4 1 2 ⊕ at 7 ⊗ cross_poly 0 8 1 2 ⊕ at 11 ⊗ cross_poly 4 0 1 2) (neg (meet_poly 1 2)) tt

pub turned_y : (p q r : Form) → dot (constants p q r) (vector (cross (normal_of r) (normal_of q)).y (cross (normal_of p) (normal_of r)).y (cross (normal_of q) (normal_of p)).y) ≡ neg_ℤ (meet_y p q r)
turned_y p q r = ring (planes p q r []) (at 3 ⊗ cross_poly 8 4 2 0 ⊕ at 7 ⊗ cross_poly 0 8 2 0 ⊕ at 11 ⊗ cross_poly 4 0 2 0) (neg (meet_poly 2 0)) tt

pub turned_z : (p q r : Form) → dot (constants p q r) (vector (cross (normal_of r) (normal_of q)).z (cross (normal_of p) (normal_of r)).z (cross (normal_of q) (normal_of p)).z) ≡ neg_ℤ (meet_z p q r)
turned_z p q r = ring (planes p q r []) (at 3 ⊗ cross_poly 8 4 0 1 ⊕ at 7 ⊗ cross_poly 0 8 0 1 ⊕ at 11 ⊗ cross_poly 4 0 0 1) (neg (meet_poly 0 1)) tt

-- the numbers of a point that stands for given numbers
pub IsSameRatios-from_point : (x y z w x' y' z' w' : ℤ) (p : pos 0 <ℤ w) (q : pos 0 <ℤ w') → SamePoint (point_at x y z w p) (point_at x' y' z' w' q) → IsSameRatios x y z w x' y' z' w'
IsSameRatios-from_point x y z w x' y' z' w' p q s = record {
  along_x = plain x x' s.along_x;
  along_y = plain y y' s.along_y;
  along_z = plain z z' s.along_z;
}
  where
    plain : (n n' : ℤ) → n *ℤ pos (nat_abs w') ≡ n' *ℤ pos (nat_abs w) → n *ℤ w' ≡ n' *ℤ w
    plain n n' e = ap (λ (m : ℤ). n *ℤ m) (sym (pos-abs w' q)) ∙ e ∙ ap (λ (m : ℤ). n' *ℤ m) (pos-abs w p)

pub IsSameRatios-turned : (x y z w x' y' z' w' : ℤ) → IsSameRatios (neg_ℤ x) (neg_ℤ y) (neg_ℤ z) w x' y' z' w' → IsSameRatios x y z (neg_ℤ w) x' y' z' w'
IsSameRatios-turned x y z w x' y' z' w' s = record {
  along_x = plain x x' w w' s.along_x;
  along_y = plain y y' w w' s.along_y;
  along_z = plain z z' w w' s.along_z;
}
  where
    plain : (n n' w w' : ℤ) → neg_ℤ n *ℤ w' ≡ n' *ℤ w → n *ℤ w' ≡ n' *ℤ neg_ℤ w
    plain n n' w w' e = follows (n ∷ n' ∷ w ∷ w' ∷ []) (at 0 ⊗ at 3) (at 1 ⊗ neg (at 2)) (given (num (negsuc 0)) (neg (at 0) ⊗ at 3) (at 1 ⊗ at 2) e none) tt

-- the three cross products, as the code holds them
pub record Steps (p q r : Form) (rq pr qp : Vector) : Type 0 where
  pub rq_is : rq ≡ cross (normal_of r) (normal_of q)
  pub pr_is : pr ≡ cross (normal_of p) (normal_of r)
  pub qp_is : qp ≡ cross (normal_of q) (normal_of p)

pub steps_x : (p q r : Form) (rq pr qp : Vector) → Steps p q r rq pr qp → dot (constants p q r) (vector rq.x pr.x qp.x) ≡ neg_ℤ (meet_x p q r)
steps_x p q r rq pr qp s = rw (s.rq_is, s.pr_is, s.qp_is) (turned_x p q r)

pub steps_y : (p q r : Form) (rq pr qp : Vector) → Steps p q r rq pr qp → dot (constants p q r) (vector rq.y pr.y qp.y) ≡ neg_ℤ (meet_y p q r)
steps_y p q r rq pr qp s = rw (s.rq_is, s.pr_is, s.qp_is) (turned_y p q r)

pub steps_z : (p q r : Form) (rq pr qp : Vector) → Steps p q r rq pr qp → dot (constants p q r) (vector rq.z pr.z qp.z) ≡ neg_ℤ (meet_z p q r)
steps_z p q r rq pr qp s = rw (s.rq_is, s.pr_is, s.qp_is) (turned_z p q r)
