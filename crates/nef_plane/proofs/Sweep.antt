-- The side of the ray's line on which a point lies, by one coordinate.
use Rattle.nef_plane.proofs.Prelude.{◌≡◌, ℤ, pos, ◌-ℤ◌, ◌*ℤ◌, nat_abs, ◌≤◌, w64, Bool, true, false, cond, ◌&&◌, sym, ap, ◌∙◌, refl, subst, [], ◌∷◌, int_eq, Decides-int_eq, load, wrap, exact_of, ring, at, num, ◌⊕◌, ◌⊖◌, ◌⊗◌, direction_limit, point_limit, weight_limit, SpacePoint, form_at, plane_through, toward, Vector, vector, dot, form_of, vector_of, point_of, hit_point, sign_of, hit_limit, hit_weight_limit, Sign, Dir, Hit, Plane, Point, through-at, sweep_axis, sweep_form, pos-abs}
use mir.Syntax.{w128}
use mir.Val.{to_z, of_z}

-- ---- numbers within their bounds
pub exact-of : (x y : ℤ) → x ≡ y → nat_abs y ≤ point_limit → to_z w64 (of_z w64 x) ≡ y
exact-of x y e l = exact_of (point_limit ∷ []) (x ∷ []) (wrap w64 (load 0)) (subst (λ r. nat_abs r ≤ point_limit) (sym e) l, tt) tt ∙ e

pub exact-weight : (x y : ℤ) → x ≡ y → nat_abs y ≤ weight_limit → to_z w64 (of_z w64 x) ≡ y
exact-weight x y e l = exact_of (weight_limit ∷ []) (x ∷ []) (wrap w64 (load 0)) (subst (λ r. nat_abs r ≤ weight_limit) (sym e) l, tt) tt ∙ e

pub exact-hit : (x y : ℤ) → x ≡ y → nat_abs y ≤ hit_limit → to_z w128 (of_z w128 x) ≡ y
exact-hit x y e l = exact_of (hit_limit ∷ []) (x ∷ []) (wrap w128 (load 0)) (subst (λ r. nat_abs r ≤ hit_limit) (sym e) l, tt) tt ∙ e

pub exact-hit_weight : (x y : ℤ) → x ≡ y → nat_abs y ≤ hit_weight_limit → to_z w128 (of_z w128 x) ≡ y
exact-hit_weight x y e l = exact_of (hit_weight_limit ∷ []) (x ∷ []) (wrap w128 (load 0)) (subst (λ r. nat_abs r ≤ hit_weight_limit) (sym e) l, tt) tt ∙ e

pub numbers-same : (x v y w : ℤ) (x' v' y' w' : ℤ) → x ≡ x' → v ≡ v' → y ≡ y' → w ≡ w' → x *ℤ v -ℤ y *ℤ w ≡ x' *ℤ v' -ℤ y' *ℤ w'
numbers-same x v y w x' v' y' w' a b c d = ap (λ r. r *ℤ v -ℤ y *ℤ w) a ∙ ap (λ r. x' *ℤ r -ℤ y *ℤ w) b ∙ ap (λ r. x' *ℤ v' -ℤ r *ℤ w) c ∙ ap (λ r. x' *ℤ v' -ℤ y' *ℤ r) d

-- a plane that doesn't keep the first coordinate is swept along it
pub first-swept : (h : Plane) → (h.c ≡ pos 0 → h.b ≡ pos 0 → ⊥) → false ≡ (int_eq h.c (pos 0) && int_eq h.b (pos 0))
first-swept h n = by (int_eq h.c (pos 0)) (int_eq h.b (pos 0)) refl refl
  where
    by : (c b : Bool) → int_eq h.c (pos 0) ≡ c → int_eq h.b (pos 0) ≡ b → false ≡ (c && b)
    by true true f g = absurd (n ((Decides-int_eq h.c (pos 0)).0 f) ((Decides-int_eq h.b (pos 0)).0 g))
    by true false f g = refl
    by false b f g = refl

module _ (h : Plane) (p : Hit) (a : Point) (r : Sign) (x w y v : ℤ)
    (sign : r ≡ sign_of (to_z w64 (of_z w64 x) *ℤ to_z w128 (of_z w128 v) -ℤ to_z w128 (of_z w128 y) *ℤ to_z w64 (of_z w64 w))) (weight_is : w ≡ a.w) (start_is : v ≡ p.w) where
  abbrev P : SpacePoint
  P = hit_point p

  abbrev Q : SpacePoint
  Q = point_of a

  abbrev axis : Bool → Vector
  axis b = cond b (vector (pos 0) (pos 1) (pos 0)) (vector (pos 1) (pos 0) (pos 0))

  weight : to_z w64 (of_z w64 w) ≡ a.w
  weight = exact-weight w a.w weight_is a.w_small

  start : to_z w128 (of_z w128 v) ≡ p.w
  start = exact-hit_weight v p.w start_is p.w_small

  value : (b : Bool) → b ≡ (int_eq h.c (pos 0) && int_eq h.b (pos 0)) → to_z w64 (of_z w64 x) *ℤ to_z w128 (of_z w128 v) -ℤ to_z w128 (of_z w128 y) *ℤ to_z w64 (of_z w64 w) ≡ dot (axis b) (toward P Q) → r ≡ sign_of (form_at (sweep_form (form_of h) P) Q)
  value b e f = sign ∙ ap sign_of (f ∙ sym (through-at (axis b) P Q) ∙ ap (λ c. form_at (plane_through (axis c) P) Q) e)

  pub second-sign : x ≡ a.y → y ≡ p.y → h.c ≡ pos 0 → h.b ≡ pos 0 → r ≡ sign_of (form_at (sweep_form (form_of h) P) Q)
  second-sign i j c b = value true (sym (rw ((Decides-int_eq h.c (pos 0)).1 c, (Decides-int_eq h.b (pos 0)).1 b) refl))
      (numbers-same _ _ _ _ a.y (pos (nat_abs p.w)) p.y (pos (nat_abs a.w)) (exact-of x a.y i a.y_small) (start ∙ sym (pos-abs p.w p.proper)) (exact-hit y p.y j p.y_small) (weight ∙ sym (pos-abs a.w a.proper))
      ∙ ring (Q.x ∷ Q.y ∷ Q.z ∷ pos Q.w ∷ P.x ∷ P.y ∷ P.z ∷ pos P.w ∷ []) (at 1 ⊗ at 7 ⊖ at 5 ⊗ at 3)
      (num (pos 0) ⊗ (at 0 ⊗ at 7 ⊖ at 4 ⊗ at 3) ⊕ num (pos 1) ⊗ (at 1 ⊗ at 7 ⊖ at 5 ⊗ at 3) ⊕ num (pos 0) ⊗ (at 2 ⊗ at 7 ⊖ at 6 ⊗ at 3)) tt)

  pub first-sign : x ≡ a.x → y ≡ p.x → (h.c ≡ pos 0 → h.b ≡ pos 0 → ⊥) → r ≡ sign_of (form_at (sweep_form (form_of h) P) Q)
  first-sign i j n = value false (first-swept h n)
      (numbers-same _ _ _ _ a.x (pos (nat_abs p.w)) p.x (pos (nat_abs a.w)) (exact-of x a.x i a.x_small) (start ∙ sym (pos-abs p.w p.proper)) (exact-hit y p.x j p.x_small) (weight ∙ sym (pos-abs a.w a.proper))
      ∙ ring (Q.x ∷ Q.y ∷ Q.z ∷ pos Q.w ∷ P.x ∷ P.y ∷ P.z ∷ pos P.w ∷ []) (at 0 ⊗ at 7 ⊖ at 4 ⊗ at 3)
      (num (pos 1) ⊗ (at 0 ⊗ at 7 ⊖ at 4 ⊗ at 3) ⊕ num (pos 0) ⊗ (at 1 ⊗ at 7 ⊖ at 5 ⊗ at 3) ⊕ num (pos 0) ⊗ (at 2 ⊗ at 7 ⊖ at 6 ⊗ at 3)) tt)

-- the sign of the direction's first number is that of its way along the sweep coordinate
pub way-sign : (h : Plane) (d : Dir) (r : Sign) (x : ℤ) → r ≡ sign_of (to_z w128 (of_z w128 (to_z w64 (of_z w64 x)))) → x ≡ d.x → (h.c ≡ pos 0 → h.b ≡ pos 0 → ⊥) → r ≡ sign_of (dot (sweep_axis (form_of h)) (vector_of d))
way-sign h d r x e f n =
    e ∙ ap sign_of (exact_of (direction_limit ∷ []) (x ∷ []) (wrap w128 (wrap w64 (load 0))) (subst (λ z. nat_abs z ≤ direction_limit) (sym f) d.x_small, tt) tt ∙ f
    ∙ ring (d.x ∷ d.y ∷ d.z ∷ []) (at 0) (num (pos 1) ⊗ at 0 ⊕ num (pos 0) ⊗ at 1 ⊕ num (pos 0) ⊗ at 2) tt
    ∙ ap (λ b. dot (cond b (vector (pos 0) (pos 1) (pos 0)) (vector (pos 1) (pos 0) (pos 0))) (vector_of d)) (first-swept h n))

-- and so is that of its second number, where the plane keeps the first coordinate
pub way-second : (h : Plane) (d : Dir) (r : Sign) (y : ℤ) → r ≡ sign_of (to_z w128 (of_z w128 (to_z w64 (of_z w64 y)))) → y ≡ d.y → h.c ≡ pos 0 → h.b ≡ pos 0 → r ≡ sign_of (dot (sweep_axis (form_of h)) (vector_of d))
way-second h d r y e f c b =
    let t : true ≡ int_eq h.c (pos 0) && int_eq h.b (pos 0) = sym (rw ((Decides-int_eq h.c (pos 0)).1 c, (Decides-int_eq h.b (pos 0)).1 b) refl) in
    e ∙ ap sign_of (exact_of (direction_limit ∷ []) (y ∷ []) (wrap w128 (wrap w64 (load 0))) (subst (λ z. nat_abs z ≤ direction_limit) (sym f) d.y_small, tt) tt ∙ f
    ∙ ring (d.x ∷ d.y ∷ d.z ∷ []) (at 1) (num (pos 0) ⊗ at 0 ⊕ num (pos 1) ⊗ at 1 ⊕ num (pos 0) ⊗ at 2) tt
    ∙ ap (λ i. dot (cond i (vector (pos 0) (pos 1) (pos 0)) (vector (pos 1) (pos 0) (pos 0))) (vector_of d)) t)
