-- The axis of a plane: what lies in the plane and keeps the sweep coordinate is parallel to it.
use Rattle.nef_plane.proofs.Prelude.{◌≡◌, ℤ, pos, neg_ℤ, ◌-ℤ◌, ◌*ℤ◌, Bool, true, false, cond, ◌&&◌, ◌∙◌, subst, ⊎_elim, [], ◌∷◌, int_eq, ring, at, num, neg, ◌⊕◌, ◌⊖◌, ◌⊗◌, normal_of, Vector, vector, opposite, dot, cross, plane_axis, beside_x, beside_y, IsZero, IsDirection, SameDirection, form_of, Plane, axis-in_plane, axis-direction, IsAlongAxis, IsParallelToAxis, sweep_axis, along-cross, vector-same, cross-turned, in-span, parallel-trans, direction-left}

opposite-parallel : (d a : Vector) → IsZero (cross d (opposite a)) → IsZero (cross a d)
opposite-parallel d a z = (each d.y d.z a.y a.z z.0, each d.z d.x a.z a.x z.1, each d.x d.y a.x a.y z.2)
  where
    each : (b c e f : ℤ) → b *ℤ neg_ℤ f -ℤ c *ℤ neg_ℤ e ≡ pos 0 → e *ℤ c -ℤ f *ℤ b ≡ pos 0
    each b c e f z = ring (b ∷ c ∷ e ∷ f ∷ []) (at 2 ⊗ at 1 ⊖ at 3 ⊗ at 0) (at 0 ⊗ neg (at 3) ⊖ at 1 ⊗ neg (at 2)) tt ∙ z

axis-cross : (n : Vector) (t : Bool) → cross n (cond t (vector (pos 0) (pos 1) (pos 0)) (vector (pos 1) (pos 0) (pos 0))) ≡ cond t (beside_y n) (beside_x n)
axis-cross n true = vector-same (cross n (vector (pos 0) (pos 1) (pos 0))) (beside_y n)
    (ring (n.y ∷ n.z ∷ []) (at 0 ⊗ num (pos 0) ⊖ at 1 ⊗ num (pos 1)) (neg (at 1)) tt)
    (ring (n.x ∷ n.z ∷ []) (at 1 ⊗ num (pos 0) ⊖ at 0 ⊗ num (pos 0)) (num (pos 0)) tt)
    (ring (n.x ∷ n.y ∷ []) (at 0 ⊗ num (pos 1) ⊖ at 1 ⊗ num (pos 0)) (at 0) tt)
axis-cross n false = vector-same (cross n (vector (pos 1) (pos 0) (pos 0))) (beside_x n)
    (ring (n.y ∷ n.z ∷ []) (at 0 ⊗ num (pos 0) ⊖ at 1 ⊗ num (pos 0)) (num (pos 0)) tt)
    (ring (n.x ∷ n.z ∷ []) (at 1 ⊗ num (pos 1) ⊖ at 0 ⊗ num (pos 0)) (at 1) tt)
    (ring (n.x ∷ n.y ∷ []) (at 0 ⊗ num (pos 0) ⊖ at 1 ⊗ num (pos 1)) (neg (at 1)) tt)

-- a direction along the axis is parallel to it
pub along-parallel : (h : Plane) (d : Vector) → IsAlongAxis (form_of h) d → IsParallelToAxis (form_of h) d
along-parallel h d = let a = plane_axis (normal_of (form_of h)) in
    ⊎_elim (λ (w : SameDirection d a). (direction-left d a w, cross-turned d a w.parallel)) (λ (w : SameDirection d (opposite a)). (direction-left d (opposite a) w, opposite-parallel d a w.parallel))

module _ (h : Plane) (d : Vector) (A : IsParallelToAxis (form_of h) d) where
  abbrev n : Vector
  n = normal_of (form_of h)

  abbrev e : Vector
  e = sweep_axis (form_of h)

  abbrev a : Vector
  a = plane_axis n

  is-cross : cross n e ≡ a
  is-cross = axis-cross n (int_eq n.z (pos 0) && int_eq n.y (pos 0))

  pub axis-some : IsDirection d
  axis-some = A.0

  pub axis-level : dot n d ≡ pos 0
  axis-level = in-span n a d (axis-direction h) A.1 (axis-in_plane h)

  pub axis-keeps : dot e d ≡ pos 0
  axis-keeps = in-span e a d (axis-direction h) A.1 (subst (λ (v : Vector). dot e v ≡ pos 0) is-cross (ring (n.x ∷ n.y ∷ n.z ∷ e.x ∷ e.y ∷ e.z ∷ [])
      (at 3 ⊗ (at 1 ⊗ at 5 ⊖ at 2 ⊗ at 4) ⊕ at 4 ⊗ (at 2 ⊗ at 3 ⊖ at 0 ⊗ at 5) ⊕ at 5 ⊗ (at 0 ⊗ at 4 ⊖ at 1 ⊗ at 3)) (num (pos 0)) tt))

  -- what lies in the plane and keeps the coordinate is parallel to the axis
  pub axis-parallel : (t : Vector) → dot n t ≡ pos 0 → dot e t ≡ pos 0 → IsZero (cross t d)
  axis-parallel t i j = parallel-trans t a d (axis-direction h) (subst (λ (v : Vector). IsZero (cross t v)) is-cross (along-cross n e t i j)) A.1
