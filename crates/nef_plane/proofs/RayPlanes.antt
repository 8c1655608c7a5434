-- The side of a plane through a ray on which a point lies, and what the ray doesn't meet.
use Rattle.nef_plane.proofs.Prelude.{◌≡◌, ℕ, ℤ, pos, ◌+ℤ◌, ◌-ℤ◌, ◌*ℤ◌, ◌≤◌, nat_abs, w64, Option, Some, None, sym, ap, ◌∙◌, subst, [], ◌∷◌, IfSome, MatchOption, load, const, wrap, ◌⊟◌, exact_of, ring, at, num, ◌⊕◌, ◌⊖◌, ◌⊗◌, direction_limit, form_at, toward, Set, Vector, vector, dot, IsDirection, SameDirection, form_of, point_of, vector_of, sign_of, Dir, Plane, Point, Sign, point-toward, same-point_sym, IsAt, Shows, through-at, through-slope, Vertex, Edge, Complex, complex_of, AreOpposite, HoldsRay, AtVertexNumber, AtEdgeNumber, IsMissed, ray_form, IsAcrossRay, dot-comm, dot-zero, level-way, pos-abs}
use mir.Val.{to_z, of_z}
use Rattle.nef_plane.proofs.Found.{vertex-none, edge-none}
use Rattle.nef_plane.proofs.Meeting.{level-opposite, ahead-level, between-opposite}
use Rattle.nef_plane.proofs.Sweep.{numbers-same}
use Rattle.law_geometry.proofs.near.Same.{level-same_point}
use Rattle.nef_space.proofs.Elementary.{same-itself}

abbrev product_of : Dir → Point → ℤ
product_of n a = n.x *ℤ a.x +ℤ n.y *ℤ a.y +ℤ n.z *ℤ a.z

-- the sign of the difference of two such products, each times the other point's weight, is the side
pub side-is : (n : Dir) (p a : Point) (r : Sign) (m v k w : ℤ) → r ≡ sign_of (m *ℤ v -ℤ k *ℤ w) → m ≡ product_of n a → v ≡ p.w → k ≡ product_of n p → w ≡ a.w → r ≡ sign_of (form_at (ray_form n p) (point_of a))
side-is n p a r m v k w e f g h l =
    e ∙ ap sign_of (numbers-same m v k w (product_of n a) (pos (nat_abs p.w)) (product_of n p) (pos (nat_abs a.w)) f (g ∙ sym (pos-abs p.w p.proper)) h (l ∙ sym (pos-abs a.w a.proper))
    ∙ ring (n.x ∷ n.y ∷ n.z ∷ a.x ∷ a.y ∷ a.z ∷ p.x ∷ p.y ∷ p.z ∷ pos (nat_abs p.w) ∷ pos (nat_abs a.w) ∷ [])
    ((at 0 ⊗ at 3 ⊕ at 1 ⊗ at 4 ⊕ at 2 ⊗ at 5) ⊗ at 9 ⊖ (at 0 ⊗ at 6 ⊕ at 1 ⊗ at 7 ⊕ at 2 ⊗ at 8) ⊗ at 10)
    (at 0 ⊗ (at 3 ⊗ at 9 ⊖ at 6 ⊗ at 10) ⊕ at 1 ⊗ (at 4 ⊗ at 9 ⊖ at 7 ⊗ at 10) ⊕ at 2 ⊗ (at 5 ⊗ at 9 ⊖ at 8 ⊗ at 10)) tt
    ∙ sym (through-at (vector_of n) (point_of p) (point_of a)))

-- ---- normals across the direction
level-some : (o : Option Dir) (v d : Vector) → dot v d ≡ pos 0 → IfSome o (λ n. SameDirection v (vector_of n)) → IfSome o (IsAcrossRay d)
level-some None v d e h = tt
level-some (Some n) v d e h = dot-comm (vector_of n) d ∙ level-way d v (vector_of n) h (dot-comm d v ∙ e)

turned-is : (r y : ℤ) → r ≡ y → nat_abs y ≤ direction_limit → to_z w64 (of_z w64 (pos 0 -ℤ to_z w64 (of_z w64 r))) ≡ pos 0 -ℤ y
turned-is r y e l = exact_of (direction_limit ∷ []) (r ∷ []) (wrap w64 (const (pos 0) ⊟ wrap w64 (load 0))) (subst (λ z. nat_abs z ≤ direction_limit) (sym e) l, tt) tt ∙ ap (λ z. pos 0 -ℤ z) e

kept-is : (r y : ℤ) → r ≡ y → nat_abs y ≤ direction_limit → to_z w64 (of_z w64 r) ≡ y
kept-is r y e l = exact_of (direction_limit ∷ []) (r ∷ []) (wrap w64 (load 0)) (subst (λ z. nat_abs z ≤ direction_limit) (sym e) l, tt) tt ∙ e

-- (-y, x, 0), (-z, 0, x) and (0, -z, y), as the machine has them
module _ (o : Option Dir) (d : Dir) (r q : ℤ) where
  abbrev back : ℤ
  back = to_z w64 (of_z w64 (pos 0 -ℤ to_z w64 (of_z w64 r)))

  abbrev on : ℤ
  on = to_z w64 (of_z w64 q)

  pub across-z : r ≡ d.y → q ≡ d.x → IfSome o (λ n. SameDirection (vector back on (pos 0)) (vector_of n)) → IfSome o (IsAcrossRay (vector_of d))
  across-z e f = level-some o (vector back on (pos 0)) (vector_of d)
      (ap (λ z. z *ℤ d.x +ℤ on *ℤ d.y +ℤ pos 0 *ℤ d.z) (turned-is r d.y e d.y_small) ∙ ap (λ z. (pos 0 -ℤ d.y) *ℤ d.x +ℤ z *ℤ d.y +ℤ pos 0 *ℤ d.z) (kept-is q d.x f d.x_small)
      ∙ ring (d.x ∷ d.y ∷ d.z ∷ []) ((num (pos 0) ⊖ at 1) ⊗ at 0 ⊕ at 0 ⊗ at 1 ⊕ num (pos 0) ⊗ at 2) (num (pos 0)) tt)

  pub across-y : r ≡ d.z → q ≡ d.x → IfSome o (λ n. SameDirection (vector back (pos 0) on) (vector_of n)) → IfSome o (IsAcrossRay (vector_of d))
  across-y e f = level-some o (vector back (pos 0) on) (vector_of d)
      (ap (λ z. z *ℤ d.x +ℤ pos 0 *ℤ d.y +ℤ on *ℤ d.z) (turned-is r d.z e d.z_small) ∙ ap (λ z. (pos 0 -ℤ d.z) *ℤ d.x +ℤ pos 0 *ℤ d.y +ℤ z *ℤ d.z) (kept-is q d.x f d.x_small)
      ∙ ring (d.x ∷ d.y ∷ d.z ∷ []) ((num (pos 0) ⊖ at 2) ⊗ at 0 ⊕ num (pos 0) ⊗ at 1 ⊕ at 0 ⊗ at 2) (num (pos 0)) tt)

  pub across-x : r ≡ d.z → q ≡ d.y → IfSome o (λ n. SameDirection (vector (pos 0) back on) (vector_of n)) → IfSome o (IsAcrossRay (vector_of d))
  across-x e f = level-some o (vector (pos 0) back on) (vector_of d)
      (ap (λ z. pos 0 *ℤ d.x +ℤ z *ℤ d.y +ℤ on *ℤ d.z) (turned-is r d.z e d.z_small) ∙ ap (λ z. pos 0 *ℤ d.x +ℤ (pos 0 -ℤ d.z) *ℤ d.y +ℤ z *ℤ d.z) (kept-is q d.y f d.y_small)
      ∙ ring (d.x ∷ d.y ∷ d.z ∷ []) (num (pos 0) ⊗ at 0 ⊕ (num (pos 0) ⊖ at 2) ⊗ at 1 ⊕ at 1 ⊗ at 2) (num (pos 0)) tt)

-- the plane through the start with such a normal holds the ray
holds-ray : (n : Dir) (p : Point) (d : Vector) → IsAcrossRay d n → HoldsRay (ray_form n p) (point_of p) d
holds-ray n p d e = (
  through-at (vector_of n) (point_of p) (point_of p) ∙ dot-zero (vector_of n) (toward (point_of p) (point_of p)) (point-toward (point_of p) (point_of p) (same-itself (point_of p))),
  through-slope (vector_of n) (point_of p) d ∙ ap (λ r. pos (nat_abs p.w) *ℤ r) e ∙ ring (pos (nat_abs p.w) ∷ []) (at 0 ⊗ num (pos 0)) (num (pos 0)) tt,
)

-- ---- what the ray doesn't meet
module _ (s : Set) (c : Complex) (S : Shows s (complex_of c)) (p : Point) (d : Vector) (some : IsDirection d) (o : Option Dir) where
  pub beside-vertex : (k : ℕ) (v : Vertex) → IsAt c.vertices k v → IfSome o (IsAcrossRay d) → MatchOption o ⊥ (λ n. AreOpposite (ray_form n p) (point_of v.point) (point_of v.point) → ⊥) → IsMissed (point_of p) d (AtVertexNumber (complex_of c) k)
  beside-vertex k v a = by o
    where
      by : (o : Option Dir) → IfSome o (IsAcrossRay d) → MatchOption o ⊥ (λ n. AreOpposite (ray_form n p) (point_of v.point) (point_of v.point) → ⊥) → IsMissed (point_of p) d (AtVertexNumber (complex_of c) k)
      by None e f = absurd f
      by (Some n) e f =
          let h = holds-ray n p d e in
          vertex-none s c S (point_of p) d some k v a
          (λ q w m. absurd (f (level-opposite (ray_form n p) (point_of v.point) (level-same_point (ray_form n p) q (point_of v.point) (same-point_sym (point_of v.point) q m) (ahead-level (ray_form n p) (point_of p) d q w some h.0 h.1)))))

  pub beside-edge : (h : Plane) (k : ℕ) (e : Edge) (u v : Vertex) → IsAt c.edges k e → IsAt c.vertices e.low u → IsAt c.vertices e.high v → IfSome o (IsAcrossRay d)
      → MatchOption o ⊥ (λ n. AreOpposite (ray_form n p) (point_of u.point) (point_of v.point) → ⊥) → IsMissed (point_of p) d (AtEdgeNumber (complex_of c) (form_of h) d k)
  beside-edge h k e u v l i j = by o
    where
      by : (o : Option Dir) → IfSome o (IsAcrossRay d) → MatchOption o ⊥ (λ n. AreOpposite (ray_form n p) (point_of u.point) (point_of v.point) → ⊥) → IsMissed (point_of p) d (AtEdgeNumber (complex_of c) (form_of h) d k)
      by None a f = absurd f
      by (Some n) a f =
          let r = holds-ray n p d a in
          edge-none s c S (form_of h) (point_of p) d some k e u v l i j
          (λ q w b H. absurd (f (between-opposite (ray_form n p) (point_of u.point) (point_of v.point) q b (ahead-level (ray_form n p) (point_of p) d q w some r.0 r.1))))
