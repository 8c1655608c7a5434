-- Two forms of one plane through a point: the same points, the same first meets and corners, the same numbers nought.
use Rattle.nef_conn.proofs.Prelude.{◌≡◌, ℕ, ℤ, pos, ◌*ℤ◌, ◌<◌, ap, sym, ◌∙◌, inl, inr, ⊎_elim, ◌∷◌, [], sign, cancel_eq, ring, at, num, ◌⊗◌, SpacePoint, Form, form_at, normal_of, toward, Vector, cross, triple, SameDirection, SameUpToFactor, of_direction, counted-positive, item_normal, Arc, dir_of, turn-last, same-plus, same-minus, Vertex, Complex, Corner, PlaneMeet, meets_vertex, meets_edge, LiesIn, Meets, IsFirstInPlane, IsArcOnSide, IsCornerAt, plane-onward, plane-way, on_item-way, dot-comm, SameDirection-turned, SameDirection-trans, dir-signs, direction-left}
use Rattle.std.specs.Bool.{one_answer}
use Rattle.std.specs.Ordering.{int_eq}
use Rattle.std.proofs.lemmas.Bool.Decides.{Decides-int_eq}
use Rattle.law_geometry.proofs.complex.FacetEnds.{level-normal}

-- ---- points
module _ (g h : Form) (y : SpacePoint) (on_g : form_at g y ≡ pos 0) (on_h : form_at h y ≡ pos 0) (w : SameDirection (normal_of g) (normal_of h)) where
  pub on-too : (q : SpacePoint) → form_at g q ≡ pos 0 → form_at h q ≡ pos 0
  on-too q e = plane-onward h y q (level-normal (normal_of g) (normal_of h) (toward y q) w (plane-way g y q on_g e)) on_h

  lies-too : (C : Complex) (k : ℕ) → LiesIn C g k → LiesIn C h k
  lies-too C k (e, v, u, a, H, i, j) = (e, v, u, a, H, on-too v.point i, on-too u.point j)

  meets-too : (C : Complex) (m : PlaneMeet) (q : SpacePoint) → Meets C g m q → Meets C h m q
  meets-too C (meets_vertex k) q x = x
  meets-too C (meets_edge k) q x = (x.0, lies-too C k x.1)

-- what is first met in a plane
pub first-same : (C : Complex) (g h : Form) (y : SpacePoint) → form_at g y ≡ pos 0 → form_at h y ≡ pos 0 → SameDirection (normal_of g) (normal_of h) → (d f : Vector) → SameDirection d f
    → (m : PlaneMeet) → IsFirstInPlane C g y d m → IsFirstInPlane C h y f m
first-same C g h y on_g on_h w d f u m I = record {
  place = I.place;
  ahead = SameDirection-trans (toward y I.place) d f I.ahead u;
  meets = meets-too g h y on_g on_h w C m I.place I.meets;
  first = λ q n b x. I.first q n b (meets-too h g y on_h on_g (SameDirection-turned (normal_of g) (normal_of h) w) C n q x);
}

-- ---- corners
pub side-turned : (v : Vertex) (s : ℕ) (n m d f : Vector) (a : Arc) → SameDirection n m → SameDirection d f → IsArcOnSide v s n d a → IsArcOnSide v s m f a
side-turned v s n m d f a w u = ⊎_elim
    (λ h. inl (h.0, same-plus (triple n p d) (triple m p f) same h.1))
    (λ h. inr (h.0, same-minus (triple n p d) (triple m p f) same h.1))
  where
    p : Vector
    p = dir_of v.map.svertices s

    same : sign (triple m p f) ≡ sign (triple n p d)
    same = ap sign (dot-comm m (cross p f)) ∙ dir-signs n m (cross p f) (direction-left n m w) w ∙ ap sign (dot-comm (cross p f) n) ∙ turn-last n p d f u

pub corner-same : (C : Complex) (g h : Form) → SameDirection (normal_of g) (normal_of h) → (d f : Vector) → SameDirection d f → (m : PlaneMeet) (k : Corner) → IsCornerAt C g d m k → IsCornerAt C h f m k
corner-same C g h w d f u (meets_vertex i) k (v, x, e, c, r, o) = (v, x, e, c, SameDirection-trans (item_normal x) (normal_of g) (normal_of h) r w, on_item-way v.map x d f u o)
corner-same C g h w d f u (meets_edge i) k (e, v, a, l, p, b, t, r, s) =
    (e, v, a, l, p, b, t, SameDirection-trans a.normal (normal_of g) (normal_of h) r w, side-turned v e.low_svertex (normal_of g) (normal_of h) d f a w u s)

-- ---- normals that are the same up to a factor
module _ (n m : Vector) (F : SameUpToFactor (of_direction n) (of_direction m)) where
  pub level : pos F.k *ℤ pos 0 ≡ pos F.l *ℤ pos 0
  level = ring (pos F.k ∷ pos F.l ∷ []) (at 0 ⊗ num (pos 0)) (at 1 ⊗ num (pos 0)) tt

  -- both numbers are nought or neither is
  nought-too : (k l : ℕ) (x y : ℤ) → 0 < l → pos k *ℤ x ≡ pos l *ℤ y → x ≡ pos 0 → y ≡ pos 0
  nought-too k l x y h e z = cancel_eq y (pos 0) (pos l) (counted-positive l h) (ring (y ∷ pos l ∷ []) (at 0 ⊗ at 1) (at 1 ⊗ at 0) tt ∙ sym e ∙ ap (λ r. pos k *ℤ r) z ∙ ring (pos k ∷ pos l ∷ []) (at 0 ⊗ num (pos 0)) (num (pos 0) ⊗ at 1) tt)

  pub same-test : (x y : ℤ) → pos F.k *ℤ x ≡ pos F.l *ℤ y → int_eq x (pos 0) ≡ int_eq y (pos 0)
  same-test x y e =
      let d = Decides-int_eq y (pos 0) in
      one_answer (int_eq x (pos 0)) (int_eq y (pos 0)) (Decides-int_eq x (pos 0)) (λ t. nought-too F.l F.k y x F.some_k (sym e) (d.0 t), λ z. d.1 (nought-too F.k F.l x y F.some_l e z))
