-- The same ray names the same corners in each form of a plane, and there is one way inward.
use Rattle.nef_conn.proofs.Prelude.{◌≡◌, ℕ, ℤ, pos, ◌+ℤ◌, ◌*ℤ◌, neg_ℤ, Bool, true, false, cond, ◌&&◌, arith, refl, ◌∷◌, subst, Decides, [], ints, given, none, follows, at, num, ◌⊕◌, ◌⊗◌, axis_factor, SpacePoint, Form, form_at, normal_of, Vector, opposite, dot, blend, IsDirection, SameDirection, plane_dir, beside_x, beside_y, beside_z, SameUpToFactor, of_direction, same-factor, factor-same, Complex, Corner, RayNames, opposed, opposite-same, direction-left, level-blend}
use Rattle.std.specs.Ordering.{int_eq}
use Rattle.std.proofs.lemmas.Bool.Decides.{Decides-int_eq}
use Rattle.nef_conn.proofs.SamePlanes.{first-same, corner-same, level, same-test}
use Rattle.nef_space.proofs.Vectors.{level-beside_x, level-beside_y, level-beside_z}

-- the same ray names the same corners in each form of a plane
pub names-same : (C : Complex) (g h : Form) (y : SpacePoint) → form_at g y ≡ pos 0 → form_at h y ≡ pos 0 → SameDirection (normal_of g) (normal_of h) → (d f : Vector) → SameDirection d f
    → (k : Corner) → RayNames C g y d k → RayNames C h y f k
names-same C g h y on_g on_h w d f u k (m, I, c) = (m, first-same C g h y on_g on_h w d f u m I, corner-same C g h w (opposite d) (opposite f) (opposite-same d f u) m k c)

-- ---- the direction of a plane
-- it as a function of two tests: whether the last number of the normal is nought, and whether the second is
abbrev dir_by : Bool → Bool → Vector → Vector
dir_by a b v = blend axis_factor (cond (a && b) (beside_y v) (beside_x v)) 1 (cond a (beside_z v) (beside_y v))

-- it is a direction of the plane
pub dir-level : (n : Vector) → dot n (plane_dir n) ≡ pos 0
dir-level n = by (int_eq n.z (pos 0)) (int_eq n.y (pos 0))
  where
    by : (a b : Bool) → dot n (dir_by a b n) ≡ pos 0
    by true true = level-blend n (beside_y n) (beside_z n) axis_factor 1 (level-beside_y n) (level-beside_z n)
    by true false = level-blend n (beside_x n) (beside_z n) axis_factor 1 (level-beside_x n) (level-beside_z n)
    by false b = level-blend n (beside_x n) (beside_y n) axis_factor 1 (level-beside_x n) (level-beside_y n)

pub dir-some : (n : Vector) → IsDirection n → IsDirection (plane_dir n)
dir-some n i = by (int_eq n.z (pos 0)) (int_eq n.y (pos 0)) (Decides-int_eq n.z (pos 0)) (Decides-int_eq n.y (pos 0))
  where
    minus : (x : ℤ) → pos axis_factor *ℤ pos 0 +ℤ pos 1 *ℤ neg_ℤ x ≡ pos 0 → x ≡ pos 0
    minus x e = omega (arith, ints)

    plus : (x : ℤ) → pos axis_factor *ℤ pos 0 +ℤ pos 1 *ℤ x ≡ pos 0 → x ≡ pos 0
    plus x e = omega (arith, ints)

    by : (a b : Bool) → Decides a (n.z ≡ pos 0) → Decides b (n.y ≡ pos 0) → IsDirection (dir_by a b n)
    by true true f g = λ z. i (minus n.x z.1, g.0 refl, f.0 refl)
    by true false f g = λ z. let q : false ≡ true = g.1 (plus n.y z.0) in cc
    by false b f g = λ z. let q : false ≡ true = f.1 (minus n.z z.0) in cc

-- ---- the direction of planes with one normal
abbrev AreScaled : ℕ → ℕ → Vector → Vector → Type 0
AreScaled k l u v = (pos k *ℤ u.x ≡ pos l *ℤ v.x) × (pos k *ℤ u.y ≡ pos l *ℤ v.y) × (pos k *ℤ u.z ≡ pos l *ℤ v.z)

blended : (f : ℤ) (k l : ℕ) (a b c d : ℤ) → pos k *ℤ a ≡ pos l *ℤ c → pos k *ℤ b ≡ pos l *ℤ d → pos k *ℤ (f *ℤ a +ℤ pos 1 *ℤ b) ≡ pos l *ℤ (f *ℤ c +ℤ pos 1 *ℤ d)
blended f k l a b c d e g = follows (pos k ∷ pos l ∷ a ∷ b ∷ c ∷ d ∷ f ∷ []) (at 0 ⊗ (at 6 ⊗ at 2 ⊕ num (pos 1) ⊗ at 3)) (at 1 ⊗ (at 6 ⊗ at 4 ⊕ num (pos 1) ⊗ at 5))
    (given (at 6) (at 0 ⊗ at 2) (at 1 ⊗ at 4) e (given (num (pos 1)) (at 0 ⊗ at 3) (at 1 ⊗ at 5) g none)) tt

module _ (n m : Vector) (F : SameUpToFactor (of_direction n) (of_direction m)) where
  first-scaled : (t : Bool) → AreScaled F.k F.l (cond t (beside_y n) (beside_x n)) (cond t (beside_y m) (beside_x m))
  first-scaled true = (opposed F.k F.l n.z m.z F.is_z, level n m F, F.is_x)
  first-scaled false = (level n m F, F.is_z, opposed F.k F.l n.y m.y F.is_y)

  second-scaled : (t : Bool) → AreScaled F.k F.l (cond t (beside_z n) (beside_y n)) (cond t (beside_z m) (beside_y m))
  second-scaled true = (F.is_y, opposed F.k F.l n.x m.x F.is_x, level n m F)
  second-scaled false = (opposed F.k F.l n.z m.z F.is_z, level n m F, F.is_x)

  dir-by : (a b : Bool) → SameUpToFactor (of_direction (dir_by a b n)) (of_direction (dir_by a b m))
  dir-by t u =
      let f = pos axis_factor in
      let a = cond (t && u) (beside_y n) (beside_x n) in
      let b = cond t (beside_z n) (beside_y n) in
      let c = cond (t && u) (beside_y m) (beside_x m) in
      let d = cond t (beside_z m) (beside_y m) in
      let e = first-scaled (t && u) in
      let g = second-scaled t in
      record {
        k = F.k;
        l = F.l;
        some_k = F.some_k;
        some_l = F.some_l;
        is_x = blended f F.k F.l a.x b.x c.x d.x e.0 g.0;
        is_y = blended f F.k F.l a.y b.y c.y d.y e.1 g.1;
        is_z = blended f F.k F.l a.z b.z c.z d.z e.2 g.2;
        is_w = level n m F;
      }

  dir-factor : SameUpToFactor (of_direction (plane_dir n)) (of_direction (plane_dir m))
  dir-factor =
      subst (λ (t : Bool). SameUpToFactor (of_direction (plane_dir n)) (of_direction (dir_by t (int_eq m.y (pos 0)) m))) (same-test n m F n.z m.z F.is_z)
      (subst (λ (t : Bool). SameUpToFactor (of_direction (plane_dir n)) (of_direction (dir_by (int_eq n.z (pos 0)) t m))) (same-test n m F n.y m.y F.is_y)
      (dir-by (int_eq n.z (pos 0)) (int_eq n.y (pos 0))))

-- planes with the same normal have the same direction
pub dir-same : (n m : Vector) → SameDirection n m → SameDirection (plane_dir n) (plane_dir m)
dir-same n m w = factor-same (plane_dir n) (plane_dir m) (dir-factor n m (same-factor n m w)) (dir-some n (direction-left n m w))
