-- A direction along the axis of a plane, or along its second direction, is as small as that: it is in lowest terms, so its numbers divide those of the other.
use Rattle.nef_plane.proofs.Prelude.{◌≡◌, ℕ, ◌<◌, ◌≤◌, ℤ, pos, negsuc, neg_ℤ, ◌*ℤ◌, ◌<ℤ◌, ◌-ℤ◌, nat_abs, List, [], ◌∷◌, arith, refl, sym, ap, ◌∙◌, subst, inl, inr, ⊎_elim, ints, le_of_dvd, ◌∣◌, ring, at, num, Poly, ◌⊕◌, ◌⊖◌, ◌⊗◌, given, none, follows, nought-or, normal_limit, IsLowest, SpacePoint, normal_of, Vector, dot, opposite, plane_axis, plane_dir, IsAtMost, SameDirection, form_of, vector_of, ray_limit, plane_dir_limit, Dir, Plane, pair_small, dir-size, positive-factor, IsAlongAxis, IsAlongDir, IsWithinDirection}
use Rattle.nef_geo.proofs.Cramer.{difference}
use Rattle.nef_geo.proofs.Euclid.{divides_same}
use Rattle.law_geometry.specs.complex.Complexes.{Complex}
use Rattle.nef_space.proofs.Elementary.{size-positive, nought-products}

-- a number that divides another is no greater, and nought where the other is
entry : (m n p q : ℤ) (l : ℕ) → pos 0 <ℤ p → m *ℤ p ≡ n *ℤ q → nat_abs m ∣ nat_abs n → nat_abs n ≤ l → nat_abs m ≤ l
entry m n p q l i e d s = ⊎_elim
    (λ z. subst (λ (r : ℤ). nat_abs r ≤ l) (sym (positive-factor p m i (ring (m ∷ p ∷ []) (at 1 ⊗ at 0) (at 0 ⊗ at 1) tt ∙ e ∙ ap (λ r. r *ℤ q) z ∙ ring (q ∷ []) (num (pos 0) ⊗ at 0) (num (pos 0)) tt))) (omega arith))
    (λ f. let k = le_of_dvd (size-positive n f) d in omega arith) (nought-or n)

module _ (d : Dir) (b : Vector) (l : ℕ) (s : SameDirection (vector_of d) b) (small : IsAtMost l b) where
  abbrev a : Vector
  a = vector_of d

  lowest : IsLowest (a.x ∷ a.y ∷ a.z ∷ pos 0 ∷ [])
  lowest = λ k e. d.lowest k (e.0, (e.1.0, (e.1.1.0, tt)))

  abbrev all : List ℤ
  all = a.x ∷ a.y ∷ a.z ∷ b.x ∷ b.y ∷ b.z ∷ []

  abbrev ab : Poly
  ab = at 0 ⊗ at 3 ⊕ at 1 ⊗ at 4 ⊕ at 2 ⊗ at 5

  abbrev aa : Poly
  aa = at 0 ⊗ at 0 ⊕ at 1 ⊗ at 1 ⊕ at 2 ⊗ at 2

  abbrev px : Poly
  px = at 1 ⊗ at 5 ⊖ at 2 ⊗ at 4

  abbrev py : Poly
  py = at 2 ⊗ at 3 ⊖ at 0 ⊗ at 5

  abbrev pz : Poly
  pz = at 0 ⊗ at 4 ⊖ at 1 ⊗ at 3

  cx : a.y *ℤ b.z -ℤ a.z *ℤ b.y ≡ pos 0
  cx = s.parallel.0

  cy : a.z *ℤ b.x -ℤ a.x *ℤ b.z ≡ pos 0
  cy = s.parallel.1

  cz : a.x *ℤ b.y -ℤ a.y *ℤ b.x ≡ pos 0
  cz = s.parallel.2

  xy : a.x *ℤ b.y ≡ a.y *ℤ b.x
  xy = difference _ _ cz

  zx : a.z *ℤ b.x ≡ a.x *ℤ b.z
  zx = difference _ _ cy

  yz : a.y *ℤ b.z ≡ a.z *ℤ b.y
  yz = difference _ _ cx

  pub along-small : IsAtMost l a
  along-small = record {
    of_x = entry a.x b.x (dot a b) (dot a a) l s.forward
        (follows all (at 0 ⊗ ab) (at 3 ⊗ aa) (given (at 1) pz (num (pos 0)) cz (given (num (negsuc 0) ⊗ at 2) py (num (pos 0)) cy none)) tt)
        (divides_same a.x b.x a.x a.y a.z (pos 0) b.x b.y b.z (pos 0) lowest refl xy (sym zx) (nought-products a.x b.x)) small.of_x;
    of_y = entry a.y b.y (dot a b) (dot a a) l s.forward
        (follows all (at 1 ⊗ ab) (at 4 ⊗ aa) (given (at 2) px (num (pos 0)) cx (given (num (negsuc 0) ⊗ at 0) pz (num (pos 0)) cz none)) tt)
        (divides_same a.y b.y a.x a.y a.z (pos 0) b.x b.y b.z (pos 0) lowest (sym xy) refl yz (nought-products a.y b.y)) small.of_y;
    of_z = entry a.z b.z (dot a b) (dot a a) l s.forward
        (follows all (at 2 ⊗ ab) (at 5 ⊗ aa) (given (at 0) py (num (pos 0)) cy (given (num (negsuc 0) ⊗ at 1) px (num (pos 0)) cx none)) tt)
        (divides_same a.z b.z a.x a.y a.z (pos 0) b.x b.y b.z (pos 0) lowest zx (sym yz) refl (nought-products a.z b.z)) small.of_z;
  }

turned : (v : Vector) (l : ℕ) → IsAtMost l v → IsAtMost l (opposite v)
turned v l m = record { of_x = one v.x m.of_x; of_y = one v.y m.of_y; of_z = one v.z m.of_z }
  where
    one : (x : ℤ) → nat_abs x ≤ l → nat_abs (neg_ℤ x) ≤ l
    one x i = omega (arith, ints, i)

pub axis-small : (h : Plane) (d : Dir) → IsAlongAxis (form_of h) (vector_of d) → IsAtMost normal_limit (vector_of d)
axis-small h d = let a = plane_axis (normal_of (form_of h)) in
    ⊎_elim (λ (s : SameDirection (vector_of d) a). along-small d a normal_limit s (pair_small h).axis)
    (λ (s : SameDirection (vector_of d) (opposite a)). along-small d (opposite a) normal_limit s (turned a normal_limit (pair_small h).axis))

-- along the second direction too
dir-small : (h : Plane) (d : Dir) → IsAlongDir (form_of h) (vector_of d) → IsAtMost plane_dir_limit (vector_of d)
dir-small h d = let a = plane_dir (normal_of (form_of h)) in
    ⊎_elim (λ (s : SameDirection (vector_of d) a). along-small d a plane_dir_limit s (let z = dir-size h in z.each))
    (λ (s : SameDirection (vector_of d) (opposite a)). along-small d (opposite a) plane_dir_limit s (turned a plane_dir_limit (let z = dir-size h in z.each)))

-- so every ray within the plane has the numbers of a ray from a vertex
pub within-small : (C : Complex) (p : SpacePoint) (h : Plane) (d : Dir) → IsWithinDirection C (form_of h) p (vector_of d) → IsAtMost ray_limit (vector_of d)
within-small C p h d (inl a) = let s = axis-small h d a in record { of_x = omega (arith, s.of_x); of_y = omega (arith, s.of_y); of_z = omega (arith, s.of_z) }
within-small C p h d (inr (v, a)) = let s = dir-small h d a in record { of_x = omega (arith, s.of_x); of_y = omega (arith, s.of_y); of_z = omega (arith, s.of_z) }
