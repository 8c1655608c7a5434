-- Two planes that hold one point and have parallel normals are one.
use Rattle.nef_complex.proofs.Prelude.{◌≡◌, pos, ◌<ℤ◌, [], ◌∷◌, arith, ints, Poly, at, num, ◌⊕◌, ◌⊖◌, ◌⊗◌, given, none, follows_times, SpacePoint, Form, form_at, normal_of, cross, IsZero, IsSamePlane, form_of, Plane, same_planes_equal}

abbrev gp : Poly
gp = at 0 ⊗ at 8 ⊕ at 1 ⊗ at 9 ⊕ at 2 ⊗ at 10 ⊕ at 3 ⊗ at 11

abbrev hp : Poly
hp = at 4 ⊗ at 8 ⊕ at 5 ⊗ at 9 ⊕ at 6 ⊗ at 10 ⊕ at 7 ⊗ at 11

parallel-same : (g h : Form) (p : SpacePoint) → IsZero (cross (normal_of g) (normal_of h)) → form_at g p ≡ pos 0 → form_at h p ≡ pos 0 → IsSamePlane g h
parallel-same g h p z e f = record {
  parallel = z;
  along_a = follows_times (g.a ∷ g.b ∷ g.c ∷ g.d ∷ h.a ∷ h.b ∷ h.c ∷ h.d ∷ p.x ∷ p.y ∷ p.z ∷ pos p.w ∷ []) (at 11) (at 0 ⊗ at 7) (at 4 ⊗ at 3)
      (given (at 0) hp (num (pos 0)) f (given (num (pos 0) ⊖ at 4) gp (num (pos 0)) e
      (given (num (pos 0) ⊖ at 9) (at 0 ⊗ at 5 ⊖ at 1 ⊗ at 4) (num (pos 0)) z.2 (given (at 10) (at 2 ⊗ at 4 ⊖ at 0 ⊗ at 6) (num (pos 0)) z.1 none)))) weight tt;
  along_b = follows_times (g.a ∷ g.b ∷ g.c ∷ g.d ∷ h.a ∷ h.b ∷ h.c ∷ h.d ∷ p.x ∷ p.y ∷ p.z ∷ pos p.w ∷ []) (at 11) (at 1 ⊗ at 7) (at 5 ⊗ at 3)
      (given (at 1) hp (num (pos 0)) f (given (num (pos 0) ⊖ at 5) gp (num (pos 0)) e
      (given (at 8) (at 0 ⊗ at 5 ⊖ at 1 ⊗ at 4) (num (pos 0)) z.2 (given (num (pos 0) ⊖ at 10) (at 1 ⊗ at 6 ⊖ at 2 ⊗ at 5) (num (pos 0)) z.0 none)))) weight tt;
  along_c = follows_times (g.a ∷ g.b ∷ g.c ∷ g.d ∷ h.a ∷ h.b ∷ h.c ∷ h.d ∷ p.x ∷ p.y ∷ p.z ∷ pos p.w ∷ []) (at 11) (at 2 ⊗ at 7) (at 6 ⊗ at 3)
      (given (at 2) hp (num (pos 0)) f (given (num (pos 0) ⊖ at 6) gp (num (pos 0)) e
      (given (num (pos 0) ⊖ at 8) (at 2 ⊗ at 4 ⊖ at 0 ⊗ at 6) (num (pos 0)) z.1 (given (at 9) (at 1 ⊗ at 6 ⊖ at 2 ⊗ at 5) (num (pos 0)) z.0 none)))) weight tt;
}
  where
    weight : pos 0 <ℤ pos p.w
    weight = let m = p.proper in omega (arith, ints)

pub parallel-equal : (g h : Plane) (p : SpacePoint) → IsZero (cross (normal_of (form_of g)) (normal_of (form_of h))) → form_at (form_of g) p ≡ pos 0 → form_at (form_of h) p ≡ pos 0 → g ≡ h
parallel-equal g h p z e f = same_planes_equal g h (parallel-same (form_of g) (form_of h) p z e f)
