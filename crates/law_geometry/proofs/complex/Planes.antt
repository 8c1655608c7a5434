-- Forms of one plane are nought at the same points and along the same directions.
use Rattle.law_geometry.proofs.complex.Prelude.{◌≡◌, ℤ, pos, ◌+ℤ◌, ◌*ℤ◌, sym, ◌∙◌, ⊎_elim, ◌∷◌, [], ring, at, num, ◌⊕◌, ◌⊖◌, ◌⊗◌, given, none, follows, SpacePoint, Form, form_at, slope, toward, Vector, SamePlane, nought-or, IsZero, cross, normal_of, arith, ints}
use Rattle.nef_space.proofs.Elementary.{nought-factor}

-- their normals are parallel
pub same-parallel : (g h : Form) → SamePlane g h → IsZero (cross (normal_of g) (normal_of h))
same-parallel g h S = (let e = S.bc in omega (arith, ints, e), let e = S.ac in omega (arith, ints, e), let e = S.ab in omega (arith, ints, e))

-- where the one plane's form is nought in x, y, z, w, so is the other's
same-nought : (g h : Form) → SamePlane g h → (x y z w : ℤ) → g.a *ℤ x +ℤ g.b *ℤ y +ℤ g.c *ℤ z +ℤ g.d *ℤ w ≡ pos 0 → h.a *ℤ x +ℤ h.b *ℤ y +ℤ h.c *ℤ z +ℤ h.d *ℤ w ≡ pos 0
same-nought g h S x y z w e = ⊎_elim (λ o. o) (λ f. absurd (S.is_plane (of_a f, of_b f, of_c f))) (nought-or value)
  where
    value : ℤ
    value = h.a *ℤ x +ℤ h.b *ℤ y +ℤ h.c *ℤ z +ℤ h.d *ℤ w

    of_a : (h.a *ℤ x +ℤ h.b *ℤ y +ℤ h.c *ℤ z +ℤ h.d *ℤ w ≡ pos 0 → ⊥) → g.a ≡ pos 0
    of_a f = nought-factor g.a (h.a *ℤ x +ℤ h.b *ℤ y +ℤ h.c *ℤ z +ℤ h.d *ℤ w) f (follows (g.a ∷ g.b ∷ g.c ∷ g.d ∷ h.a ∷ h.b ∷ h.c ∷ h.d ∷ x ∷ y ∷ z ∷ w ∷ [])
        (at 0 ⊗ (at 4 ⊗ at 8 ⊕ at 5 ⊗ at 9 ⊕ at 6 ⊗ at 10 ⊕ at 7 ⊗ at 11)) (num (pos 0))
        (given (at 4) (at 0 ⊗ at 8 ⊕ at 1 ⊗ at 9 ⊕ at 2 ⊗ at 10 ⊕ at 3 ⊗ at 11) (num (pos 0)) e
        (given (at 9) (at 0 ⊗ at 5) (at 1 ⊗ at 4) S.ab (given (at 10) (at 0 ⊗ at 6) (at 2 ⊗ at 4) S.ac (given (at 11) (at 0 ⊗ at 7) (at 3 ⊗ at 4) S.ad none)))) tt)

    of_b : (h.a *ℤ x +ℤ h.b *ℤ y +ℤ h.c *ℤ z +ℤ h.d *ℤ w ≡ pos 0 → ⊥) → g.b ≡ pos 0
    of_b f = nought-factor g.b (h.a *ℤ x +ℤ h.b *ℤ y +ℤ h.c *ℤ z +ℤ h.d *ℤ w) f (follows (g.a ∷ g.b ∷ g.c ∷ g.d ∷ h.a ∷ h.b ∷ h.c ∷ h.d ∷ x ∷ y ∷ z ∷ w ∷ [])
        (at 1 ⊗ (at 4 ⊗ at 8 ⊕ at 5 ⊗ at 9 ⊕ at 6 ⊗ at 10 ⊕ at 7 ⊗ at 11)) (num (pos 0))
        (given (at 5) (at 0 ⊗ at 8 ⊕ at 1 ⊗ at 9 ⊕ at 2 ⊗ at 10 ⊕ at 3 ⊗ at 11) (num (pos 0)) e
        (given (num (pos 0) ⊖ at 8) (at 0 ⊗ at 5) (at 1 ⊗ at 4) S.ab (given (at 10) (at 1 ⊗ at 6) (at 2 ⊗ at 5) S.bc (given (at 11) (at 1 ⊗ at 7) (at 3 ⊗ at 5) S.bd none)))) tt)

    of_c : (h.a *ℤ x +ℤ h.b *ℤ y +ℤ h.c *ℤ z +ℤ h.d *ℤ w ≡ pos 0 → ⊥) → g.c ≡ pos 0
    of_c f = nought-factor g.c (h.a *ℤ x +ℤ h.b *ℤ y +ℤ h.c *ℤ z +ℤ h.d *ℤ w) f (follows (g.a ∷ g.b ∷ g.c ∷ g.d ∷ h.a ∷ h.b ∷ h.c ∷ h.d ∷ x ∷ y ∷ z ∷ w ∷ [])
        (at 2 ⊗ (at 4 ⊗ at 8 ⊕ at 5 ⊗ at 9 ⊕ at 6 ⊗ at 10 ⊕ at 7 ⊗ at 11)) (num (pos 0))
        (given (at 6) (at 0 ⊗ at 8 ⊕ at 1 ⊗ at 9 ⊕ at 2 ⊗ at 10 ⊕ at 3 ⊗ at 11) (num (pos 0)) e
        (given (num (pos 0) ⊖ at 8) (at 0 ⊗ at 6) (at 2 ⊗ at 4) S.ac (given (num (pos 0) ⊖ at 9) (at 1 ⊗ at 6) (at 2 ⊗ at 5) S.bc (given (at 11) (at 2 ⊗ at 7) (at 3 ⊗ at 6) S.cd none)))) tt)

pub plane-turned : (g h : Form) → SamePlane g h → SamePlane h g
plane-turned g h S = record {
  is_plane = S.is_other_plane;
  is_other_plane = S.is_plane;
  ab = turned g.a g.b h.a h.b S.ab;
  ac = turned g.a g.c h.a h.c S.ac;
  ad = turned g.a g.d h.a h.d S.ad;
  bc = turned g.b g.c h.b h.c S.bc;
  bd = turned g.b g.d h.b h.d S.bd;
  cd = turned g.c g.d h.c h.d S.cd;
}
  where
    turned : (a b c d : ℤ) → a *ℤ d ≡ b *ℤ c → c *ℤ b ≡ d *ℤ a
    turned a b c d e = ring (c ∷ b ∷ []) (at 0 ⊗ at 1) (at 1 ⊗ at 0) tt ∙ sym e ∙ ring (a ∷ d ∷ []) (at 0 ⊗ at 1) (at 1 ⊗ at 0) tt

pub plane-point : (g h : Form) (p : SpacePoint) → SamePlane g h → form_at g p ≡ pos 0 → form_at h p ≡ pos 0
plane-point g h p S e = same-nought g h S p.x p.y p.z (pos p.w) e

pub plane-slope : (g h : Form) (d : Vector) → SamePlane g h → slope g d ≡ pos 0 → slope h d ≡ pos 0
plane-slope g h d S e =
    let f = same-nought g h S d.x d.y d.z (pos 0) (ring (g.a ∷ g.b ∷ g.c ∷ g.d ∷ d.x ∷ d.y ∷ d.z ∷ []) (at 0 ⊗ at 4 ⊕ at 1 ⊗ at 5 ⊕ at 2 ⊗ at 6 ⊕ at 3 ⊗ num (pos 0)) (at 0 ⊗ at 4 ⊕ at 1 ⊗ at 5 ⊕ at 2 ⊗ at 6) tt ∙ e) in
    ring (h.a ∷ h.b ∷ h.c ∷ h.d ∷ d.x ∷ d.y ∷ d.z ∷ []) (at 0 ⊗ at 4 ⊕ at 1 ⊗ at 5 ⊕ at 2 ⊗ at 6) (at 0 ⊗ at 4 ⊕ at 1 ⊗ at 5 ⊕ at 2 ⊗ at 6 ⊕ at 3 ⊗ num (pos 0)) tt ∙ f

-- the way from a point of a plane to another lies in the plane
pub plane-way : (h : Form) (p q : SpacePoint) → form_at h p ≡ pos 0 → form_at h q ≡ pos 0 → slope h (toward p q) ≡ pos 0
plane-way h p q e f = follows (h.a ∷ h.b ∷ h.c ∷ h.d ∷ p.x ∷ p.y ∷ p.z ∷ pos p.w ∷ q.x ∷ q.y ∷ q.z ∷ pos q.w ∷ [])
    (at 0 ⊗ (at 8 ⊗ at 7 ⊖ at 4 ⊗ at 11) ⊕ at 1 ⊗ (at 9 ⊗ at 7 ⊖ at 5 ⊗ at 11) ⊕ at 2 ⊗ (at 10 ⊗ at 7 ⊖ at 6 ⊗ at 11)) (num (pos 0))
    (given (num (pos 0) ⊖ at 11) (at 0 ⊗ at 4 ⊕ at 1 ⊗ at 5 ⊕ at 2 ⊗ at 6 ⊕ at 3 ⊗ at 7) (num (pos 0)) e
    (given (at 7) (at 0 ⊗ at 8 ⊕ at 1 ⊗ at 9 ⊕ at 2 ⊗ at 10 ⊕ at 3 ⊗ at 11) (num (pos 0)) f none)) tt
