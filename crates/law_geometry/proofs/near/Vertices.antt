-- A set has finitely many vertices: they are among the meets of three of its carriers.
use Rattle.law_geometry.proofs.near.Prelude.{◌≡◌, ℕ, zero, suc, ◌+◌, ℤ, pos, negsuc, ◌+ℤ◌, ◌-ℤ◌, ◌*ℤ◌, neg_ℤ, arith, refl, ap, sym, ◌∙◌, ◌⊎◌, inl, inr, ⊎_elim, List, ◌∷◌, ◌++◌, subst, [], ints, Lies, at, num, neg, ◌⊕◌, ◌⊖◌, ◌⊗◌, Poly, given, none, follows, nought-is, SpacePoint, Form, form_at, normal_of, SamePoint, Vector, vector, triple, Set, FlatDim, IsVertex, carriers, IsMeet}
use Rattle.law_geometry.proofs.near.Rays.{signs-same, same-point_sym}
use Rattle.law_geometry.proofs.near.Alike.{FlatDim-by_germs, germs-by_cell}
use Rattle.law_geometry.proofs.near.FlatDecided.{flat_dim-decided}
use Rattle.law_geometry.proofs.near.Meets.{vertex-meets}

-- ---- the meet of three planes
-- where the forms are zero at (x, y, z, w), [f g h] (x, y, z) is w times this
abbrev numerators : Form → Form → Form → Vector
numerators f g h = vector
    (neg_ℤ (f.d *ℤ (g.b *ℤ h.c -ℤ g.c *ℤ h.b) +ℤ g.d *ℤ (h.b *ℤ f.c -ℤ h.c *ℤ f.b) +ℤ h.d *ℤ (f.b *ℤ g.c -ℤ f.c *ℤ g.b)))
    (neg_ℤ (f.d *ℤ (g.c *ℤ h.a -ℤ g.a *ℤ h.c) +ℤ g.d *ℤ (h.c *ℤ f.a -ℤ h.a *ℤ f.c) +ℤ h.d *ℤ (f.c *ℤ g.a -ℤ f.a *ℤ g.c)))
    (neg_ℤ (f.d *ℤ (g.a *ℤ h.b -ℤ g.b *ℤ h.a) +ℤ g.d *ℤ (h.a *ℤ f.b -ℤ h.b *ℤ f.a) +ℤ h.d *ℤ (f.a *ℤ g.b -ℤ f.b *ℤ g.a)))

abbrev determinant : Form → Form → Form → ℤ
determinant f g h = triple (normal_of f) (normal_of g) (normal_of h)

-- the meet, none where the normals aren't independent
abbrev meet_at : ℤ → Vector → List SpacePoint
meet_at (pos zero) v = []
meet_at (pos (suc n)) v = record { x = v.x; y = v.y; z = v.z; w = suc n; proper = omega arith } ∷ []
meet_at (negsuc n) v = record { x = neg_ℤ v.x; y = neg_ℤ v.y; z = neg_ℤ v.z; w = suc n; proper = omega arith } ∷ []

-- the numbers of three forms and of a point, and the minors of two of the forms
abbrev numbers : Form → Form → Form → SpacePoint → List ℤ
numbers f g h p = f.a ∷ f.b ∷ f.c ∷ f.d ∷ g.a ∷ g.b ∷ g.c ∷ g.d ∷ h.a ∷ h.b ∷ h.c ∷ h.d ∷ p.x ∷ p.y ∷ p.z ∷ pos p.w ∷ []

abbrev minor : ℕ → ℕ → ℕ → ℕ → Poly
minor i j k l = at i ⊗ at l ⊖ at j ⊗ at k

abbrev whole : Poly
whole = at 0 ⊗ minor 5 6 9 10 ⊕ at 1 ⊗ minor 6 4 10 8 ⊕ at 2 ⊗ minor 4 5 8 9

abbrev form_p : ℕ → Poly
form_p i = at i ⊗ at 12 ⊕ at (i + 1) ⊗ at 13 ⊕ at (i + 2) ⊗ at 14 ⊕ at (i + 3) ⊗ at 15

-- Cramer's rule
cramer-x : (f g h : Form) (p : SpacePoint) → form_at f p ≡ pos 0 → form_at g p ≡ pos 0 → form_at h p ≡ pos 0 → determinant f g h *ℤ p.x ≡ pos p.w *ℤ (numerators f g h).x
cramer-x f g h p i j k =
    follows (numbers f g h p) (whole ⊗ at 12) (at 15 ⊗ neg (at 3 ⊗ minor 5 6 9 10 ⊕ at 7 ⊗ minor 9 10 1 2 ⊕ at 11 ⊗ minor 1 2 5 6))
    (given (minor 5 6 9 10) (form_p 0) (num (pos 0)) i (given (minor 9 10 1 2) (form_p 4) (num (pos 0)) j (given (minor 1 2 5 6) (form_p 8) (num (pos 0)) k none))) tt

cramer-y : (f g h : Form) (p : SpacePoint) → form_at f p ≡ pos 0 → form_at g p ≡ pos 0 → form_at h p ≡ pos 0 → determinant f g h *ℤ p.y ≡ pos p.w *ℤ (numerators f g h).y
cramer-y f g h p i j k =
    follows (numbers f g h p) (whole ⊗ at 13) (at 15 ⊗ neg (at 3 ⊗ minor 6 4 10 8 ⊕ at 7 ⊗ minor 10 8 2 0 ⊕ at 11 ⊗ minor 2 0 6 4))
    (given (minor 6 4 10 8) (form_p 0) (num (pos 0)) i (given (minor 10 8 2 0) (form_p 4) (num (pos 0)) j (given (minor 2 0 6 4) (form_p 8) (num (pos 0)) k none))) tt

cramer-z : (f g h : Form) (p : SpacePoint) → form_at f p ≡ pos 0 → form_at g p ≡ pos 0 → form_at h p ≡ pos 0 → determinant f g h *ℤ p.z ≡ pos p.w *ℤ (numerators f g h).z
cramer-z f g h p i j k =
    follows (numbers f g h p) (whole ⊗ at 14) (at 15 ⊗ neg (at 3 ⊗ minor 4 5 8 9 ⊕ at 7 ⊗ minor 8 9 0 1 ⊕ at 11 ⊗ minor 0 1 4 5))
    (given (minor 4 5 8 9) (form_p 0) (num (pos 0)) i (given (minor 8 9 0 1) (form_p 4) (num (pos 0)) j (given (minor 0 1 4 5) (form_p 8) (num (pos 0)) k none))) tt

-- a point with D x = w X, where D isn't zero, is the meet
found : (D : ℤ) (v : Vector) (p : SpacePoint) → (D ≡ pos 0 → ⊥) → D *ℤ p.x ≡ pos p.w *ℤ v.x → D *ℤ p.y ≡ pos p.w *ℤ v.y → D *ℤ p.z ≡ pos p.w *ℤ v.z → (q : SpacePoint) × Lies (meet_at D v) q × SamePoint q p
found (pos zero) v p n i j k = absurd (n refl)
found (pos (suc m)) v p n i j k = (record { x = v.x; y = v.y; z = v.z; w = suc m; proper = omega arith }, inl refl, record { along_x = one v.x p.x i; along_y = one v.y p.y j; along_z = one v.z p.z k })
  where
    one : (a b : ℤ) → pos (suc m) *ℤ b ≡ pos p.w *ℤ a → a *ℤ pos p.w ≡ b *ℤ pos (suc m)
    one a b e = follows (a ∷ b ∷ pos (suc m) ∷ pos p.w ∷ []) (at 0 ⊗ at 3) (at 1 ⊗ at 2) (given (num (negsuc 0)) (at 2 ⊗ at 1) (at 3 ⊗ at 0) e none) tt
found (negsuc m) v p n i j k = (record { x = neg_ℤ v.x; y = neg_ℤ v.y; z = neg_ℤ v.z; w = suc m; proper = omega arith }, inl refl, record { along_x = one v.x p.x i; along_y = one v.y p.y j; along_z = one v.z p.z k })
  where
    turned : negsuc m ≡ neg_ℤ (pos (suc m))
    turned = omega (arith, ints)

    one : (a b : ℤ) → negsuc m *ℤ b ≡ pos p.w *ℤ a → neg_ℤ a *ℤ pos p.w ≡ b *ℤ pos (suc m)
    one a b e = let h = ap (λ z. z *ℤ b) (sym turned) ∙ e in
        follows (a ∷ b ∷ pos (suc m) ∷ pos p.w ∷ []) (neg (at 0) ⊗ at 3) (at 1 ⊗ at 2) (given (num (pos 1)) (neg (at 2) ⊗ at 1) (at 3 ⊗ at 0) h none) tt

-- ---- all meets of three forms of a list
abbrev each : List Form → (Form → List SpacePoint) → List SpacePoint
each [] F = []
each (h ∷ hs) F = F h ++ each hs F

on-left : (ps qs : List SpacePoint) (q : SpacePoint) → Lies ps q → Lies (ps ++ qs) q
on-left [] qs q l = absurd l
on-left (p ∷ ps) qs q (inl e) = inl e
on-left (p ∷ ps) qs q (inr l) = inr (on-left ps qs q l)

on-right : (ps qs : List SpacePoint) (q : SpacePoint) → Lies qs q → Lies (ps ++ qs) q
on-right [] qs q l = l
on-right (p ∷ ps) qs q l = inr (on-right ps qs q l)

in-each : (hs : List Form) (F : Form → List SpacePoint) (h : Form) (q : SpacePoint) → Lies hs h → Lies (F h) q → Lies (each hs F) q
in-each [] F h q l m = absurd l
in-each (k ∷ ks) F h q (inl e) m = on-left (F k) (each ks F) q (subst (λ (x : Form). Lies (F x) q) (sym e) m)
in-each (k ∷ ks) F h q (inr l) m = on-right (F k) (each ks F) q (in-each ks F h q l m)

abbrev meets : List Form → List SpacePoint
meets hs = each hs (λ f. each hs (λ g. each hs (λ h. meet_at (determinant f g h) (numerators f g h))))

among-meets : (hs : List Form) (p : SpacePoint) → IsMeet hs p → (q : SpacePoint) × Lies (meets hs) q × SamePoint q p
among-meets hs p m =
    let f = m.first in
    let g = m.second in
    let h = m.third in
    let i = nought-is (form_at f p) m.first_at in
    let j = nought-is (form_at g p) m.second_at in
    let k = nought-is (form_at h p) m.third_at in
    let r = found (determinant f g h) (numerators f g h) p m.independent (cramer-x f g h p i j k) (cramer-y f g h p i j k) (cramer-z f g h p i j k) in (
      r.0,
      in-each hs (λ f. each hs (λ g. each hs (λ h. meet_at (determinant f g h) (numerators f g h)))) f r.0 m.first_in
          (in-each hs (λ g. each hs (λ h. meet_at (determinant f g h) (numerators f g h))) g r.0 m.second_in
          (in-each hs (λ h. meet_at (determinant f g h) (numerators f g h)) h r.0 m.third_in r.1)),
      r.2,
    )

-- ---- those that are vertices
select : (s : Set) (ps : List SpacePoint) → (qs : List SpacePoint) × ((q : SpacePoint) → Lies qs q → IsVertex s q) × ((q : SpacePoint) → Lies ps q → IsVertex s q → Lies qs q)
select s [] = ([], λ q l. absurd l, λ q l v. l)
select s (p ∷ ps) = by (flat_dim-decided s p 0) (select s ps)
  where
    by : FlatDim s p 0 ⊎ (FlatDim s p 0 → ⊥) → ((qs : List SpacePoint) × ((q : SpacePoint) → Lies qs q → IsVertex s q) × ((q : SpacePoint) → Lies ps q → IsVertex s q → Lies qs q))
        → (qs : List SpacePoint) × ((q : SpacePoint) → Lies qs q → IsVertex s q) × ((q : SpacePoint) → Lies (p ∷ ps) q → IsVertex s q → Lies qs q)
    by (inl v) (qs, f, g) = (p ∷ qs, λ q l. ⊎_elim (λ e. subst (IsVertex s) e v) (f q) l, λ q l w. ⊎_elim (λ e. inl e) (λ m. inr (g q m w)) l)
    by (inr n) (qs, f, g) = (qs, f, λ q l w. ⊎_elim (λ e. absurd (n (subst (IsVertex s) (sym e) w))) (λ m. g q m w) l)

-- a set has finitely many vertices
pub all-vertices : (s : Set) → (ps : List SpacePoint) × ((q : SpacePoint) → Lies ps q → IsVertex s q) × ((p : SpacePoint) → IsVertex s p → (q : SpacePoint) × Lies ps q × SamePoint q p)
all-vertices s =
    let r = select s (meets (carriers s)) in (
      r.0,
      r.1,
      λ p v.
          let m = among-meets (carriers s) p (vertex-meets s p v) in
          (m.0, r.2 m.0 m.1 (FlatDim-by_germs s s p m.0 (germs-by_cell s p m.0 (signs-same (carriers s) p m.0 (same-point_sym m.0 p m.2))) 0 v), m.2),
    )
