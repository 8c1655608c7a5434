-- Points and sets with the same germs have the same flat directions.
use Rattle.law_geometry.proofs.near.Prelude.{◌+ℤ◌, ◌≡◌, ℕ, zero, suc, ◌+◌, ◌-◌, ◌<◌, ℤ, pos, ◌*ℤ◌, arith, refl, ◌∙◌, ◌⊎◌, inl, inr, ◌↔◌, List, ◌∷◌, subst, [], ints, cases_order, ring, at, ◌⊕◌, ◌⊖◌, ◌⊗◌, none, SpacePoint, form, step, toward, Vector, blend, IsZero, cross, triple, zero_vector, Set, HasLabel, SameSet, Germ, Flat, HasFlat, FlatDim, IsEven, IsEvenPath, Joined, Label, carriers, SameSigns, slide, NearGerm, SameCone, SameNear, vector-same}
use Rattle.law_geometry.proofs.near.Near.{weaken, stride, step-within, reach_all}
use Rattle.law_geometry.proofs.near.Cells.{same-sym, reach-some}
use Rattle.law_geometry.proofs.near.Flats.{germ-toward, label-toward, Flat-from_cone, FlatCone-from_flat}
use Rattle.law_geometry.proofs.near.Rays.{Germ-cells, within-self, slope-zero, Germ-zero}
use Rattle.law_geometry.proofs.near.Combine.{shorter}
use Rattle.nef_space.proofs.Elementary.{minor-nought}

-- ---- flat directions by the germs
pub Flat-by_germs : (s t : Set) (p q : SpacePoint) → ((v : Vector) (l : Label) → Germ s p v l ↔ Germ t q v l) → (d : Vector) → Flat s p d → Flat t q d
Flat-by_germs s t p q same d f = Flat-from_cone t q d (λ v b a some l.
    let g = (FlatCone-from_flat s p d f) v b a some l in
    let here = same v l in
    let there = same (slide b v a d) l in
    (λ h. there.0 (g.0 (here.1 h)), λ h. here.0 (g.1 (there.1 h))))

pub HasFlat-by : (s t : Set) (p q : SpacePoint) → ((d : Vector) → Flat s p d → Flat t q d) → (k : ℕ) → HasFlat s p k → HasFlat t q k
HasFlat-by s t p q f zero h = tt
HasFlat-by s t p q f (suc zero) (d, i, g) = (d, i, f d g)
HasFlat-by s t p q f (suc (suc zero)) (d, e, i, g, h) = (d, e, i, f d g, f e h)
HasFlat-by s t p q f (suc (suc (suc zero))) (d, e, c, i, g, h, j) = (d, e, c, i, f d g, f e h, f c j)
HasFlat-by s t p q f (suc (suc (suc (suc k)))) h = h

pub FlatDim-by_germs : (s t : Set) (p q : SpacePoint) → ((v : Vector) (l : Label) → Germ s p v l ↔ Germ t q v l) → (k : ℕ) → FlatDim s p k → FlatDim t q k
FlatDim-by_germs s t p q same k h = (
  HasFlat-by s t p q (Flat-by_germs s t p q same) k h.0,
  λ i. h.1 (HasFlat-by t s q p (Flat-by_germs t s q p (λ v l. ((same v l).1, (same v l).0))) (suc k) i),
)

-- ---- points of one cell
pub germs-by_cell : (s : Set) (p q : SpacePoint) → SameSigns (carriers s) p q → (v : Vector) (l : Label) → Germ s p v l ↔ Germ s q v l
germs-by_cell s p q same v l = (
  Germ-cells s p q v v l same (λ h i o. refl),
  Germ-cells s q p v v l (same-sym (carriers s) p q same) (λ h i o. refl),
)

-- ---- equal cones
pub same-near : (s t : Set) (p : SpacePoint) → SameCone s t p → SameNear s t p
same-near s t p same = (
  reach_all (carriers s) p + reach_all (carriers t) p,
  (let a = reach-some (carriers s) p in omega arith),
  λ q c l.
      let cs = weaken (reach_all (carriers s) p) (reach_all (carriers s) p + reach_all (carriers t) p) p q (omega arith) c in
      let ct = weaken (reach_all (carriers t) p) (reach_all (carriers s) p + reach_all (carriers t) p) p q (omega arith) c in (
        λ h. label-toward t l p q ct ((same.germs (toward p q) l).0 (germ-toward s l p q cs h)),
        λ h. label-toward s l p q cs ((same.germs (toward p q) l).1 (germ-toward t l p q ct h)),
      ),
)

pub germ-near : (s t : Set) (p : SpacePoint) → SameNear s t p → (d : Vector) (l : Label) → Germ s p d l → Germ t p d l
germ-near s t p (n, some, f) d l (m, more, g) = (
  m + stride n d,
  omega arith,
  λ u h. (f (step p u d) (step-within n p d u (shorter (stride n d) (m + stride n d) u (omega arith) h)) l).0 (g u (shorter m (m + stride n d) u (omega arith) h)),
)

pub near-turned : (s t : Set) (p : SpacePoint) → SameNear s t p → SameNear t s p
near-turned s t p (n, some, f) = (n, some, λ q c l. let e = f q c l in (e.1, e.0))

pub same-cone : (s t : Set) (p : SpacePoint) → SameNear s t p → SameCone s t p
same-cone s t p near = record {
  label = near.2 p (within-self near.0 p);
  germs = λ d l. (germ-near s t p near d l, germ-near t s p (near-turned s t p near) d l);
}

pub cones-of_same : (s t : Set) → SameSet s t → (p : SpacePoint) → SameCone s t p
cones-of_same s t same p = same-cone s t p (1, omega arith, λ q c l. same q l)

pub Flat-by_cone : (s t : Set) (p : SpacePoint) (d : Vector) → SameCone s t p → Flat s p d ↔ Flat t p d
Flat-by_cone s t p d c = (Flat-by_germs s t p p c.germs d, Flat-by_germs t s p p (λ v l. let e = c.germs v l in (e.1, e.0)) d)

pub FlatDim-by_cone : (s t : Set) (p : SpacePoint) (k : ℕ) → SameCone s t p → FlatDim s p k ↔ FlatDim t p k
FlatDim-by_cone s t p k c = (FlatDim-by_germs s t p p c.germs k, FlatDim-by_germs t s p p (λ v l. let e = c.germs v l in (e.1, e.0)) k)

pub NearGerm-by_cone : (s t : Set) (p : SpacePoint) (d e : Vector) (l : Label) → SameCone s t p → NearGerm s p d e l ↔ NearGerm t p d e l
NearGerm-by_cone s t p d e l c = (λ g. (g.0, λ k h. (c.germs (blend k d 1 e) l).0 (g.1 k h)), λ g. (g.0, λ k h. (c.germs (blend k d 1 e) l).1 (g.1 k h)))

-- ---- equal sets join the same points
even-same : (s t : Set) → SameSet s t → (k : ℕ) (p q : SpacePoint) → IsEven s k p q → IsEven t k p q
even-same s t same k p q f r on = (FlatDim-by_cone s t r k (cones-of_same s t same r)).0 (f r on)

path-same : (s t : Set) → SameSet s t → (k : ℕ) (p : SpacePoint) (rs : List SpacePoint) (q : SpacePoint) → IsEvenPath s k p rs q → IsEvenPath t k p rs q
path-same s t same k p [] q f = even-same s t same k p q f
path-same s t same k p (r ∷ rs) q f = (even-same s t same k p r f.0, path-same s t same k r rs q f.1)

pub Joined-same : (s t : Set) (p q : SpacePoint) → SameSet s t → Joined s p q → Joined t p q
Joined-same s t p q same (k, rs, d, path) = (k, rs, (FlatDim-by_cone s t p k (cones-of_same s t same p)).0 d, path-same s t same k p rs q path)

-- ---- how many independent flat directions
fewer-3 : (s : Set) (p : SpacePoint) → HasFlat s p 3 → HasFlat s p 2
fewer-3 s p (d, e, c, i, g, h, j) = (d, e, (λ z. i (none z)), g, h)
  where
    none : IsZero (cross d e) → triple d e c ≡ pos 0
    none z =
        ring (d.x ∷ d.y ∷ d.z ∷ e.x ∷ e.y ∷ e.z ∷ c.x ∷ c.y ∷ c.z ∷ [])
        (at 0 ⊗ (at 4 ⊗ at 8 ⊖ at 5 ⊗ at 7) ⊕ at 1 ⊗ (at 5 ⊗ at 6 ⊖ at 3 ⊗ at 8) ⊕ at 2 ⊗ (at 3 ⊗ at 7 ⊖ at 4 ⊗ at 6))
        (at 6 ⊗ (at 1 ⊗ at 5 ⊖ at 2 ⊗ at 4) ⊕ at 7 ⊗ (at 2 ⊗ at 3 ⊖ at 0 ⊗ at 5) ⊕ at 8 ⊗ (at 0 ⊗ at 4 ⊖ at 1 ⊗ at 3)) tt
        ∙ slope-zero (form c.x c.y c.z (pos 0)) (cross d e) z

fewer-2 : (s : Set) (p : SpacePoint) → HasFlat s p 2 → HasFlat s p 1
fewer-2 s p (d, e, i, g, h) = (d, (λ z. i (none z)), g)
  where
    none : IsZero d → IsZero (cross d e)
    none z = (minor-nought e.z e.y d.y d.z z.1 z.2, minor-nought e.x e.z d.z d.x z.2 z.0, minor-nought e.y e.x d.x d.y z.0 z.1)

fewer : (s : Set) (p : SpacePoint) (k : ℕ) → HasFlat s p (suc k) → HasFlat s p k
fewer s p zero h = tt
fewer s p (suc zero) h = fewer-2 s p h
fewer s p (suc (suc zero)) h = fewer-3 s p h
fewer s p (suc (suc (suc k))) h = absurd h

pub HasFlat-fewer : (s : Set) (p : SpacePoint) (j k : ℕ) → HasFlat s p (j + k) → HasFlat s p k
HasFlat-fewer s p zero k h = let e : 0 + k ≡ k = omega arith in subst (HasFlat s p) e h
HasFlat-fewer s p (suc j) k h = HasFlat-fewer s p j k (let e : suc j + k ≡ suc (j + k) = omega arith in fewer s p (j + k) (subst (HasFlat s p) e h))

pub FlatDim-one : (s : Set) (p : SpacePoint) (j k : ℕ) → FlatDim s p j → FlatDim s p k → j ≡ k
FlatDim-one s p j k f g = by (cases_order j k)
  where
    none : (j k : ℕ) → FlatDim s p j → FlatDim s p k → j < k → ⊥
    none j k f g l = let e : k ≡ (k - suc j) + suc j = omega arith in f.1 (HasFlat-fewer s p (k - suc j) (suc j) (subst (HasFlat s p) e g.0))

    by : (j ≡ k) ⊎ ((j < k) ⊎ (k < j)) → j ≡ k
    by (inl e) = e
    by (inr (inl l)) = absurd (none j k f g l)
    by (inr (inr l)) = absurd (none k j g f l)

-- along a flat direction the germ is the label
pub flat-germ : (s : Set) (p : SpacePoint) (d : Vector) (l : Label) → Flat s p d → HasLabel s p l → Germ s p d l
flat-germ s p d l f h =
    let g = (FlatCone-from_flat s p d f zero_vector 1 (pos 1) (omega arith) l).0 ((Germ-zero s p zero_vector l (refl, refl, refl)).1 h) in
    subst (λ (v : Vector). Germ s p v l) (vector-same (slide 1 zero_vector (pos 1) d) d (one d.x) (one d.y) (one d.z)) g
  where
    one : (x : ℤ) → pos 1 *ℤ pos 0 +ℤ pos 1 *ℤ x ≡ x
    one x = omega (arith, ints)
