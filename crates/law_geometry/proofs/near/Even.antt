-- Along a segment whose points have equally many flat directions the cone doesn't change.
use Rattle.law_geometry.proofs.near.Prelude.{◌≡◌, ℕ, zero, suc, ◌+◌, ◌*◌, ◌<◌, ◌≤◌, ℤ, pos, ◌+ℤ◌, ◌-ℤ◌, ◌*ℤ◌, ◌<ℤ◌, arith, refl, ap, sym, ◌∙◌, inl, inr, ⊎_elim, ◌↔◌, List, ◌∷◌, ◌++◌, subst, [], ints, le-mul_of_pos_right, sign_times, ring, at, num, ◌⊕◌, ◌⊖◌, ◌⊗◌, given, none, follows, nought-is, sign-plus, sign_of_product, by_order, nought-or, SpacePoint, Form, slope, Within, SamePoint, toward, Vector, zero_vector, blend, dot, cross, triple, IsZero, IsDirection, Set, HasLabel, Germ, Flat, FlatDim, IsEven, IsEvenPath, Joined, Label, sign_at, carriers, SameSigns, slide, combination, NearGerm, FlatCone, IsOnSegment, IsSettled, SameGerms, zero-decided, self-pos, vector-same, cross_of, dot_of, numbers, scaled-coordinates, triple_poly, vec}
use Rattle.nef_space.specs.Signs.{sign}
use Rattle.law_geometry.proofs.near.Near.{step-within, reach_all}
use Rattle.law_geometry.proofs.near.Cells.{reach-some, keeps-all, is_nought, Cells}
use Rattle.law_geometry.proofs.near.Germs.{Germ-unique, near-same, sign-along, sample, sample-short}
use Rattle.law_geometry.proofs.near.Flats.{Flat-from_cone, FlatCone-from_flat, FlatCone-from_carriers, sign-toward}
use Rattle.law_geometry.proofs.near.Rays.{same-point_sym, signs-same, Germ-zero}
use Rattle.law_geometry.proofs.near.Mixed.{toward-point, between-is}
use Rattle.law_geometry.proofs.near.Alike.{germs-by_cell, FlatDim-by_germs, FlatDim-one}
use Rattle.law_geometry.proofs.near.Decisions.{ahead, near-ahead, near-germ_of}
use Rattle.law_geometry.proofs.near.FlatOperations.{flat-combination}
use Rattle.law_geometry.proofs.near.FlatDecided.{near-of_flat, flat-by_signs, flat_dim-of}
use Rattle.law_geometry.proofs.near.Between.{between-turned}
use Rattle.law_geometry.proofs.near.Decided.{germ_of}
use Rattle.law_geometry.proofs.near.FirstChange.{settled-along}

-- ---- the germs at a point close to p
ahead-cell : (s : Set) (p q : SpacePoint) → Within (reach_all (carriers s) p) p q → SameSigns (carriers s) q (ahead s p (toward p q))
ahead-cell s p q c = near-same (carriers s) p q (ahead s p (toward p q)) c (step-within (reach_all (carriers s) p) p (toward p q) (sample s p (toward p q)) (sample-short s p (toward p q)))
    (λ h i o. sign-toward h p q o ∙ sym (sign-along h p (sample s p (toward p q)) (toward p q) o (omega (arith, ints))))

pub germ-nearby : (s : Set) (p q : SpacePoint) → Within (reach_all (carriers s) p) p q → (v : Vector) (l : Label) → Germ s q v l ↔ NearGerm s p (toward p q) v l
germ-nearby s p q c v l =
    let a = germs-by_cell s q (ahead s p (toward p q)) (ahead-cell s p q c) v l in
    let b = near-ahead s p (toward p q) v l in
    (λ g. b.0 (a.0 g), λ g. a.1 (b.1 g))

-- ---- the flat directions at a point close to p
-- what is flat at p is flat close to p
near-slide : (s : Set) (p : SpacePoint) (d : Vector) → FlatCone s p d → (e v : Vector) (b : ℕ) (a : ℤ) → 0 < b → (l : Label) → NearGerm s p e v l → NearGerm s p e (slide b v a d) l
near-slide s p d f e v b a some l (n, g) =
    let o = near-germ_of s p e (slide b v a d) in
    let k = n + o.1.0 in
    let large : k ≤ k * b = (let m = le-mul_of_pos_right k some in omega arith) in
    let i = subst (λ (u : Vector). Germ s p u l) (same k) ((f (blend k e 1 v) b a some l).0 (g k (omega arith))) in
    let j = o.1.1 (k * b) (omega arith) in
    subst (NearGerm s p e (slide b v a d)) (Germ-unique s p (blend (k * b) e 1 (slide b v a d)) o.0 l j i) o.1
  where
    one : (k : ℕ) (x y z : ℤ) → pos b *ℤ (pos k *ℤ x +ℤ pos 1 *ℤ y) +ℤ a *ℤ z ≡ pos (k * b) *ℤ x +ℤ pos 1 *ℤ (pos b *ℤ y +ℤ a *ℤ z)
    one k x y z = ring (pos k ∷ pos b ∷ a ∷ x ∷ y ∷ z ∷ []) (at 1 ⊗ (at 0 ⊗ at 3 ⊕ num (pos 1) ⊗ at 4) ⊕ at 2 ⊗ at 5) (at 0 ⊗ at 1 ⊗ at 3 ⊕ num (pos 1) ⊗ (at 1 ⊗ at 4 ⊕ at 2 ⊗ at 5)) tt

    same : (k : ℕ) → slide b (blend k e 1 v) a d ≡ blend (k * b) e 1 (slide b v a d)
    same k = vector-same (slide b (blend k e 1 v) a d) (blend (k * b) e 1 (slide b v a d)) (one k e.x v.x d.x) (one k e.y v.y d.y) (one k e.z v.z d.z)

pub flat-nearby : (s : Set) (p q : SpacePoint) → Within (reach_all (carriers s) p) p q → (d : Vector) → FlatCone s p d → FlatCone s q d
flat-nearby s p q c d f v b a some l = (onward l, back)
  where
    onward : (m : Label) → Germ s q v m → Germ s q (slide b v a d) m
    onward m g = (germ-nearby s p q c (slide b v a d) m).1 (near-slide s p d f (toward p q) v b a some m ((germ-nearby s p q c v m).0 g))

    back : Germ s q (slide b v a d) l → Germ s q v l
    back g = let m = germ_of s q v in subst (Germ s q v) (Germ-unique s q (slide b v a d) m.0 l (onward m.0 m.1) g) m.1

-- the way from p to q is flat at q
pub flat-toward : (s : Set) (p q : SpacePoint) → Within (reach_all (carriers s) p) p q → FlatCone s q (toward p q)
flat-toward s p q c = FlatCone-from_carriers s q (toward p q) (λ h l o. ⊎_elim
    (λ z. nought-is (slope h (toward p q)) (sym (sign-toward h p q z) ∙ o))
    (λ n. absurd (n (sym (keeps-all (carriers s) p q c h l n) ∙ o)))
    (is_nought (sign_at h p)))

-- ---- what is in the span of flat directions is flat
-- a vector of which a positive multiple is flat
pub flat-divided : (s : Set) (p : SpacePoint) (k : ℤ) (d e : Vector) → pos 0 <ℤ k → k *ℤ e.x ≡ d.x → k *ℤ e.y ≡ d.y → k *ℤ e.z ≡ d.z → Flat s p d → Flat s p e
flat-divided s p k d e some i j l f = Flat-from_cone s p e (flat-by_signs s p d e (λ h m o. ap sign (one h) ∙ sign_of_product k (slope h e) ∙ ap (λ r. sign_times r (sign (slope h e))) (sign-plus k some)) (FlatCone-from_flat s p d f))
  where
    one : (h : Form) → slope h d ≡ k *ℤ slope h e
    one h = follows (h.a ∷ h.b ∷ h.c ∷ d.x ∷ d.y ∷ d.z ∷ e.x ∷ e.y ∷ e.z ∷ k ∷ [])
        (at 0 ⊗ at 3 ⊕ at 1 ⊗ at 4 ⊕ at 2 ⊗ at 5) (at 9 ⊗ (at 0 ⊗ at 6 ⊕ at 1 ⊗ at 7 ⊕ at 2 ⊗ at 8))
        (given (num (pos 0) ⊖ at 0) (at 9 ⊗ at 6) (at 3) i (given (num (pos 0) ⊖ at 1) (at 9 ⊗ at 7) (at 4) j (given (num (pos 0) ⊖ at 2) (at 9 ⊗ at 8) (at 5) l none))) tt

-- a multiple of a flat direction
pub span-1 : (s : Set) (p : SpacePoint) (d e : Vector) → IsDirection d → Flat s p d → IsZero (cross d e) → Flat s p e
span-1 s p d e some f z =
    let i = scaled-coordinates d e z in
    flat-divided s p (dot d d) (combination (dot d e) d (pos 0) d) e (self-pos d some)
    (i.0 ∙ one d.x) (i.1 ∙ one d.y) (i.2 ∙ one d.z) (flat-combination s p d d (dot d e) (pos 0) f f)
  where
    one : (x : ℤ) → dot d e *ℤ x ≡ dot d e *ℤ x +ℤ pos 0 *ℤ x
    one x = ring (dot d e ∷ x ∷ []) (at 0 ⊗ at 1) (at 0 ⊗ at 1 ⊕ num (pos 0) ⊗ at 1) tt

-- (n.n) e = ((e x c).n) d + ((d x e).n) c for n = d x c, where [d c e] = 0
pub span-2 : (s : Set) (p : SpacePoint) (d c e : Vector) → IsDirection (cross d c) → Flat s p d → Flat s p c → triple d c e ≡ pos 0 → Flat s p e
span-2 s p d c e some f g z =
    let xs = numbers d c e e in let n = cross_of (vec 0) (vec 3) in
    let i = dot_of (cross_of (vec 6) (vec 3)) n in let j = dot_of (cross_of (vec 0) (vec 6)) n in
    flat-divided s p (dot (cross d c) (cross d c)) (combination (dot (cross e c) (cross d c)) d (dot (cross d e) (cross d c)) c) e (self-pos (cross d c) some)
    (follows xs (dot_of n n ⊗ at 6) (i ⊗ at 0 ⊕ j ⊗ at 3) (given n.0 (triple_poly 0 3 6) (num (pos 0)) z none) tt)
    (follows xs (dot_of n n ⊗ at 7) (i ⊗ at 1 ⊕ j ⊗ at 4) (given n.1 (triple_poly 0 3 6) (num (pos 0)) z none) tt)
    (follows xs (dot_of n n ⊗ at 8) (i ⊗ at 2 ⊕ j ⊗ at 5) (given n.2 (triple_poly 0 3 6) (num (pos 0)) z none) tt)
    (flat-combination s p d c (dot (cross e c) (cross d c)) (dot (cross d e) (cross d c)) f g)

-- [d c f] e = [e c f] d + [d e f] c + [d c e] f
span-3_positive : (s : Set) (p : SpacePoint) (d c f e : Vector) → pos 0 <ℤ triple d c f → Flat s p d → Flat s p c → Flat s p f → Flat s p e
span-3_positive s p d c f e some fd fc ff =
    let m = combination (triple e c f) d (triple d e f) c in
    flat-divided s p (triple d c f) (combination (pos 1) m (triple d c e) f) e some
    (ring (numbers d c f e) (triple_poly 0 3 6 ⊗ at 9) (num (pos 1) ⊗ (triple_poly 9 3 6 ⊗ at 0 ⊕ triple_poly 0 9 6 ⊗ at 3) ⊕ triple_poly 0 3 9 ⊗ at 6) tt)
    (ring (numbers d c f e) (triple_poly 0 3 6 ⊗ at 10) (num (pos 1) ⊗ (triple_poly 9 3 6 ⊗ at 1 ⊕ triple_poly 0 9 6 ⊗ at 4) ⊕ triple_poly 0 3 9 ⊗ at 7) tt)
    (ring (numbers d c f e) (triple_poly 0 3 6 ⊗ at 11) (num (pos 1) ⊗ (triple_poly 9 3 6 ⊗ at 2 ⊕ triple_poly 0 9 6 ⊗ at 5) ⊕ triple_poly 0 3 9 ⊗ at 8) tt)
    (flat-combination s p m f (pos 1) (triple d c e) (flat-combination s p d c (triple e c f) (triple d e f) fd fc) ff)

pub span-3 : (s : Set) (p : SpacePoint) (d c f e : Vector) → (triple d c f ≡ pos 0 → ⊥) → Flat s p d → Flat s p c → Flat s p f → Flat s p e
span-3 s p d c f e some fd fc ff = by_order (triple d c f) (pos 0)
    (λ l. span-3_positive s p d f c e (turned (triple d c f) (triple d f c) l (ring (numbers d c f f) (triple_poly 0 6 3) (num (pos 0) ⊖ triple_poly 0 3 6) tt)) fd ff fc)
    (λ z. absurd (some z))
    (λ l. span-3_positive s p d c f e l fd fc ff)
  where
    turned : (x y : ℤ) → x <ℤ pos 0 → y ≡ pos 0 -ℤ x → pos 0 <ℤ y
    turned x y h e = omega (arith, ints)

-- ---- close to p, where there are as many flat directions, the way from p is flat at p
pub flat-way : (s : Set) (k : ℕ) (p q : SpacePoint) → FlatDim s p k → FlatDim s q k → Within (reach_all (carriers s) p) p q → IsDirection (toward p q) → Flat s p (toward p q)
flat-way s k p q f g c i = by k f g
  where
    way : Flat s q (toward p q)
    way = Flat-from_cone s q (toward p q) (flat-toward s p q c)

    also : (d : Vector) → Flat s p d → Flat s q d
    also d h = Flat-from_cone s q d (flat-nearby s p q c d (FlatCone-from_flat s p d h))

    by : (k : ℕ) → FlatDim s p k → FlatDim s q k → Flat s p (toward p q)
    by zero f g = absurd (g.1 (toward p q, i, way))
    by (suc zero) ((d, j, h), f) g = ⊎_elim (span-1 s p d (toward p q) j h) (λ n. absurd (g.1 (d, toward p q, n, also d h, way))) (zero-decided (cross d (toward p q)))
    by (suc (suc zero)) ((d, e, j, h, l), f) g = ⊎_elim (span-2 s p d e (toward p q) j h l) (λ n. absurd (g.1 (d, e, toward p q, n, also d h, also e l, way))) (nought-or (triple d e (toward p q)))
    by (suc (suc (suc zero))) ((d, e, u, j, h, l, m), f) g = span-3 s p d e u (toward p q) j h l m
    by (suc (suc (suc (suc k)))) (h, f) g = absurd h

same-cone_near : (s : Set) (k : ℕ) (p q : SpacePoint) → FlatDim s p k → FlatDim s q k → Within (reach_all (carriers s) p) p q → (v : Vector) (l : Label) → Germ s p v l ↔ Germ s q v l
same-cone_near s k p q f g c v l = ⊎_elim
    (λ z. germs-by_cell s p q (signs-same (carriers s) p q (toward-point p q z)) v l)
    (λ i.
    let a = near-of_flat s p (toward p q) (FlatCone-from_flat s p (toward p q) (flat-way s k p q f g c i)) v l in
    let b = germ-nearby s p q c v l in
    (λ h. b.1 (a.0 h), λ h. a.1 (b.0 h)))
    (zero-decided (toward p q))

-- ---- along even segments and paths
germs-cells : (s : Set) (p : SpacePoint) → Cells (carriers s) (SameGerms s p)
germs-cells s p q r same f v l = let e = germs-by_cell s q r same v l in let g = f v l in (λ h. e.0 (g.0 h), λ h. g.1 (e.1 h))

-- along an even segment there is one cone
pub even-germs : (s : Set) (k : ℕ) (p q : SpacePoint) → IsEven s k p q → SameGerms s p q
even-germs s k p q even = settled-along (carriers s) (SameGerms s p) (germs-cells s p) p q settled (λ v l. (λ h. h, λ h. h))
  where
    settled : IsSettled (SameGerms s p) p q
    settled r on = (
      reach_all (carriers s) r,
      reach-some (carriers s) r,
      λ t there c.
          let e = same-cone_near s k r t (even r on) (even t there) c in (
            λ f v l. let g = f v l in let i = e v l in (λ h. i.0 (g.0 h), λ h. g.1 (i.1 h)),
            λ f v l. let g = f v l in let i = e v l in (λ h. i.1 (g.0 h), λ h. g.1 (i.0 h)),
          ),
    )

pub path-germs : (s : Set) (k : ℕ) (p : SpacePoint) (rs : List SpacePoint) (q : SpacePoint) → IsEvenPath s k p rs q → SameGerms s p q
path-germs s k p [] q f = even-germs s k p q f
path-germs s k p (r ∷ rs) q f = λ v l. let a = even-germs s k p r f.0 v l in let b = path-germs s k r rs q f.1 v l in (λ h. b.0 (a.0 h), λ h. a.1 (b.1 h))

pub joined-germs : (s : Set) (p q : SpacePoint) → Joined s p q → SameGerms s p q
joined-germs s p q (k, rs, f, path) = path-germs s k p rs q path

pub labels-by_germs : (s : Set) (p q : SpacePoint) → SameGerms s p q → (l : Label) → HasLabel s p l ↔ HasLabel s q l
labels-by_germs s p q same l =
    let a = Germ-zero s p zero_vector l (refl, refl, refl) in
    let b = Germ-zero s q zero_vector l (refl, refl, refl) in
    let c = same zero_vector l in
    (λ h. b.0 (c.0 (a.1 h)), λ h. a.0 (c.1 (b.1 h)))

-- ---- being joined is an equivalence
even-turned : (s : Set) (k : ℕ) (p q : SpacePoint) → IsEven s k p q → IsEven s k q p
even-turned s k p q f r (inl a) = f r (inr (inr a))
even-turned s k p q f r (inr (inl b)) = f r (inr (inl (between-turned q p r b)))
even-turned s k p q f r (inr (inr a)) = f r (inl a)

path-joined : (s : Set) (k : ℕ) (p : SpacePoint) (rs : List SpacePoint) (q : SpacePoint) (ts : List SpacePoint) (u : SpacePoint) → IsEvenPath s k p rs q → IsEvenPath s k q ts u → IsEvenPath s k p (rs ++ q ∷ ts) u
path-joined s k p [] q ts u f g = (f, g)
path-joined s k p (r ∷ rs) q ts u f g = (f.0, path-joined s k r rs q ts u f.1 g)

path-turned : (s : Set) (k : ℕ) (p : SpacePoint) (rs : List SpacePoint) (q : SpacePoint) → IsEvenPath s k p rs q → (ts : List SpacePoint) × IsEvenPath s k q ts p
path-turned s k p [] q f = ([], even-turned s k p q f)
path-turned s k p (r ∷ rs) q f = let g = path-turned s k r rs q f.1 in (g.0 ++ r ∷ [], path-joined s k q g.0 r [] p g.1 (even-turned s k p r f.0))

pub joined-turned : (s : Set) (p q : SpacePoint) → Joined s p q → Joined s q p
joined-turned s p q (k, rs, f, path) = let g = path-turned s k p rs q path in (k, g.0, FlatDim-by_germs s s p q (path-germs s k p rs q path) k f, g.1)

pub joined-both : (s : Set) (p q r : SpacePoint) → Joined s p q → Joined s q r → Joined s p r
joined-both s p q r (k, rs, f, path) (j, ts, g, way) =
    let e = FlatDim-one s q j k g (FlatDim-by_germs s s p q (path-germs s k p rs q path) k f) in
    (k, rs ++ q ∷ ts, f, path-joined s k p rs q ts r path (subst (λ (n : ℕ). IsEvenPath s n q ts r) e way))

pub joined-itself : (s : Set) (p : SpacePoint) → Joined s p p
joined-itself s p =
    let k = flat_dim-of s p in
    (k.0, [], k.1, λ r on. let same = at-itself r on in FlatDim-by_germs s s p r (germs-by_cell s p r (signs-same (carriers s) p r (same-point_sym r p same))) k.0 k.1)
  where
    at-itself : (r : SpacePoint) → IsOnSegment p r p → SamePoint r p
    at-itself r (inl a) = a
    at-itself r (inr (inl b)) = absurd (((between-is p r p).0 b).1 (record { along_x = refl; along_y = refl; along_z = refl }))
    at-itself r (inr (inr a)) = a
