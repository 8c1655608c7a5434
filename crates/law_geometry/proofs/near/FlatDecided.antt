-- The flat directions of a point are decided, and so is how many independent ones there are.
use Rattle.law_geometry.proofs.near.Prelude.{◌≡◌, ℕ, ◌+◌, ◌<◌, ◌≤◌, ℤ, pos, negsuc, ◌+ℤ◌, ◌*ℤ◌, neg_ℤ, nat_abs, arith, refl, ap, sym, ◌∙◌, ◌⊎◌, inl, inr, ⊎_elim, ◌↔◌, List, ◌∷◌, ◌++◌, subst, [], ints, sign_times, Lies, ring, at, num, neg, ◌⊕◌, ◌⊖◌, ◌⊗◌, given, none, follows, nought-is, sign-plus, sign_of_product, nought-or, SpacePoint, Form, form, slope, Vector, blend, dot, cross, IsZero, IsDirection, Set, Germ, Flat, FlatDim, Label, sign_at, carriers, SameSlopes, SameSlopesAt, slide, NearGerm, FlatCone, lies-left, lies-right, vector-same, triple-dot, parallel-both, triple-in_plane}
use Rattle.nef_space.specs.Signs.{nought, sign}
use Rattle.law_geometry.proofs.near.Cells.{is_nought}
use Rattle.law_geometry.proofs.near.Germs.{Germ-unique}
use Rattle.law_geometry.proofs.near.Flats.{Flat-from_cone, FlatCone-from_flat, Germ-by_signs, slope-slide}
use Rattle.law_geometry.proofs.near.Decided.{Decided, germ_of, every, decided-both, decided-not}
use Rattle.law_geometry.proofs.near.Alike.{FlatDim-one}
use Rattle.law_geometry.proofs.near.NearGerms.{steep, steep-one, sign-large}
use Rattle.law_geometry.proofs.near.Decisions.{representatives, near-germ_of, near-germ_one, same-label_or}
use Rattle.std.proofs.lemmas.Bool.{cases_eq}

-- ---- what decides the germs near a direction
-- d and d' lead to the same sides, and e and e' do where d doesn't decide
pub near-by_signs : (s : Set) (p : SpacePoint) (d d' e e' : Vector) (l : Label) → SameSlopesAt (carriers s) p d d'
    → ((h : Form) → Lies (carriers s) h → sign_at h p ≡ nought → sign (slope h d) ≡ nought → sign (slope h e) ≡ sign (slope h e')) → NearGerm s p d e l → NearGerm s p d' e' l
near-by_signs s p d d' e e' l same beside (n, g) = (
  n + steep (carriers s) e + steep (carriers s) e',
  λ k big.
      Germ-by_signs s p (blend k d 1 e) (blend k d' 1 e')
      (λ h i o. signs k h i o (let a = steep-one (carriers s) h e i in omega arith) (let a = steep-one (carriers s) h e' i in omega arith)) l (g k (omega arith)),
)
  where
    flat : (k : ℕ) (h : Form) (u v : Vector) → sign (slope h u) ≡ nought → slope h (blend k u 1 v) ≡ slope h v
    flat k h u v z = slope-slide h k u (pos 1) v ∙ ap (λ r. pos k *ℤ r +ℤ pos 1 *ℤ slope h v) (nought-is (slope h u) z) ∙ ring (slope h v ∷ pos k ∷ []) (at 1 ⊗ num (pos 0) ⊕ num (pos 1) ⊗ at 0) (at 0) tt

    signs : (k : ℕ) (h : Form) → Lies (carriers s) h → sign_at h p ≡ nought → nat_abs (slope h e) < k → nat_abs (slope h e') < k → sign (slope h (blend k d 1 e)) ≡ sign (slope h (blend k d' 1 e'))
    signs k h i o a b = ⊎_elim
        (λ z. ap sign (flat k h d e z) ∙ beside h i o z ∙ sym (ap sign (flat k h d' e' (sym (same h i o) ∙ z))))
        (λ m. ap sign (slope-slide h k d (pos 1) e) ∙ sign-large (slope h d) (slope h e) k a m ∙ same h i o
        ∙ sym (ap sign (slope-slide h k d' (pos 1) e') ∙ sign-large (slope h d') (slope h e') k b (λ z. m (same h i o ∙ z))))
        (is_nought (sign (slope h d)))

-- ---- a direction is flat where the cone near it is the cone
pub near-of_flat : (s : Set) (p : SpacePoint) (d : Vector) → FlatCone s p d → (v : Vector) (l : Label) → Germ s p v l ↔ NearGerm s p d v l
near-of_flat s p d f v l = (onward v l, back)
  where
    turned : (k : ℕ) (w : Vector) → slide 1 w (pos k) d ≡ blend k d 1 w
    turned k w = vector-same (slide 1 w (pos k) d) (blend k d 1 w) (one w.x d.x) (one w.y d.y) (one w.z d.z)
      where
        one : (x y : ℤ) → pos 1 *ℤ x +ℤ pos k *ℤ y ≡ pos k *ℤ y +ℤ pos 1 *ℤ x
        one x y = omega (arith, ints)

    onward : (w : Vector) (m : Label) → Germ s p w m → NearGerm s p d w m
    onward w m g = (0, λ k h. subst (λ (u : Vector). Germ s p u m) (turned k w) ((f w 1 (pos k) (omega arith) m).0 g))

    back : NearGerm s p d v l → Germ s p v l
    back g = let m = germ_of s p v in subst (Germ s p v) (near-germ_one s p d v m.0 l (onward v m.0 m.1) g) m.1

pub flat-of_near : (s : Set) (p : SpacePoint) (d : Vector) → ((v : Vector) (l : Label) → Germ s p v l ↔ NearGerm s p d v l) → FlatCone s p d
flat-of_near s p d f v b a some l = (onward l, back)
  where
    -- (k + |a| + a) d + b v = (k + |a|) d + (b v + a d)
    shift : (a : ℤ) → (m : ℕ) × (pos (nat_abs a) +ℤ a ≡ pos m)
    shift (pos n) = (n + n, omega (arith, ints))
    shift (negsuc n) = (0, omega (arith, ints))

    stretched : (w : Vector) (m : Label) → Germ s p w m → Germ s p (slide b w (pos 0) d) m
    stretched w m g = Germ-by_signs s p w (slide b w (pos 0) d) (λ h i o.
        sym (ap sign (slope-slide h b w (pos 0) d ∙ ring (pos b ∷ slope h w ∷ slope h d ∷ []) (at 0 ⊗ at 1 ⊕ num (pos 0) ⊗ at 2) (at 0 ⊗ at 1) tt)
        ∙ sign_of_product (pos b) (slope h w) ∙ ap (λ r. sign_times r (sign (slope h w))) (sign-plus (pos b) (omega (arith, ints))))) m g

    same : (k : ℕ) → blend (k + (shift a).0) d 1 (slide b v (pos 0) d) ≡ blend (k + nat_abs a) d 1 (slide b v a d)
    same k = vector-same (blend (k + (shift a).0) d 1 (slide b v (pos 0) d)) (blend (k + nat_abs a) d 1 (slide b v a d)) (one d.x v.x) (one d.y v.y) (one d.z v.z)
      where
        one : (x y : ℤ) → pos (k + (shift a).0) *ℤ x +ℤ pos 1 *ℤ (pos b *ℤ y +ℤ pos 0 *ℤ x) ≡ pos (k + nat_abs a) *ℤ x +ℤ pos 1 *ℤ (pos b *ℤ y +ℤ a *ℤ x)
        one x y = follows (x ∷ y ∷ a ∷ pos b ∷ pos k ∷ pos (nat_abs a) ∷ pos (shift a).0 ∷ [])
            ((at 4 ⊕ at 6) ⊗ at 0 ⊕ num (pos 1) ⊗ (at 3 ⊗ at 1 ⊕ num (pos 0) ⊗ at 0)) ((at 4 ⊕ at 5) ⊗ at 0 ⊕ num (pos 1) ⊗ (at 3 ⊗ at 1 ⊕ at 2 ⊗ at 0))
            (given (num (pos 0) ⊖ at 0) (at 5 ⊕ at 2) (at 6) (shift a).1 none) tt

    onward : (m : Label) → Germ s p v m → Germ s p (slide b v a d) m
    onward m g =
        let c = (f (slide b v (pos 0) d) m).0 (stretched v m g) in
        (f (slide b v a d) m).1 (shifted m c)
      where
        shifted : (m : Label) → NearGerm s p d (slide b v (pos 0) d) m → NearGerm s p d (slide b v a d) m
        shifted m (n, g) = near-any m n (λ k h. subst (λ (x : Vector). Germ s p x m) (same k) (g (k + (shift a).0) (omega arith)))
          where
            near-any : (m : Label) (n : ℕ) → ((k : ℕ) → n ≤ k → Germ s p (blend (k + nat_abs a) d 1 (slide b v a d)) m) → NearGerm s p d (slide b v a d) m
            near-any m n g =
                let o = near-germ_of s p d (slide b v a d) in
                subst (NearGerm s p d (slide b v a d)) (Germ-unique s p (blend (n + o.1.0 + nat_abs a) d 1 (slide b v a d)) o.0 m (o.1.1 (n + o.1.0 + nat_abs a) (omega arith)) (g (n + o.1.0) (omega arith))) o.1

    back : Germ s p (slide b v a d) l → Germ s p v l
    back g = let m = germ_of s p v in subst (Germ s p v) (Germ-unique s p (slide b v a d) m.0 l (onward m.0 m.1) g) m.1

-- a flat direction's cell is flat
pub flat-by_signs : (s : Set) (p : SpacePoint) (d d' : Vector) → SameSlopesAt (carriers s) p d d' → FlatCone s p d → FlatCone s p d'
flat-by_signs s p d d' same f = flat-of_near s p d' (λ v l. let g = near-of_flat s p d f v l in (
  λ h. near-by_signs s p d d' v v l same (λ k i o z. refl) (g.0 h),
  λ h. g.1 (near-by_signs s p d' d v v l (λ k i o. sym (same k i o)) (λ k i o z. refl) h),
))

-- ---- a direction is flat or isn't
pub flat-decided : (s : Set) (p : SpacePoint) (d : Vector) → Decided (FlatCone s p d)
flat-decided s p d = by (representatives (carriers s))
  where
    by : ((vs : List Vector) × ((v : Vector) → (w : Vector) × Lies vs w × SameSlopes (carriers s) v w)) → Decided (FlatCone s p d)
    by (vs, r) = ⊎_elim
        (λ c. inr (λ f. let v = c.0 in let g = germ_of s p v in let h = near-germ_of s p d v in c.2 (near-germ_one s p d v g.0 h.0 ((near-of_flat s p d f v g.0).0 g.1) h.1)))
        (λ all. inl (flat-of_near s p d (λ v l.
        let w = r v in
        let g = germ_of s p w.0 in
        let h = near-germ_of s p d w.0 in
        let e = all w.0 w.1 in (
          λ i.
              let j = Germ-unique s p w.0 g.0 l g.1 (Germ-by_signs s p v w.0 (λ k m o. w.2 k m) l i) in
              near-by_signs s p d d w.0 v l (λ k m o. refl) (λ k m o z. sym (w.2 k m)) (subst (NearGerm s p d w.0) (sym e ∙ j) h.1),
          λ i.
              let j = near-germ_one s p d w.0 h.0 l h.1 (near-by_signs s p d d v w.0 l (λ k m o. refl) (λ k m o z. w.2 k m) i) in
              Germ-by_signs s p w.0 v (λ k m o. sym (w.2 k m)) l (subst (Germ s p w.0) (e ∙ j) g.1),
        ))))
        (every vs (λ v. (germ_of s p v).0 ≡ (near-germ_of s p d v).0) (λ v. same-label_or (germ_of s p v).0 (near-germ_of s p d v).0))

-- ---- a flat direction at which some form of a list isn't zero
abbrev pub AllZero : List Form → Vector → Type 0
AllZero gs e = (h : Form) → Lies gs h → slope h e ≡ pos 0

all-zero_decided : (gs : List Form) (e : Vector) → Decided (AllZero gs e)
all-zero_decided gs e = ⊎_elim (λ c. inr (λ f. c.2 (f c.0 c.1))) (λ f. inl f) (every gs (λ h. slope h e ≡ pos 0) (λ h. nought-or (slope h e)))

all-zero_same : (gs : List Form) (d e : Vector) → SameSlopes gs d e → AllZero gs e → AllZero gs d
all-zero_same gs d e same f h l = nought-is (slope h d) (same h l ∙ ap sign (f h l))

pub find-flat : (s : Set) (p : SpacePoint) (gs : List Form) → ((e : Vector) × FlatCone s p e × (AllZero gs e → ⊥)) ⊎ ((e : Vector) → FlatCone s p e → AllZero gs e)
find-flat s p gs = by (representatives (carriers s ++ gs))
  where
    by : ((vs : List Vector) × ((v : Vector) → (w : Vector) × Lies vs w × SameSlopes (carriers s ++ gs) v w)) → ((e : Vector) × FlatCone s p e × (AllZero gs e → ⊥)) ⊎ ((e : Vector) → FlatCone s p e → AllZero gs e)
    by (vs, r) = ⊎_elim
        (λ c. inl (found c.0 c.2 (flat-decided s p c.0) (all-zero_decided gs c.0)))
        (λ all. inr (λ e f.
        let w = r e in
        let g = flat-by_signs s p e w.0 (λ h i o. w.2 h (lies-left (carriers s) gs h i)) f in
        let same : SameSlopes gs e w.0 = λ h i. w.2 h (lies-right (carriers s) gs h i) in
        ⊎_elim (λ z. all-zero_same gs e w.0 same z) (λ n. absurd (all w.0 w.1 (g, n))) (all-zero_decided gs w.0)))
        (every vs (λ v. FlatCone s p v × (AllZero gs v → ⊥) → ⊥) (λ v. decided-not (decided-both (flat-decided s p v) (decided-not (all-zero_decided gs v)))))
      where
        found : (v : Vector) → ((FlatCone s p v × (AllZero gs v → ⊥) → ⊥) → ⊥) → Decided (FlatCone s p v) → Decided (AllZero gs v) → (e : Vector) × FlatCone s p e × (AllZero gs e → ⊥)
        found v n (inl f) (inl z) = absurd (n (λ c. c.1 z))
        found v n (inl f) (inr m) = (v, f, m)
        found v n (inr m) d = absurd (n (λ c. m c.0))

-- ---- how many
-- the forms whose values at e are the numbers of e, and of d x e, and the triple product [n e]
abbrev numbers : List Form
numbers = form (pos 1) (pos 0) (pos 0) (pos 0) ∷ form (pos 0) (pos 1) (pos 0) (pos 0) ∷ form (pos 0) (pos 0) (pos 1) (pos 0) ∷ []

abbrev crosses : Vector → List Form
crosses d = form (pos 0) (neg_ℤ d.z) d.y (pos 0) ∷ form d.z (pos 0) (neg_ℤ d.x) (pos 0) ∷ form (neg_ℤ d.y) d.x (pos 0) (pos 0) ∷ []

abbrev normal_form : Vector → List Form
normal_form n = form n.x n.y n.z (pos 0) ∷ []

three : (f g h : Form) (e : Vector) → slope f e ≡ pos 0 → slope g e ≡ pos 0 → slope h e ≡ pos 0 → AllZero (f ∷ g ∷ h ∷ []) e
three f g h e i j k m (inl o) = subst (λ (x : Form). slope x e ≡ pos 0) o i
three f g h e i j k m (inr (inl o)) = subst (λ (x : Form). slope x e ≡ pos 0) o j
three f g h e i j k m (inr (inr (inl o))) = subst (λ (x : Form). slope x e ≡ pos 0) o k
three f g h e i j k m (inr (inr (inr o))) = absurd o

numbers-zero : (e : Vector) → AllZero numbers e ↔ IsZero e
numbers-zero e = (
  λ f. (sym (of_x e.x e.y e.z) ∙ f (form (pos 1) (pos 0) (pos 0) (pos 0)) (inl refl), sym (of_y e.x e.y e.z) ∙ f (form (pos 0) (pos 1) (pos 0) (pos 0)) (inr (inl refl)), sym (of_z e.x e.y e.z) ∙ f (form (pos 0) (pos 0) (pos 1) (pos 0)) (inr (inr (inl refl)))),
  λ z. three (form (pos 1) (pos 0) (pos 0) (pos 0)) (form (pos 0) (pos 1) (pos 0) (pos 0)) (form (pos 0) (pos 0) (pos 1) (pos 0)) e (of_x e.x e.y e.z ∙ z.0) (of_y e.x e.y e.z ∙ z.1) (of_z e.x e.y e.z ∙ z.2),
)
  where
    of_x : (x y z : ℤ) → pos 1 *ℤ x +ℤ pos 0 *ℤ y +ℤ pos 0 *ℤ z ≡ x
    of_x x y z = omega (arith, ints)

    of_y : (x y z : ℤ) → pos 0 *ℤ x +ℤ pos 1 *ℤ y +ℤ pos 0 *ℤ z ≡ y
    of_y x y z = omega (arith, ints)

    of_z : (x y z : ℤ) → pos 0 *ℤ x +ℤ pos 0 *ℤ y +ℤ pos 1 *ℤ z ≡ z
    of_z x y z = omega (arith, ints)

crosses-zero : (d e : Vector) → AllZero (crosses d) e ↔ IsZero (cross d e)
crosses-zero d e = (
  λ f. (sym of_x ∙ f (form (pos 0) (neg_ℤ d.z) d.y (pos 0)) (inl refl), sym of_y ∙ f (form d.z (pos 0) (neg_ℤ d.x) (pos 0)) (inr (inl refl)), sym of_z ∙ f (form (neg_ℤ d.y) d.x (pos 0) (pos 0)) (inr (inr (inl refl)))),
  λ z. three (form (pos 0) (neg_ℤ d.z) d.y (pos 0)) (form d.z (pos 0) (neg_ℤ d.x) (pos 0)) (form (neg_ℤ d.y) d.x (pos 0) (pos 0)) e (of_x ∙ z.0) (of_y ∙ z.1) (of_z ∙ z.2),
)
  where
    of_x : slope (form (pos 0) (neg_ℤ d.z) d.y (pos 0)) e ≡ (cross d e).x
    of_x = ring (d.x ∷ d.y ∷ d.z ∷ e.x ∷ e.y ∷ e.z ∷ []) (num (pos 0) ⊗ at 3 ⊕ neg (at 2) ⊗ at 4 ⊕ at 1 ⊗ at 5) (at 1 ⊗ at 5 ⊖ at 2 ⊗ at 4) tt

    of_y : slope (form d.z (pos 0) (neg_ℤ d.x) (pos 0)) e ≡ (cross d e).y
    of_y = ring (d.x ∷ d.y ∷ d.z ∷ e.x ∷ e.y ∷ e.z ∷ []) (at 2 ⊗ at 3 ⊕ num (pos 0) ⊗ at 4 ⊕ neg (at 0) ⊗ at 5) (at 2 ⊗ at 3 ⊖ at 0 ⊗ at 5) tt

    of_z : slope (form (neg_ℤ d.y) d.x (pos 0) (pos 0)) e ≡ (cross d e).z
    of_z = ring (d.x ∷ d.y ∷ d.z ∷ e.x ∷ e.y ∷ e.z ∷ []) (neg (at 1) ⊗ at 3 ⊕ at 0 ⊗ at 4 ⊕ num (pos 0) ⊗ at 5) (at 0 ⊗ at 4 ⊖ at 1 ⊗ at 3) tt

normal-zero : (n e : Vector) → dot n e ≡ pos 0 → AllZero (normal_form n) e
normal-zero n e z h (inl o) = subst (λ (x : Form). slope x e ≡ pos 0) o z
normal-zero n e z h (inr o) = absurd o

-- each point has a number of independent flat directions
pub flat_dim-of : (s : Set) (p : SpacePoint) → (k : ℕ) × FlatDim s p k
flat_dim-of s p = first (find-flat s p numbers)
  where
    cone : (d : Vector) → Flat s p d → FlatCone s p d
    cone d = FlatCone-from_flat s p d

    flat : (d : Vector) → FlatCone s p d → Flat s p d
    flat d = Flat-from_cone s p d

    third : (d e : Vector) → IsDirection (cross d e) → FlatCone s p d → FlatCone s p e → ((f : Vector) × FlatCone s p f × (AllZero (normal_form (cross d e)) f → ⊥)) ⊎ ((f : Vector) → FlatCone s p f → AllZero (normal_form (cross d e)) f) → (k : ℕ) × FlatDim s p k
    third d e i g h (inl (f, j, n)) = (3, ((d, e, f, (λ z. n (normal-zero (cross d e) f (sym (triple-dot d e f) ∙ z))), flat d g, flat e h, flat f j), λ o. o))
    third d e i g h (inr all) = (2, ((d, e, i, flat d g, flat e h), λ o. o.3 (triple-in_plane (cross d e) o.0 o.1 o.2 i (all o.0 (cone o.0 o.4) _ (inl refl)) (all o.1 (cone o.1 o.5) _ (inl refl)) (all o.2 (cone o.2 o.6) _ (inl refl)))))

    second : (d : Vector) → IsDirection d → FlatCone s p d → ((e : Vector) × FlatCone s p e × (AllZero (crosses d) e → ⊥)) ⊎ ((e : Vector) → FlatCone s p e → AllZero (crosses d) e) → (k : ℕ) × FlatDim s p k
    second d i g (inl (e, h, n)) = third d e (λ z. n ((crosses-zero d e).1 z)) g h (find-flat s p (normal_form (cross d e)))
    second d i g (inr all) = (1, ((d, i, flat d g), λ o. o.2 (parallel-both d o.0 o.1 i ((crosses-zero d o.0).0 (all o.0 (cone o.0 o.3))) ((crosses-zero d o.1).0 (all o.1 (cone o.1 o.4))))))

    first : ((d : Vector) × FlatCone s p d × (AllZero numbers d → ⊥)) ⊎ ((d : Vector) → FlatCone s p d → AllZero numbers d) → (k : ℕ) × FlatDim s p k
    first (inl (d, g, n)) = second d (λ z. n ((numbers-zero d).1 z)) g (find-flat s p (crosses d))
    first (inr all) = (0, (tt, λ o. o.1 ((numbers-zero o.0).0 (all o.0 (cone o.0 o.2)))))

pub flat_dim-decided : (s : Set) (p : SpacePoint) (k : ℕ) → Decided (FlatDim s p k)
flat_dim-decided s p k =
    let j = flat_dim-of s p in
    ⊎_elim (λ e. inl (subst (FlatDim s p) e j.1)) (λ n. inr (λ f. n (FlatDim-one s p j.0 k j.1 f))) (cases_eq j.0 k)
