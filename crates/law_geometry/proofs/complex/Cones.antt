-- The labels of a map are the germs of the set that it shows; where the flat directions are those of a plane, germs look only at the sides of it.
use Rattle.law_geometry.proofs.complex.Prelude.{◌≡◌, ℕ, zero, suc, ◌<◌, ℤ, pos, negsuc, ◌+ℤ◌, ◌*ℤ◌, neg_ℤ, nat_abs, arith, refl, ap, sym, ◌∙◌, ⊎_elim, ◌↔◌, ◌∷◌, subst, [], ints, Sign, minus, nought, plus, sign, sign_times, ring, at, num, neg, ◌⊕◌, ◌⊗◌, given, none, follows, nought-is, sign-plus, sign-minus, sign_of_product, nought-or, HasLabel, Germ, Flat, HasFlat, SpacePoint, Form, form, slope, Set, Vector, opposite, blend, dot, cross, IsDirection, Label, slide, NearGerm, label_of, Germ-unique, Flat-from_cone, FlatCone-from_flat, Germ-by_signs, slope-slide, flat-germ, by_side, Cone, Map, MapLabel, NearLabel, label-direction, label-unique, near-exists, self-pos, square-cross, cross-turned, dot-comm, dot-opposite, level_cross_second, nought-if}
use Rattle.law_geometry.proofs.near.Decisions.{near-germ_one}

-- ---- labels and germs
pub label-germ : (M : Map) (s : Set) (p : SpacePoint) → Cone M s p → (d : Vector) (l : Label) → MapLabel M d l → Germ s p d l
label-germ M s p K d l a =
    let c = K.labels d (label-direction M d l a) in
    subst (Germ s p d) (label-unique M K.valid d c.0 l c.1 a) c.2

pub germ-label : (M : Map) (s : Set) (p : SpacePoint) → Cone M s p → (d : Vector) (l : Label) → IsDirection d → Germ s p d l → MapLabel M d l
germ-label M s p K d l f g =
    let c = K.labels d f in
    subst (MapLabel M d) (Germ-unique s p d c.0 l c.2 g) c.1

pub near-germ : (M : Map) (s : Set) (p : SpacePoint) → Cone M s p → (d e : Vector) (l : Label) → NearLabel M d e l → NearGerm s p d e l
near-germ M s p K d e l (n, f) = (n, λ k h. label-germ M s p K (blend k d 1 e) l (f k h))

pub near-label : (M : Map) (s : Set) (p : SpacePoint) → Cone M s p → (d e : Vector) (l : Label) → IsDirection d → NearGerm s p d e l → NearLabel M d e l
near-label M s p K d e l f g =
    let x = near-exists M K.valid d e f in
    subst (NearLabel M d e) (near-germ_one s p d e x.0 l (near-germ M s p K d e x.0 x.1) g) x.1

-- ---- the germs where the flat directions are those of a plane
abbrev pub FlatAre : Set → SpacePoint → Vector → Type 0
FlatAre s p n = (v : Vector) → Flat s p v ↔ (dot n v ≡ pos 0)

abbrev plane_form : Vector → Form
plane_form n = form n.x n.y n.z (pos 0)

module _ (s : Set) (p : SpacePoint) (n : Vector) (flat : FlatAre s p n) where
  -- with i, j > 0 and i n.e = j n.f the germs toward e and f are one
  one_germ : (i j : ℕ) (e f : Vector) → 0 < i → 0 < j → (pos i *ℤ dot n e ≡ pos j *ℤ dot n f) → (l : Label) → Germ s p e l → Germ s p f l
  one_germ i j e f some_i some_j same l g =
      let d = slide j f (neg_ℤ (pos i)) e in
      let level : dot n d ≡ pos 0 = slope-slide (plane_form n) j f (neg_ℤ (pos i)) e ∙ nought (dot n e) (dot n f) same in
      let h = (FlatCone-from_flat s p d ((flat d).1 level) e i (pos 1) some_i l).0 g in
      Germ-by_signs s p (slide i e (pos 1) d) f (λ k _ _. ap sign (slope-slide k i e (pos 1) d ∙ ap (λ r. pos i *ℤ slope k e +ℤ pos 1 *ℤ r) (slope-slide k j f (neg_ℤ (pos i)) e) ∙ turned (slope k e) (slope k f)) ∙ scaled (slope k f)) l h
    where
      nought : (x y : ℤ) → pos i *ℤ x ≡ pos j *ℤ y → pos j *ℤ y +ℤ neg_ℤ (pos i) *ℤ x ≡ pos 0
      nought x y e = follows (pos i ∷ pos j ∷ x ∷ y ∷ []) (at 1 ⊗ at 3 ⊕ neg (at 0) ⊗ at 2) (num (pos 0)) (given (num (negsuc 0)) (at 0 ⊗ at 2) (at 1 ⊗ at 3) e none) tt

      turned : (x y : ℤ) → pos i *ℤ x +ℤ pos 1 *ℤ (pos j *ℤ y +ℤ neg_ℤ (pos i) *ℤ x) ≡ pos j *ℤ y
      turned x y = ring (pos i ∷ pos j ∷ x ∷ y ∷ []) (at 0 ⊗ at 2 ⊕ num (pos 1) ⊗ (at 1 ⊗ at 3 ⊕ neg (at 0) ⊗ at 2)) (at 1 ⊗ at 3) tt

      scaled : (y : ℤ) → sign (pos j *ℤ y) ≡ sign y
      scaled y = sign_of_product (pos j) y ∙ ap (λ r. sign_times r (sign y)) (sign-plus (pos j) (omega (arith, ints)))

  pub plane-germ : (e f : Vector) → sign (dot n e) ≡ sign (dot n f) → (l : Label) → Germ s p e l → Germ s p f l
  plane-germ e f same l g = ⊎_elim level aside (nought-or (dot n e))
    where
      level : dot n e ≡ pos 0 → Germ s p f l
      level z =
          let y = nought-is (dot n f) (sym same ∙ ap sign z) in
          let m = label_of s p in
          let a = flat-germ s p e m.0 ((flat e).1 z) m.1 in
          let b = flat-germ s p f m.0 ((flat f).1 y) m.1 in
          subst (Germ s p f) (Germ-unique s p e m.0 l a g) b

      -- |y| x = |x| y
      product : (x y : ℤ) → (x ≡ pos 0 → ⊥) → sign x ≡ sign y → (0 < nat_abs y) × (0 < nat_abs x) × (pos (nat_abs y) *ℤ x ≡ pos (nat_abs x) *ℤ y)
      product (pos zero) y n e = absurd (n refl)
      product (pos (suc a)) (pos (suc b)) n e = (omega arith, omega arith, ring (pos (suc a) ∷ pos (suc b) ∷ []) (at 1 ⊗ at 0) (at 0 ⊗ at 1) tt)
      product (pos (suc a)) (pos zero) n e = let q : plus ≡ nought = e in cc
      product (pos (suc a)) (negsuc b) n e = let q : plus ≡ minus = e in cc
      product (negsuc a) (pos zero) n e = let q : minus ≡ nought = e in cc
      product (negsuc a) (pos (suc b)) n e = let q : minus ≡ plus = e in cc
      product (negsuc a) (negsuc b) n e = (omega arith, omega arith, ring (pos (suc a) ∷ pos (suc b) ∷ []) (at 1 ⊗ neg (at 0)) (at 0 ⊗ neg (at 1)) tt)

      aside : (dot n e ≡ pos 0 → ⊥) → Germ s p f l
      aside z = let q = product (dot n e) (dot n f) z same in one_germ (nat_abs (dot n f)) (nat_abs (dot n e)) e f q.0 q.1 q.2 l g

  -- the germ toward n, the label, and the germ toward -n are all that there is
  pub plane-sides : (a m b : Label) → Germ s p n a → HasLabel s p m → Germ s p (opposite n) b → IsDirection n → (e : Vector) → Germ s p e (by_side a m b (sign (dot n e)))
  plane-sides a m b above on below some e = by (sign (dot n e)) refl
    where
      by : (t : Sign) → sign (dot n e) ≡ t → Germ s p e (by_side a m b t)
      by plus q = plane-germ n e (sign-plus (dot n n) (self-pos n some) ∙ sym q) a above
      by nought q = flat-germ s p e m ((flat e).1 (nought-is (dot n e) q)) on
      by minus q = plane-germ (opposite n) e (sign-back ∙ sym q) b below
        where
          sign-back : sign (dot n (opposite n)) ≡ minus
          sign-back = let h = self-pos n some in let r = dot-opposite n n in sign-minus (dot n (opposite n)) (omega (arith, ints))

-- ---- labels by the sides of a plane make the directions of the plane flat
pub sided-flat : (s : Set) (p : SpacePoint) (n : Vector) (a m b : Label) → ((e : Vector) → Germ s p e (by_side a m b (sign (dot n e)))) → (f : Vector) → dot n f ≡ pos 0 → Flat s p f
sided-flat s p n a m b all f level = Flat-from_cone s p f (λ v k x some l.
    let same : sign (dot n (slide k v x f)) ≡ sign (dot n v) = side-stays v k x some in
    let e = ap (λ (t : Sign). by_side a m b t) same in (
      λ g. subst (Germ s p (slide k v x f)) (e ∙ Germ-unique s p v (by_side a m b (sign (dot n v))) l (all v) g) (all (slide k v x f)),
      λ g. subst (Germ s p v) (sym e ∙ Germ-unique s p (slide k v x f) (by_side a m b (sign (dot n (slide k v x f)))) l (all (slide k v x f)) g) (all v),
    ))
  where
    side-stays : (v : Vector) (k : ℕ) (x : ℤ) → 0 < k → sign (dot n (slide k v x f)) ≡ sign (dot n v)
    side-stays v k x some =
        ap sign (slope-slide (plane_form n) k v x f ∙ ap (λ r. pos k *ℤ dot n v +ℤ x *ℤ r) level ∙ ring (pos k ∷ dot n v ∷ x ∷ []) (at 0 ⊗ at 1 ⊕ at 2 ⊗ num (pos 0)) (at 0 ⊗ at 1) tt)
        ∙ sign_of_product (pos k) (dot n v) ∙ ap (λ r. sign_times r (sign (dot n v))) (sign-plus (pos k) (omega (arith, ints)))

-- d and n x d are independent, for d in the plane of n
independent : (n d : Vector) → IsDirection n → IsDirection d → dot n d ≡ pos 0 → IsDirection (cross d (cross n d))
independent n d i j e z = i (nought-if d n j (cross-turned n d (nought-if d (cross n d) j z (level_cross_second n d))) (dot-comm d n ∙ e))

-- so there are two independent ones
pub sided-two : (s : Set) (p : SpacePoint) (n d : Vector) (a m b : Label) → ((e : Vector) → Germ s p e (by_side a m b (sign (dot n e)))) → IsDirection n → IsDirection d → dot n d ≡ pos 0 → HasFlat s p 2
sided-two s p n d a m b all i j level = (d, cross n d, independent n d i j level, sided-flat s p n a m b all d level, sided-flat s p n a m b all (cross n d) (square-cross n d))
