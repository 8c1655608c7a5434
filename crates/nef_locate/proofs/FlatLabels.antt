-- The labels of a map that don't change along a direction.
use Rattle.nef_locate.proofs.Prelude.{◌≡◌, ℕ, zero, suc, ℤ, pos, negsuc, ◌+◌, ◌≤◌, ◌+ℤ◌, ◌*ℤ◌, neg_ℤ, arith, refl, ap, sym, ◌∙◌, [], ◌∷◌, subst, minus, nought, plus, sign, ring, at, num, neg, ◌⊕◌, ◌⊗◌, Vector, IsDirection, cross, dot, opposite, blend, Label, combination, Map, MapLabel, NearLabel, Valid, forms, FlatMap, by_side, Near, StraightAt, IsSmooth, straight, amount, label-direction, label-unique, near-direction, dot-comb, direction-by, cross-direction_left, Of, IsLabelling, straight-from, vector-same, direction-opposite, opposite-twice, cross-opposite}
use Rattle.nef_space.proofs.Vectors.{dot-opposite, opposite-itself}
use Rattle.law_geometry.proofs.sphere.Kind.{flat-parallel}
use Rattle.law_geometry.proofs.sphere.FlatMaps.{flat-onward, flat-straight}
use Rattle.law_geometry.proofs.sphere.building.Chosen.{chosen, chosen-is, chosen-labelling, map-labels}

-- opposite directions lie on opposite sides, so both sides have the label
both-sides : (a m b : Label) (x y : ℤ) → sign x ≡ sign (neg_ℤ y) → (x ≡ pos 0 → ⊥) → by_side a m b (sign x) ≡ m → by_side a m b (sign y) ≡ m → (a ≡ m) × (b ≡ m)
both-sides a m b (pos zero) y e off h k = absurd (off refl)
both-sides a m b (pos (suc i)) (pos zero) e off h k = let q : plus ≡ nought = e in cc
both-sides a m b (pos (suc i)) (pos (suc j)) e off h k = let q : plus ≡ minus = e in cc
both-sides a m b (pos (suc i)) (negsuc j) e off h k = (h, k)
both-sides a m b (negsuc i) (pos zero) e off h k = let q : minus ≡ nought = e in cc
both-sides a m b (negsuc i) (pos (suc j)) e off h k = (k, h)
both-sides a m b (negsuc i) (negsuc j) e off h k = let q : minus ≡ plus = e in cc

pub off-axis : (w e : Vector) → IsDirection (cross (opposite w) e) → IsDirection (cross w e)
off-axis w e f = subst IsDirection (ap opposite (cross-opposite w e) ∙ opposite-twice (cross w e)) (direction-opposite (cross (opposite w) e) f)

module _ (N : Map) (V : Valid N) where
  abbrev pub labels_of : Vector → Label
  labels_of = chosen (forms N) (MapLabel N) (map-labels N V)

  pub are-labelling : IsLabelling (forms N) labels_of
  are-labelling = chosen-labelling (forms N) (MapLabel N) (map-labels N V)

  pub label-is : (d : Vector) → IsDirection d → MapLabel N d (labels_of d)
  label-is = chosen-is (forms N) (MapLabel N) (map-labels N V)

  pub is-label : (d : Vector) (m : Label) → MapLabel N d m → labels_of d ≡ m
  is-label d m a = label-unique N V d (labels_of d) m (label-is d (label-direction N d m a)) a

  is-near : (d e : Vector) (m : Label) → NearLabel N d e m → Near (Of labels_of) d e m
  is-near d e m (n, f) = (n, λ k h. is-label (blend k d 1 e) m (f k h))

  pub off-smooth : (w : Vector) → FlatMap N w → (d : Vector) → IsDirection (cross d w) → IsSmooth (Of labels_of) d
  off-smooth w F d f =
      let s = flat-straight N V w F d f in
      straight s.normal s.pos s.label s.neg s.direction
      (straight-from (forms N) labels_of are-labelling s.normal s.pos s.label s.neg d (cross-direction_left d w f) s.level (is-label d s.label s.at_d) (λ e g. is-near d e _ (s.near e g)))

  -- the side of a straight plane to which w points has the label of the plane
  across : (w : Vector) → FlatMap N w → (n y : Vector) (a m b : Label) → IsDirection y → StraightAt (Of labels_of) n a m b y → (dot n w ≡ pos 0 → ⊥) → by_side a m b (sign (dot n w)) ≡ m
  across w F n y a m b h st off =
      let r = st.near w in
      let k = suc r.0 in
      let some : IsDirection (combination (pos k) y (pos 1) w) = direction-by n (combination (pos k) y (pos 1) w) (λ z. off (value k (dot n y) (dot n w) st.level ∙ sym (dot-comb n (pos k) y (pos 1) w) ∙ z)) in
      let g = flat-onward N w F y k (pos 1) (omega arith) m some (subst (MapLabel N y) st.at_d (label-is y h)) in
      sym (r.1 k (omega arith)) ∙ is-label (blend k y 1 w) m g
    where
      value : (k : ℕ) (p q : ℤ) → p ≡ pos 0 → q ≡ pos k *ℤ p +ℤ pos 1 *ℤ q
      value k p q e = ring (pos k ∷ q ∷ []) (at 1) (at 0 ⊗ num (pos 0) ⊕ num (pos 1) ⊗ at 1) tt ∙ ap (λ r. pos k *ℤ r +ℤ pos 1 *ℤ q) (sym e)

  -- where opposite directions are off the plane of n, a straight plane has the label of both its sides
  pub off-plane : (w : Vector) → FlatMap N w → FlatMap N (opposite w) → (n y : Vector) (a m b : Label) → IsDirection y → StraightAt (Of labels_of) n a m b y → (dot n w ≡ pos 0 → ⊥) → (a ≡ m) × (b ≡ m)
  off-plane w F G n y a m b h st off =
      both-sides a m b (dot n w) (dot n (opposite w)) (ap sign (sym (twice-negated (dot n w)) ∙ ap neg_ℤ (sym (dot-opposite n w)))) off (across w F n y a m b h st off)
      (across (opposite w) G n y a m b h st (λ z. off (sym (twice-negated (dot n w)) ∙ ap neg_ℤ (sym (dot-opposite n w) ∙ z))))
    where
      twice-negated : (x : ℤ) → neg_ℤ (neg_ℤ x) ≡ x
      twice-negated x = ring (x ∷ []) (neg (neg (at 0))) (at 0) tt

  pub flat-opposite : (w : Vector) → IsDirection w → FlatMap N w → FlatMap N (opposite w)
  flat-opposite w h F = flat-parallel N V w (opposite w) h (opposite-itself w h).parallel F

  -- the labels stay along w
  module _ (w : Vector) (F : FlatMap N w) where
    pub label-moved : (d : Vector) (z : ℤ) (m : Label) → IsDirection d → IsDirection (combination (pos 1) d z w) → labels_of d ≡ m → labels_of (combination (pos 1) d z w) ≡ m
    label-moved d z m h i e = is-label (combination (pos 1) d z w) m (flat-onward N w F d 1 z (omega arith) m i (subst (MapLabel N d) e (label-is d h)))

    moved-near : (d e : Vector) (z : ℤ) (k : ℕ) → combination (pos 1) (blend k d 1 e) (pos k *ℤ z) w ≡ blend k (combination (pos 1) d z w) 1 e
    moved-near d e z k =
        vector-same (combination (pos 1) (blend k d 1 e) (pos k *ℤ z) w) (blend k (combination (pos 1) d z w) 1 e) (one d.x e.x w.x) (one d.y e.y w.y) (one d.z e.z w.z)
      where
        one : (x y v : ℤ) → pos 1 *ℤ (pos k *ℤ x +ℤ pos 1 *ℤ y) +ℤ (pos k *ℤ z) *ℤ v ≡ pos k *ℤ (pos 1 *ℤ x +ℤ z *ℤ v) +ℤ pos 1 *ℤ y
        one x y v = ring (pos k ∷ z ∷ x ∷ y ∷ v ∷ []) (num (pos 1) ⊗ (at 0 ⊗ at 2 ⊕ num (pos 1) ⊗ at 3) ⊕ (at 0 ⊗ at 1) ⊗ at 4) (at 0 ⊗ (num (pos 1) ⊗ at 2 ⊕ at 1 ⊗ at 4) ⊕ num (pos 1) ⊗ at 3) tt

    -- and so does what is straight in a plane of w
    pub straight-moved : (n d : Vector) (a m b : Label) (z : ℤ) → dot n w ≡ pos 0 → IsDirection d → IsDirection (combination (pos 1) d z w) → StraightAt (Of labels_of) n a m b d → StraightAt (Of labels_of) n a m b (combination (pos 1) d z w)
    straight-moved n d a m b z level h i s = record {
      level = dot-comb n (pos 1) d z w ∙ ap (λ r. pos 1 *ℤ r +ℤ z *ℤ dot n w) s.level ∙ ap (λ r. pos 1 *ℤ pos 0 +ℤ z *ℤ r) level ∙ ring (z ∷ []) (num (pos 1) ⊗ num (pos 0) ⊕ at 0 ⊗ num (pos 0)) (num (pos 0)) tt;
      at_d = label-moved d z m h i s.at_d;
      near = λ e. let r = s.near e in (r.0 + amount (forms N) e, λ k l. close e k (by_side a m b (sign (dot n e))) (omega arith) (r.1 k (omega arith)));
    }
      where
        close : (e : Vector) (k : ℕ) (l : Label) → amount (forms N) e ≤ k → labels_of (blend k d 1 e) ≡ l → labels_of (blend k (combination (pos 1) d z w) 1 e) ≡ l
        close e k l j q =
            let t = moved-near d e z k in
            subst (λ (v : Vector). labels_of v ≡ l) t (label-moved (blend k d 1 e) (pos k *ℤ z) l (near-direction N V d e k j h) (subst IsDirection (sym t) (near-direction N V (combination (pos 1) d z w) e k j i)) q)
