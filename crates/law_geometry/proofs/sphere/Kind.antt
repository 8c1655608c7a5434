-- The kind of a least map says along which directions it stays the same.
use Rattle.law_geometry.proofs.sphere.Prelude.{◌≡◌, ℕ, ◌*◌, ◌<◌, ℤ, pos, negsuc, ◌+ℤ◌, ◌*ℤ◌, nat_abs, arith, refl, ap, sym, ◌∙◌, inl, inr, ⊎_elim, ◌∷◌, subst, Some, neg_ℤ, [], ints, mul-pos, ring, at, num, ◌⊕◌, ◌⊗◌, sign, sign-plus, sign-minus, by_order, nought-or, Vector, IsDirection, cross, vector, dot, IsZero, blend, opposite, combination, IsAt, MapSloop, Map, Item, sloop_item, items, item_normal, item_pos, item_mark, item_neg, OnItem, MapLabel, on_item, NearLabel, Valid, SameSigns, forms, by_side, Least, Full, FlatMap, dot-zero, self-pos, vector-same, apart, scaled-coordinates, dot-opposite}
use Rattle.law_geometry.proofs.sphere.Vectors.{normal-is, dot-comb}
use Rattle.law_geometry.proofs.sphere.Forms.{direction-by_signs, on-direction, on-level}
use Rattle.law_geometry.proofs.sphere.Parallel.{circle-point}
use Rattle.law_geometry.proofs.sphere.Shot.{product-off}
use Rattle.law_geometry.proofs.sphere.Labels.{label-by_signs, near-unique}
use Rattle.law_geometry.proofs.sphere.NearItems.{near-item}
use Rattle.law_geometry.proofs.sphere.Walk.{cross-direction_turned, between-direction}
use Rattle.law_geometry.proofs.sphere.Arcs.{at-sloop}
use Rattle.law_geometry.proofs.sphere.FlatMaps.{scaled-signs, full-label, flat-onward}

-- ---- items hold the flat directions
abbrev pub away : Vector → Vector
away d = combination (negsuc 0) d (pos 0) d

away-blend : (k : ℕ) (y d : Vector) → combination (pos k) y (negsuc 0) d ≡ blend k y 1 (opposite d)
away-blend k y d = vector-same _ _ (one y.x d.x) (one y.y d.y) (one y.z d.z)
  where
    one : (a b : ℤ) → pos k *ℤ a +ℤ negsuc 0 *ℤ b ≡ pos k *ℤ a +ℤ pos 1 *ℤ neg_ℤ b
    one a b = omega (arith, ints)

module _ (M : Map) (V : Valid M) (L : Least M) (d : Vector) (F : FlatMap M d) where
  pub flat-item : (i : ℕ) (x : Item) → IsAt (items M) i x → (y : Vector) → OnItem M x y → dot (item_normal x) d ≡ pos 0
  flat-item i x a y o = ⊎_elim (λ z. z) (λ f. absurd (by f)) (nought-or (dot (item_normal x) d))
    where
      by : (dot (item_normal x) d ≡ pos 0 → ⊥) → ⊥
      by f =
          let l = on-level M x y o in
          let h = on-direction M x y o in
          let c = cross-direction_turned d y (apart (item_normal x) d y f l h) in
          let e = dot-opposite (item_normal x) d in
          let c' = cross-direction_turned (opposite d) y (apart (item_normal x) (opposite d) y (λ z. f (omega (arith, ints))) l h) in
          let m = on_item i x a o refl in
          let p : NearLabel M y d (item_mark x) = (1, λ k s. flat-onward M d F y k (pos 1) (omega arith) (item_mark x) (between-direction y d k 1 (omega arith) c) m) in
          let q : NearLabel M y (opposite d) (item_mark x) = (
            1,
            λ k s. let b = away-blend k y d in
                subst (λ (r : Vector). MapLabel M r (item_mark x)) b (flat-onward M d F y k (negsuc 0) (omega arith) (item_mark x) (subst IsDirection (sym b) (between-direction y (opposite d) k 1 (omega arith) c')) m),
          ) in
          let u = near-unique M V y d _ _ (near-item M V y i x a o d) p in
          let w = near-unique M V y (opposite d) _ _ (near-item M V y i x a o (opposite d)) q in
          let side = by_side (item_pos x) (item_mark x) (item_neg x) in
          by_order (dot (item_normal x) d) (pos 0)
          (λ g. L.items_differ i x a (ap side (sym (sign-plus (dot (item_normal x) (opposite d)) (omega (arith, ints)))) ∙ w) (ap side (sym (sign-minus (dot (item_normal x) d) g)) ∙ u))
          f
          (λ g. L.items_differ i x a (ap side (sym (sign-plus (dot (item_normal x) d) g)) ∙ u) (ap side (sym (sign-minus (dot (item_normal x) (opposite d)) (omega (arith, ints)))) ∙ w))

  pub flat-sloop : (l : MapSloop) → M.sloop ≡ Some l → dot l.normal d ≡ pos 0
  flat-sloop l e = let i = at-sloop M.arcs M.sloop l e in let p = circle-point l.normal (normal-is V.shaped i.0 (sloop_item l) i.1) in flat-item i.0 (sloop_item l) i.1 p.0 p.1

  -- along a flat direction there is the mark of the map
  pub flat-mark : IsDirection d → MapLabel M d M.mark
  flat-mark h =
      let z : Vector = vector (pos 0) (pos 0) (pos 0) in
      let s : SameSigns (forms M) d (combination (pos 1) z (pos 1) d) = λ g l. ap sign (dot-comb g (pos 1) z (pos 1) d ∙ ap (λ r. pos 1 *ℤ r +ℤ pos 1 *ℤ dot g d) (dot-zero g z (refl, refl, refl)) ∙ ring (dot g d ∷ []) (num (pos 1) ⊗ num (pos 0) ⊕ num (pos 1) ⊗ at 0) (at 0) tt) in
      let f = full-label M (combination (pos 1) z (pos 1) d) M.mark (direction-by_signs M d (combination (pos 1) z (pos 1) d) s h) ((F z 1 (pos 1) (omega arith) M.mark).0 (inl ((refl, refl, refl), refl))) in
      label-by_signs M V (combination (pos 1) z (pos 1) d) d (λ g l. sym (s g l)) M.mark f

-- flat along what is parallel
pub flat-parallel : (M : Map) → Valid M → (d v : Vector) → IsDirection d → IsZero (cross d v) → FlatMap M d → FlatMap M v
flat-parallel M V d v h p F e b a sb m = (λ f. go f, λ f. come f)
  where
    q-is : (pos (nat_abs (dot d d)) ≡ dot d d) × (0 < nat_abs (dot d d))
    q-is = let s = self-pos d h in (omega (arith, ints), omega (arith, ints))

    -- (d.d)(b e + a v) = (d.d) b e + a (d.v) d
    eq : combination (pos (nat_abs (dot d d))) (combination (pos b) e a v) (pos 0) (combination (pos b) e a v) ≡ combination (pos (nat_abs (dot d d) * b)) e (a *ℤ dot d v) d
    eq = let s = scaled-coordinates d v p in
        vector-same (combination (pos (nat_abs (dot d d))) (combination (pos b) e a v) (pos 0) (combination (pos b) e a v)) (combination (pos (nat_abs (dot d d) * b)) e (a *ℤ dot d v) d)
        (one e.x v.x d.x s.0) (one e.y v.y d.y s.1) (one e.z v.z d.z s.2)
      where
        one : (x y z : ℤ) → dot d d *ℤ y ≡ dot d v *ℤ z → pos (nat_abs (dot d d)) *ℤ (pos b *ℤ x +ℤ a *ℤ y) +ℤ pos 0 *ℤ (pos b *ℤ x +ℤ a *ℤ y) ≡ pos (nat_abs (dot d d) * b) *ℤ x +ℤ a *ℤ dot d v *ℤ z
        one x y z t = let k = q-is.0 in
            ring (pos (nat_abs (dot d d)) ∷ pos b ∷ x ∷ a ∷ y ∷ []) (at 0 ⊗ (at 1 ⊗ at 2 ⊕ at 3 ⊗ at 4) ⊕ num (pos 0) ⊗ (at 1 ⊗ at 2 ⊕ at 3 ⊗ at 4)) (at 0 ⊗ at 1 ⊗ at 2 ⊕ at 3 ⊗ (at 0 ⊗ at 4)) tt
            ∙ ap (λ r. pos (nat_abs (dot d d)) *ℤ pos b *ℤ x +ℤ a *ℤ (r *ℤ y)) k ∙ ap (λ r. pos (nat_abs (dot d d)) *ℤ pos b *ℤ x +ℤ a *ℤ r) t
            ∙ ring (pos (nat_abs (dot d d)) ∷ pos b ∷ x ∷ a ∷ dot d v ∷ z ∷ []) (at 0 ⊗ at 1 ⊗ at 2 ⊕ at 3 ⊗ (at 4 ⊗ at 5)) (at 0 ⊗ at 1 ⊗ at 2 ⊕ at 3 ⊗ at 4 ⊗ at 5) tt

    -- Full is the same at a positive multiple
    scale : (u : Vector) (k : ℕ) → 0 < k → Full M u m → Full M (combination (pos k) u (pos 0) u) m
    scale u k sk (inl (z, r)) = inl ((nil u.x z.0, nil u.y z.1, nil u.z z.2), r)
      where
        nil : (x : ℤ) → x ≡ pos 0 → pos k *ℤ x +ℤ pos 0 *ℤ x ≡ pos 0
        nil x y = ap (λ r. pos k *ℤ r +ℤ pos 0 *ℤ x) y ∙ ring (pos k ∷ x ∷ []) (at 0 ⊗ num (pos 0) ⊕ num (pos 0) ⊗ at 1) (num (pos 0)) tt
    scale u k sk (inr l) = inr (label-by_signs M V u (combination (pos k) u (pos 0) u) (scaled-signs (forms M) u k sk) m l)

    unscale : (u : Vector) (k : ℕ) → 0 < k → Full M (combination (pos k) u (pos 0) u) m → Full M u m
    unscale u k sk (inl (z, r)) = inl ((nil u.x z.0, nil u.y z.1, nil u.z z.2), r)
      where
        nil : (x : ℤ) → pos k *ℤ x +ℤ pos 0 *ℤ x ≡ pos 0 → x ≡ pos 0
        nil x y = ⊎_elim (λ z. z) (λ f. absurd (product-off (pos k) x (omega (arith, ints)) f (ring (pos k ∷ x ∷ []) (at 0 ⊗ at 1) (at 0 ⊗ at 1 ⊕ num (pos 0) ⊗ at 1) tt ∙ y))) (nought-or x)
    unscale u k sk (inr l) = inr (label-by_signs M V (combination (pos k) u (pos 0) u) u (λ g i. sym (scaled-signs (forms M) u k sk g i)) m l)

    go : Full M e m → Full M (combination (pos b) e a v) m
    go f = unscale (combination (pos b) e a v) (nat_abs (dot d d)) q-is.1 (subst (λ (r : Vector). Full M r m) (sym eq) ((F e (nat_abs (dot d d) * b) (a *ℤ dot d v) (mul-pos q-is.1 sb) m).0 f))

    come : Full M (combination (pos b) e a v) m → Full M e m
    come f = (F e (nat_abs (dot d d) * b) (a *ℤ dot d v) (mul-pos q-is.1 sb) m).1 (subst (λ (r : Vector). Full M r m) eq (scale (combination (pos b) e a v) (nat_abs (dot d d)) q-is.1 f))
