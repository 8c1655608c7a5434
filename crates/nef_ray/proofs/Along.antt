-- Along a ray the label stays up to the first crossing of a carrier at which it changes; and it changes somewhere, since the ray leaves the frame.
use Rattle.nef_ray.proofs.Prelude.{◌≡◌, ℕ, ◌*◌, ◌<◌, ◌≤◌, ℤ, pos, ◌+ℤ◌, ◌*ℤ◌, neg_ℤ, nat_abs, arith, refl, ap, sym, ◌∙◌, ◌⊎◌, inl, inr, ⊎_elim, [], ◌∷◌, subst, ints, Sign, minus, nought, plus, sign, Lies, ring, at, num, neg, ◌⊕◌, ◌⊗◌, nought-is, plus-is, minus-is, sign-plus, sign-minus, mul_nonneg, nought-or, half_side, HasLabel, Germ, SpacePoint, Form, form_at, slope, Within, SamePoint, InFrame, InClosedFrame, toward, IsAhead, IsBetween, Set, Vector, blend, opposite, zero_vector, IsDirection, SameDirection, Label, Out, reach_all, sign_at, carriers, FirstChange, germs-by_cell, flat-germ, between-turned, every, Decided, decided-to, decided-lt, germ-decided, start, start-close, start-between, start-toward, beyond, halfway, halfway-between, halfway-outside, leads-somewhere, germ-nearby, first-change, sign-toward, Germ-by_signs, flat-outside, no-germ_out, near-same, label-one, Germ-unique, within-self, Germ-zero, slope-zero, slope-same, IsCrossing, ahead-back, between-ahead, ahead-from, IsUnchanged, SameDirection-turned, SameDirection-trans, direction-left}
use Rattle.law_geometry.proofs.near.Cells.{is_nought}
use Rattle.law_geometry.proofs.complex.Spans.{opposite-level}
use Rattle.nef_space.proofs.Elementary.{frame-closed}
use Rattle.law_geometry.proofs.complex.Skeletons.{beyond-ahead}

-- ---- the closed frame
-- a point lies in it, or doesn't
pub framed-or : (p : SpacePoint) → InClosedFrame p ⊎ (InClosedFrame p → ⊥)
framed-or p = by (decided-lt (half_side * p.w) (nat_abs p.x)) (decided-lt (half_side * p.w) (nat_abs p.y)) (decided-lt (half_side * p.w) (nat_abs p.z))
  where
    within : (a b : ℕ) → (a < b → ⊥) → b ≤ a
    within a b n = ⊎_elim (λ l. absurd (n l)) (λ m. omega (arith, m)) (decided-lt a b)

    by : Decided (half_side * p.w < nat_abs p.x) → Decided (half_side * p.w < nat_abs p.y) → Decided (half_side * p.w < nat_abs p.z) → InClosedFrame p ⊎ (InClosedFrame p → ⊥)
    by (inl x) y z = inr (λ c. let l = c.along_x in omega (arith, x, l))
    by (inr x) (inl y) z = inr (λ c. let l = c.along_y in omega (arith, y, l))
    by (inr x) (inr y) (inl z) = inr (λ c. let l = c.along_z in omega (arith, z, l))
    by (inr x) (inr y) (inr z) = inl (record { along_x = within (half_side * p.w) (nat_abs p.x) x; along_y = within (half_side * p.w) (nat_abs p.y) y; along_z = within (half_side * p.w) (nat_abs p.z) z })

-- outside it all is Out
pub label-outside : (s : Set) (p : SpacePoint) (l : Label) → (InClosedFrame p → ⊥) → HasLabel s p l → l ≡ Out
label-outside s p l out h = label-one s p l Out h (λ i. out (frame-closed p i))

pub germ-outside : (s : Set) (p : SpacePoint) (d : Vector) (l : Label) → (InClosedFrame p → ⊥) → Germ s p d l → l ≡ Out
germ-outside s p d l out g = Germ-unique s p d l Out g (flat-germ s p d Out (flat-outside s p d out) (λ i. out (frame-closed p i)))

-- ---- signs along a direction
-- k times a number and one more of the same sign
sum-sign : (k : ℕ) (a b : ℤ) → sign a ≡ sign b → sign b ≡ sign (pos k *ℤ a +ℤ pos 1 *ℤ b)
sum-sign k a b e = by (sign b) refl
  where
    by : (t : Sign) → sign b ≡ t → sign b ≡ sign (pos k *ℤ a +ℤ pos 1 *ℤ b)
    by minus f =
        let x = minus-is a (e ∙ f) in let y = minus-is b f in
        let m = mul_nonneg (pos k) (neg_ℤ a) (omega (arith, ints)) (omega (arith, ints, x)) in
        let r = ring (pos k ∷ a ∷ []) (at 0 ⊗ neg (at 1)) (neg (at 0 ⊗ at 1)) tt in
        let o = ring (b ∷ []) (num (pos 1) ⊗ at 0) (at 0) tt in
        f ∙ sym (sign-minus (pos k *ℤ a +ℤ pos 1 *ℤ b) (omega (arith, ints, y, m, r, o)))
    by nought f =
        let x = nought-is a (e ∙ f) in let y = nought-is b f in
        sym (ap (λ (i : ℤ). sign (pos k *ℤ i +ℤ pos 1 *ℤ b)) x ∙ ap (λ (i : ℤ). sign (pos k *ℤ pos 0 +ℤ pos 1 *ℤ i)) y ∙ ap sign (ring (pos k ∷ []) (at 0 ⊗ num (pos 0) ⊕ num (pos 1) ⊗ num (pos 0)) (num (pos 0)) tt) ∙ sym f)
    by plus f =
        let x = plus-is a (e ∙ f) in let y = plus-is b f in
        let m = mul_nonneg (pos k) a (omega (arith, ints)) (omega (arith, ints, x)) in
        let o = ring (b ∷ []) (num (pos 1) ⊗ at 0) (at 0) tt in
        f ∙ sym (sign-plus (pos k *ℤ a +ℤ pos 1 *ℤ b) (omega (arith, ints, y, m, o)))

slope-blend : (h : Form) (k : ℕ) (e d : Vector) → slope h (blend k e 1 d) ≡ pos k *ℤ slope h e +ℤ pos 1 *ℤ slope h d
slope-blend h k e d = ring (h.a ∷ h.b ∷ h.c ∷ e.x ∷ e.y ∷ e.z ∷ d.x ∷ d.y ∷ d.z ∷ pos k ∷ [])
    (at 0 ⊗ (at 9 ⊗ at 3 ⊕ num (pos 1) ⊗ at 6) ⊕ at 1 ⊗ (at 9 ⊗ at 4 ⊕ num (pos 1) ⊗ at 7) ⊕ at 2 ⊗ (at 9 ⊗ at 5 ⊕ num (pos 1) ⊗ at 8))
    (at 9 ⊗ (at 0 ⊗ at 3 ⊕ at 1 ⊗ at 4 ⊕ at 2 ⊗ at 5) ⊕ num (pos 1) ⊗ (at 0 ⊗ at 6 ⊕ at 1 ⊗ at 7 ⊕ at 2 ⊗ at 8)) tt

-- ---- close to a point of the ray
module _ (s : Set) (d : Vector) (m : Label) where
  -- each carrier through the point holds the ray
  abbrev pub CarriersHoldRay : SpacePoint → Type 0
  CarriersHoldRay r = (h : Form) → Lies (carriers s) h → sign_at h r ≡ nought → slope h d ≡ pos 0

  -- some carrier crosses the ray at the point, or none does
  pub crossing-or : (p r : SpacePoint) → IsAhead p d r → ((h : Form) × Lies (carriers s) h × IsCrossing p d h r) ⊎ CarriersHoldRay r
  crossing-or p r w = ⊎_elim
      (λ (h, l, n).
      let on : form_at h r ≡ pos 0 = ⊎_elim (λ e. nought-is (form_at h r) e) (λ o. absurd (n (λ e. absurd (o e)))) (is_nought (sign_at h r)) in
      inl (h, l, record { on = on; ahead = w; passes = λ z. n (λ e. z) }))
      (λ f. inr f)
      (every (carriers s) (λ h. sign_at h r ≡ nought → slope h d ≡ pos 0) (λ h. decided-to (is_nought (sign_at h r)) (nought-or (slope h d))))

  -- where none does the label is the one just after
  pub level-label : (r : SpacePoint) → CarriersHoldRay r → Germ s r d m → HasLabel s r m
  level-label r level g =
      (Germ-zero s r zero_vector m (refl, refl, refl)).0
      (Germ-by_signs s r d zero_vector (λ h l o. ap sign (level h l o ∙ sym (slope-zero h zero_vector (refl, refl, refl)))) m g)

  -- and what comes after points close before comes after the point
  level-kept : (x y : SpacePoint) → Within (reach_all (carriers s) x) x y → SameDirection (toward y x) d → CarriersHoldRay x → Germ s y d m → Germ s x d m
  level-kept x y c w level g = (germs-by_cell s y x (near-same (carriers s) x y x c (within-self (reach_all (carriers s) x) x)
      (λ h l o.
      let back = ahead-back y x d w in
      sign-toward h x y o ∙ slope-same h (toward x y) (opposite d) back ∙ ap sign (opposite-level h d (level h l o)) ∙ sym o)) d m).0 g

  -- what comes after a point comes after points close ahead
  onward-kept : (x y : SpacePoint) → Within (reach_all (carriers s) x) x y → SameDirection (toward x y) d → Germ s x d m → Germ s y d m
  onward-kept x y c w g = (germ-nearby s x y c d m).1 (
    0,
    λ k l. Germ-by_signs s x d (blend k (toward x y) 1 d)
        (λ h i o. sum-sign k (slope h (toward x y)) (slope h d) (slope-same h (toward x y) d w) ∙ ap sign (sym (slope-blend h k (toward x y) d))) m g,
  )

-- ---- the ray leaves the frame

-- ---- the label stays
module _ (s : Set) (p : SpacePoint) (d : Vector) (m : Label) (inside : InFrame p) (germ : Germ s p d m) where
  -- at each crossing before q in the closed frame it doesn't change
  abbrev pub StaysBefore : SpacePoint → Type 0
  StaysBefore q = (h : Form) → Lies (carriers s) h → (y : SpacePoint) → IsCrossing p d h y → IsBetween p y q → InClosedFrame y → IsUnchanged s d m y

  not-out : m ≡ Out → ⊥
  not-out e = no-germ_out s p d inside (subst (Germ s p d) e germ)

  module _ (q : SpacePoint) (ahead : IsAhead p d q) (stays : StaysBefore q) where
    -- the germ along the ray doesn't change
    no-change : FirstChange (λ r. Germ s r d m) p q → ⊥
    no-change c = by c.change c.on_segment
      where
        x : SpacePoint
        x = c.at_place

        near : ℕ
        near = reach_all (carriers s) c.at_place

        level : IsAhead p d c.at_place → IsBetween p c.at_place q → CarriersHoldRay s d m c.at_place → Germ s c.at_place d m
        level w b f =
            let back = ahead-back p c.at_place d w in
            let y = start (reach_all (carriers s) c.at_place) c.at_place p in
            let e = between-turned c.at_place p y (start-between (reach_all (carriers s) c.at_place) c.at_place p (direction-left (toward c.at_place p) (opposite d) back)) in
            let v = SameDirection-trans (toward y c.at_place) (toward p y) d (SameDirection-turned (toward p y) (toward y c.at_place) e) (between-ahead p y c.at_place d e w) in
            level-kept s d m c.at_place y (start-close (reach_all (carriers s) c.at_place) c.at_place p) v f (c.stands_before y e)

        stands : IsAhead p d c.at_place → IsBetween p c.at_place q → Germ s c.at_place d m
        stands w b = ⊎_elim
            (λ (h, l, X). ⊎_elim
            (λ i. (stays h l c.at_place X b i).1)
            (λ o.
            let back = ahead-back p c.at_place d w in
            let y = start (reach_all (carriers s) c.at_place) c.at_place p in
            let e = between-turned c.at_place p y (start-between (reach_all (carriers s) c.at_place) c.at_place p (direction-left (toward c.at_place p) (opposite d) back)) in
            let g = (germ-nearby s c.at_place y (start-close (reach_all (carriers s) c.at_place) c.at_place p) d m).0 (c.stands_before y e) in
            absurd (not-out (germ-outside s c.at_place (blend g.0 (toward c.at_place y) 1 d) m o (g.1 g.0 (omega arith)))))
            (framed-or c.at_place))
            (level w b) (crossing-or s d m p c.at_place w)

        onward : SamePoint c.at_place p ⊎ IsBetween p c.at_place q → IsAhead c.at_place d q
        onward (inl e) = ahead-from p c.at_place q d (record { along_x = sym e.along_x; along_y = sym e.along_y; along_z = sym e.along_z }) ahead
        onward (inr b) = SameDirection-trans (toward c.at_place q) (toward p c.at_place) d (SameDirection-turned (toward p c.at_place) (toward c.at_place q) b) (between-ahead p c.at_place q d b ahead)

        by : ((Germ s c.at_place d m → ⊥) × IsBetween p c.at_place q) ⊎ (Germ s c.at_place d m × ((y : SpacePoint) × IsBetween c.at_place y q × ((r : SpacePoint) → IsBetween c.at_place r y → Germ s r d m → ⊥)))
            → SamePoint c.at_place p ⊎ IsBetween p c.at_place q → ⊥
        by (inl (n, b)) on = n (stands (between-ahead p c.at_place q d b ahead) b)
        by (inr (g, (y, b, fails))) on =
            let way = between-ahead c.at_place y q d b (onward on) in
            let r = start (reach_all (carriers s) c.at_place) c.at_place y in
            fails r (start-between (reach_all (carriers s) c.at_place) c.at_place y (direction-left (toward c.at_place y) d way))
            (onward-kept s d m c.at_place r (start-close (reach_all (carriers s) c.at_place) c.at_place y) (subst (λ (v : Vector). SameDirection v d) (sym (start-toward (reach_all (carriers s) c.at_place) c.at_place y)) way) g)

    germs-stay : (r : SpacePoint) → IsBetween p r q → Germ s r d m
    germs-stay = ⊎_elim (λ f. f) (λ c. absurd (no-change c))
        (first-change (carriers s) (λ r. Germ s r d m) (λ r t same. (germs-by_cell s r t same d m).0) (λ r. germ-decided s r d m) p q germ)

    -- so the label doesn't either
    pub label-stays : (r : SpacePoint) → IsBetween p r q → HasLabel s r m
    label-stays r b = ⊎_elim
        (λ (h, l, X). ⊎_elim (λ i. (stays h l r X b i).0) (λ o. absurd (not-out (germ-outside s r d m o (germs-stay r b)))) (framed-or r))
        (λ level. level-label s d m r level (germs-stay r b))
        (crossing-or s d m p r (between-ahead p r q d b ahead))

  -- so the label changes at some crossing in the closed frame
  pub changes-somewhere : IsDirection d → ((h : Form) → Lies (carriers s) h → (y : SpacePoint) → IsCrossing p d h y → InClosedFrame y → IsUnchanged s d m y) → ⊥
  changes-somewhere some stays =
      let h = label-stays (beyond p d) (beyond-ahead p d some) (λ h l y X b i. stays h l y X i) (halfway p d) (halfway-between p d (leads-somewhere p d some)) in
      not-out (label-outside s (halfway p d) m (halfway-outside p d some) h)
