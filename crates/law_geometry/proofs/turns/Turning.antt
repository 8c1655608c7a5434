-- Functions that keep products and sums of vectors, and cross products up to one sign: how what they make lies.
use Rattle.law_geometry.proofs.turns.Prelude.{◌≡◌, ℕ, ℤ, pos, ◌+ℤ◌, ◌*ℤ◌, ◌<ℤ◌, neg_ℤ, Bool, true, false, cond, refl, ap, sym, ◌∙◌, subst, arith, ◌↔◌, inl, inr, ⊎_elim, [], ◌∷◌, ints, ring, at, neg, ◌⊕◌, ◌⊗◌, Vector, dot, cross, triple, IsZero, IsDirection, SameDirection, IsOpposite, opposite, blend, IsOnCircle, IsStrictlyOn, way_back_passes_the_same, negated_if, differ, signed}
use lib.IntN.{neg_ℤ-neg_ℤ}
use Rattle.law_geometry.proofs.turns.Coordinates.{sign-twice}
use Rattle.nef_space.proofs.Vectors.{same-vector}

pub record Turning (f : Vector → Vector) (odd : Bool) : Type 0 where
  pub dots : (a b : Vector) → dot (f a) (f b) ≡ dot a b
  pub crosses : (a b : Vector) → cross (f a) (f b) ≡ signed odd (f (cross a b))
  pub blends : (i : ℕ) (a : Vector) (j : ℕ) (b : Vector) → blend i (f a) j (f b) ≡ f (blend i a j b)
  pub zeros : (a : Vector) → IsZero (f a) ↔ IsZero a

-- ---- signs
pub dot-signed : (s : Bool) (a b : Vector) → dot a (signed s b) ≡ negated_if s (dot a b)
dot-signed true a b = negated (a.x) (a.y) (a.z) b.x b.y b.z
  where
    negated : (a b c x y z : ℤ) → a *ℤ neg_ℤ x +ℤ b *ℤ neg_ℤ y +ℤ c *ℤ neg_ℤ z ≡ neg_ℤ (a *ℤ x +ℤ b *ℤ y +ℤ c *ℤ z)
    negated a b c x y z = ring (a ∷ b ∷ c ∷ x ∷ y ∷ z ∷ []) (at 0 ⊗ neg (at 3) ⊕ at 1 ⊗ neg (at 4) ⊕ at 2 ⊗ neg (at 5)) (neg (at 0 ⊗ at 3 ⊕ at 1 ⊗ at 4 ⊕ at 2 ⊗ at 5)) tt
dot-signed false a b = refl

pub signed-dot : (s : Bool) (a b : Vector) → dot (signed s a) b ≡ negated_if s (dot a b)
signed-dot true a b = negated (a.x) (a.y) (a.z) b.x b.y b.z
  where
    negated : (a b c x y z : ℤ) → neg_ℤ a *ℤ x +ℤ neg_ℤ b *ℤ y +ℤ neg_ℤ c *ℤ z ≡ neg_ℤ (a *ℤ x +ℤ b *ℤ y +ℤ c *ℤ z)
    negated a b c x y z = ring (a ∷ b ∷ c ∷ x ∷ y ∷ z ∷ []) (neg (at 0) ⊗ at 3 ⊕ neg (at 1) ⊗ at 4 ⊕ neg (at 2) ⊗ at 5) (neg (at 0 ⊗ at 3 ⊕ at 1 ⊗ at 4 ⊕ at 2 ⊗ at 5)) tt
signed-dot false a b = refl

pub zero-signed : (b : Bool) (d : Vector) → IsZero (signed b d) ↔ IsZero d
zero-signed true d = (λ h. (omega (arith, ints, h.0), omega (arith, ints, h.1), omega (arith, ints, h.2)), λ h. (ap neg_ℤ h.0, ap neg_ℤ h.1, ap neg_ℤ h.2))
zero-signed false d = (λ h. h, λ h. h)

nonzero-sign : (b : Bool) (x : ℤ) → (negated_if b x ≡ pos 0) ↔ (x ≡ pos 0)
nonzero-sign true x = (λ h. omega (arith, ints, h), λ h. ap neg_ℤ h)
nonzero-sign false x = (λ h. h, λ h. h)

module _ (f : Vector → Vector) (odd : Bool) (T : Turning f odd) where
  pub triple-there : (a b c : Vector) → triple (f a) (f b) (f c) ≡ negated_if odd (triple a b c)
  triple-there a b c = ap (dot (f a)) (T.crosses b c) ∙ dot-signed odd (f a) (f (cross b c)) ∙ ap (negated_if odd) (T.dots a (cross b c))

  pub direction-there : (d : Vector) → IsDirection (f d) ↔ IsDirection d
  direction-there d = (λ h z. h ((T.zeros d).1 z), λ h z. h ((T.zeros d).0 z))

  pub zero_cross-there : (a b : Vector) → IsZero (cross (f a) (f b)) ↔ IsZero (cross a b)
  zero_cross-there a b = (
    λ h. (T.zeros (cross a b)).0 ((zero-signed odd (f (cross a b))).0 (subst IsZero (T.crosses a b) h)),
    λ h. subst IsZero (sym (T.crosses a b)) ((zero-signed odd (f (cross a b))).1 ((T.zeros (cross a b)).1 h)),
  )

  pub direction_cross-there : (a b : Vector) → IsDirection (cross (f a) (f b)) ↔ IsDirection (cross a b)
  direction_cross-there a b = (λ h z. h ((zero_cross-there a b).1 z), λ h z. h ((zero_cross-there a b).0 z))

  pub same_direction-there : (a b : Vector) → SameDirection (f a) (f b) ↔ SameDirection a b
  same_direction-there a b = (
    λ h. record { parallel = (zero_cross-there a b).0 h.parallel; forward = subst (λ (i : ℤ). pos 0 <ℤ i) (T.dots a b) h.forward },
    λ h. record { parallel = (zero_cross-there a b).1 h.parallel; forward = subst (λ (i : ℤ). pos 0 <ℤ i) (sym (T.dots a b)) h.forward },
  )

  pub opposite-there : (a b : Vector) → IsOpposite (f a) (f b) ↔ IsOpposite a b
  opposite-there a b = (
    λ h. record { parallel = (zero_cross-there a b).0 h.parallel; backward = subst (λ (i : ℤ). i <ℤ pos 0) (T.dots a b) h.backward },
    λ h. record { parallel = (zero_cross-there a b).1 h.parallel; backward = subst (λ (i : ℤ). i <ℤ pos 0) (sym (T.dots a b)) h.backward },
  )

  pub zero_triple-there : (a b c : Vector) → (triple (f a) (f b) (f c) ≡ pos 0) ↔ (triple a b c ≡ pos 0)
  zero_triple-there a b c = (
    λ h. (nonzero-sign odd (triple a b c)).0 (sym (triple-there a b c) ∙ h),
    λ h. triple-there a b c ∙ (nonzero-sign odd (triple a b c)).1 h,
  )

  -- ---- circles and arcs
  pub dot-there : (s : Bool) (n d : Vector) → dot (signed s (f n)) (f d) ≡ negated_if s (dot n d)
  dot-there s n d = signed-dot s (f n) (f d) ∙ ap (negated_if s) (T.dots n d)

  pub level-there : (s : Bool) (n d : Vector) → (dot (signed s (f n)) (f d) ≡ pos 0) ↔ (dot n d ≡ pos 0)
  level-there s n d = (
    λ h. (nonzero-sign s (dot n d)).0 (sym (dot-there s n d) ∙ h),
    λ h. dot-there s n d ∙ (nonzero-sign s (dot n d)).1 h,
  )

  pub circle-there : (s : Bool) (n d : Vector) → IsOnCircle (signed s (f n)) (f d) ↔ IsOnCircle n d
  circle-there s n d = (
    λ h. record { direction = (direction-there d).0 h.direction; level = (level-there s n d).0 h.level },
    λ h. record { direction = (direction-there d).1 h.direction; level = (level-there s n d).1 h.level },
  )

  -- the sense of way is kept about the turned normal with the sign of the turn
  sense : (n a b : Vector) → triple (signed odd (f n)) (f a) (f b) ≡ triple n a b
  sense n a b = signed-dot odd (f n) (cross (f a) (f b)) ∙ ap (negated_if odd) (triple-there n a b) ∙ sign-twice odd (triple n a b)

  abbrev Positive : ℤ → Type 0
  Positive i = pos 0 <ℤ i

  abbrev Negative : ℤ → Type 0
  Negative i = i <ℤ pos 0

  pub arc-there : (n s t d : Vector) → IsStrictlyOn (signed odd (f n)) (f s) (f t) (f d) ↔ IsStrictlyOn n s t d
  arc-there n s t d =
      let st = sense n s t in
      let sd = sense n s d in
      let dt = sense n d t in (
        λ h. record {
          on_circle = (circle-there odd n d).0 h.on_circle;
          not_source = λ e. h.not_source ((same_direction-there s d).1 e);
          not_target = λ e. h.not_target ((same_direction-there t d).1 e);
          less_than_half = λ e. let g = h.less_than_half (subst Positive (sym st) e) in (subst Positive sd g.0, subst Positive dt g.1);
          more_than_half = λ e. ⊎_elim (λ g. inl (subst Positive sd g)) (λ g. inr (subst Positive dt g)) (h.more_than_half (subst Negative (sym st) e));
          just_half = λ e. subst Positive sd (h.just_half ((opposite-there s t).1 e));
        },
        λ h. record {
          on_circle = (circle-there odd n d).1 h.on_circle;
          not_source = λ e. h.not_source ((same_direction-there s d).0 e);
          not_target = λ e. h.not_target ((same_direction-there t d).0 e);
          less_than_half = λ e. let g = h.less_than_half (subst Positive st e) in (subst Positive (sym sd) g.0, subst Positive (sym dt) g.1);
          more_than_half = λ e. ⊎_elim (λ g. inl (subst Positive (sym sd) g)) (λ g. inr (subst Positive (sym dt) g)) (h.more_than_half (subst Negative st e));
          just_half = λ e. subst Positive (sym sd) (h.just_half ((opposite-there s t).0 e));
        },
      )

  -- about the opposite normal the way goes back
  pub arc_back-there : (n s t d : Vector) → IsDirection n → IsOnCircle n s → IsOnCircle n t → IsStrictlyOn (opposite (signed odd (f n))) (f t) (f s) (f d) ↔ IsStrictlyOn n s t d
  arc_back-there n s t d h p q =
      let b = way_back_passes_the_same (signed odd (f n)) (f s) (f t) (f d) (λ z. h ((T.zeros n).0 ((zero-signed odd (f n)).0 z))) ((circle-there odd n s).1 p) ((circle-there odd n t).1 q) in (
        λ e. (arc-there n s t d).0 (b.0 e),
        λ e. b.1 ((arc-there n s t d).1 e),
      )

opposite-twice : (v : Vector) → opposite (signed true v) ≡ v
opposite-twice v = same-vector _ _ _ _ _ _ (neg_ℤ-neg_ℤ v.x) (neg_ℤ-neg_ℤ v.y) (neg_ℤ-neg_ℤ v.z)

-- what is passed about the image of the normal, or its opposite. The ends are exchanged where the sense is
pub dir-there : (f : Vector → Vector) (odd : Bool) → Turning f odd → (flip : Bool) (n s t d : Vector) → IsDirection n → IsOnCircle n s → IsOnCircle n t
    → IsStrictlyOn (signed flip (f n)) (cond (differ odd flip) (f t) (f s)) (cond (differ odd flip) (f s) (f t)) (f d) ↔ IsStrictlyOn n s t d
dir-there f true F true n s t d h p q = arc-there f true F n s t d
dir-there f true F false n s t d h p q =
    let e = arc_back-there f true F n s t d h p q in (
      λ i. e.0 (subst (λ (r : Vector). IsStrictlyOn r (f t) (f s) (f d)) (sym (opposite-twice (f n))) i),
      λ i. subst (λ (r : Vector). IsStrictlyOn r (f t) (f s) (f d)) (opposite-twice (f n)) (e.1 i),
    )
dir-there f false F true n s t d h p q = arc_back-there f false F n s t d h p q
dir-there f false F false n s t d h p q = arc-there f false F n s t d
