-- Turned vectors: their products, and how they lie to one another.
use Rattle.law_geometry.proofs.turns.Prelude.{◌≡◌, ℕ, ℤ, pos, ◌+ℤ◌, ◌*ℤ◌, neg_ℤ, Bool, true, false, refl, ap, sym, ◌∙◌, subst, ◌↔◌, [], ◌∷◌, ring, at, neg, ◌⊕◌, ◌⊗◌, Vector, vector, dot, cross, triple, IsZero, IsDirection, SameDirection, IsOpposite, opposite, blend, negated_if, vector_of_triple, triple_of, turned_vector, unturned_vector, is_odd, signed}
use Rattle.law_geometry.proofs.turns.Turning.{Turning, triple-there, direction-there, direction_cross-there, same_direction-there, opposite-there, zero_triple-there}
use Rattle.law_geometry.proofs.turns.Coordinates.{zip-turned, IsOddFunction, SignBlind, each-turned, each-back, dots-turned, crosses-turned, turned-back, back-turned, sign-twice}
use Rattle.nef_space.proofs.Vectors.{same-vector}

pub dot-turned : (k : ℕ) (a b : Vector) → dot (turned_vector k a) (turned_vector k b) ≡ dot a b
dot-turned k a b = dots-turned k (triple_of a) (triple_of b)

pub cross-turned : (k : ℕ) (a b : Vector) → cross (turned_vector k a) (turned_vector k b) ≡ signed (is_odd k) (turned_vector k (cross a b))
cross-turned k a b = ap vector_of_triple (crosses-turned k (triple_of a) (triple_of b))

-- ---- every vector is the image of one
pub vector-back : (k : ℕ) (d : Vector) → turned_vector k (unturned_vector k d) ≡ d
vector-back k d = ap vector_of_triple (turned-back k (triple_of d))

pub back-vector : (k : ℕ) (d : Vector) → unturned_vector k (turned_vector k d) ≡ d
back-vector k d = ap vector_of_triple (back-turned k (triple_of d))

pub every-vector : (k : ℕ) (P : Vector → Type 0) → ((d : Vector) → P (turned_vector k d)) → (e : Vector) → P e
every-vector k P f e = subst P (vector-back k e) (f (unturned_vector k e))

-- ---- zero vectors
abbrev pub FirstIsNought : ℤ → ℤ → Type 0
FirstIsNought x y = x ≡ pos 0

nought-blind : SignBlind FirstIsNought
nought-blind x y e = ap neg_ℤ e

pub zero-turned : (k : ℕ) (d : Vector) → IsZero (turned_vector k d) ↔ IsZero d
zero-turned k d = (each-back FirstIsNought nought-blind k (triple_of d) (triple_of d), each-turned FirstIsNought nought-blind k (triple_of d) (triple_of d))

-- ---- sums
sum-odd : (i j : ℤ) → IsOddFunction (λ x y. i *ℤ x +ℤ j *ℤ y)
sum-odd i j x y = ring (i ∷ j ∷ x ∷ y ∷ []) (at 0 ⊗ neg (at 2) ⊕ at 1 ⊗ neg (at 3)) (neg (at 0 ⊗ at 2 ⊕ at 1 ⊗ at 3)) tt

pub comb-turned : (k : ℕ) (i : ℤ) (a : Vector) (j : ℤ) (b : Vector) → vector (i *ℤ (turned_vector k a).x +ℤ j *ℤ (turned_vector k b).x) (i *ℤ (turned_vector k a).y +ℤ j *ℤ (turned_vector k b).y) (i *ℤ (turned_vector k a).z +ℤ j *ℤ (turned_vector k b).z) ≡ turned_vector k (vector (i *ℤ a.x +ℤ j *ℤ b.x) (i *ℤ a.y +ℤ j *ℤ b.y) (i *ℤ a.z +ℤ j *ℤ b.z))
comb-turned k i a j b = ap vector_of_triple (zip-turned (λ x y. i *ℤ x +ℤ j *ℤ y) (sum-odd i j) k (triple_of a) (triple_of b))

pub blend-turned : (k : ℕ) (i : ℕ) (a : Vector) (j : ℕ) (b : Vector) → blend i (turned_vector k a) j (turned_vector k b) ≡ turned_vector k (blend i a j b)
blend-turned k i a j b = comb-turned k (pos i) a (pos j) b

negation-odd : IsOddFunction (λ x y. neg_ℤ x)
negation-odd x y = refl

pub opposite-vector : (k : ℕ) (a : Vector) → opposite (turned_vector k a) ≡ turned_vector k (opposite a)
opposite-vector k a = ap vector_of_triple (zip-turned (λ x y. neg_ℤ x) negation-odd k (triple_of a) (triple_of a))

-- ---- a turn and its way back
pub turning : (k : ℕ) → Turning (turned_vector k) (is_odd k)
turning k = record { dots = dot-turned k; crosses = cross-turned k; blends = blend-turned k; zeros = zero-turned k }

module _ (k : ℕ) where
  abbrev f : Vector → Vector
  f = turned_vector k

  abbrev g : Vector → Vector
  g = unturned_vector k

  dots-back : (a b : Vector) → dot (g a) (g b) ≡ dot a b
  dots-back a b = sym (dot-turned k (g a) (g b)) ∙ ap (λ (r : Vector). dot r (f (g b))) (vector-back k a) ∙ ap (λ (r : Vector). dot a r) (vector-back k b)

  pub signed-turned : (s : Bool) (a : Vector) → signed s (f a) ≡ f (signed s a)
  signed-turned true a = opposite-vector k a
  signed-turned false a = refl

  pub signed-twice : (s : Bool) (a : Vector) → signed s (signed s a) ≡ a
  signed-twice s a = same-vector _ _ _ _ _ _ (sign-twice s a.x) (sign-twice s a.y) (sign-twice s a.z)

  crosses-back : (a b : Vector) → cross (g a) (g b) ≡ signed (is_odd k) (g (cross a b))
  crosses-back a b =
      let e = sym (cross-turned k (g a) (g b)) ∙ ap (λ (r : Vector). cross r (f (g b))) (vector-back k a) ∙ ap (λ (r : Vector). cross a r) (vector-back k b) in
      -- f of the signed cross product of the images is the cross product
      let h = sym (signed-turned (is_odd k) (cross (g a) (g b))) ∙ e in
      let i = sym (back-vector k (signed (is_odd k) (cross (g a) (g b)))) ∙ ap g h in
      sym (signed-twice (is_odd k) (cross (g a) (g b))) ∙ ap (signed (is_odd k)) i

  blends-back : (i : ℕ) (a : Vector) (j : ℕ) (b : Vector) → blend i (g a) j (g b) ≡ g (blend i a j b)
  blends-back i a j b =
      let e = sym (blend-turned k i (g a) j (g b)) ∙ ap (λ (r : Vector). blend i r j (f (g b))) (vector-back k a) ∙ ap (λ (r : Vector). blend i a j r) (vector-back k b) in
      sym (back-vector k (blend i (g a) j (g b))) ∙ ap g e

  zeros-back : (a : Vector) → IsZero (g a) ↔ IsZero a
  zeros-back a = (
    λ h. subst IsZero (vector-back k a) ((zero-turned k (g a)).1 h),
    λ h. (zero-turned k (g a)).0 (subst IsZero (sym (vector-back k a)) h),
  )

  pub turning-back : Turning (unturned_vector k) (is_odd k)
  turning-back = record { dots = dots-back; crosses = crosses-back; blends = blends-back; zeros = zeros-back }

  pub direction-turned : (d : Vector) → IsDirection (f d) ↔ IsDirection d
  direction-turned = direction-there f (is_odd k) (turning k)

  pub direction_cross-turned : (a b : Vector) → IsDirection (cross (f a) (f b)) ↔ IsDirection (cross a b)
  direction_cross-turned = direction_cross-there f (is_odd k) (turning k)

  pub same_direction-turned : (a b : Vector) → SameDirection (f a) (f b) ↔ SameDirection a b
  same_direction-turned = same_direction-there f (is_odd k) (turning k)

  pub opposite-turned : (a b : Vector) → IsOpposite (f a) (f b) ↔ IsOpposite a b
  opposite-turned = opposite-there f (is_odd k) (turning k)

  pub triple-turned : (a b c : Vector) → triple (f a) (f b) (f c) ≡ negated_if (is_odd k) (triple a b c)
  triple-turned = triple-there f (is_odd k) (turning k)

  pub zero_triple-turned : (a b c : Vector) → (triple (f a) (f b) (f c) ≡ pos 0) ↔ (triple a b c ≡ pos 0)
  zero_triple-turned = zero_triple-there f (is_odd k) (turning k)
