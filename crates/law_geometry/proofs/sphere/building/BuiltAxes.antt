-- What a builder is given, and the svertices that it makes of the kept stars.
use Rattle.law_geometry.proofs.sphere.building.Prelude.{◌≡◌, ℕ, zero, suc, ◌<◌, pos, arith, refl, ap, sym, ◌⊎◌, inl, inr, List, ◌∷◌, map, subst, [], ints, by_order, Vector, IsDirection, SameDirection, Label, VectorBelow, IsAt, MapVertex, Map, dir_of, IsSmooth, plain, straight, Star, IsPlain, IsStraight, IsSimplified, normal-direction, below-itself, Found, search_list, SameDirection-decided, dir-at, lowest-same, RawMap, Of, IsLabelling, ShowsLabels, IsRawOf, AreSimplified, svertex_at, IsBuiltFrom, is-at_none, is-at_first, Some}
use Rattle.law_geometry.proofs.sphere.building.BuiltLabels.{smooth-same_way}
use Rattle.law_geometry.proofs.sphere.building.StarSmooth.{star-plain, star-straight, star-normal}
use Rattle.nef_space.proofs.Lists.{is-at_map, map-is_at}

-- M is made of the simplified stars of R, which show the labels L
pub record IsMadeOfStars (gs : List Vector) (L : Vector → Label) (R : RawMap) (M : Map) : Type 0 where
  pub labelling : IsLabelling gs L
  pub raw : IsRawOf R L
  pub simple : AreSimplified R.stars
  pub built : IsBuiltFrom R M

pub map-empty : {A B : Type 0} (f : A → B) (xs : List A) → map f xs ≡ [] → xs ≡ []
map-empty f [] e = refl
map-empty f (x ∷ xs) e = cc

pub number-order : {A : Type 0} (i k : ℕ) → (i < k → A) → (i ≡ k → A) → (k < i → A) → A
number-order i k f g h = by_order (pos i) (pos k) (λ l. f (omega (arith, ints))) (λ e. g (omega (arith, ints))) (λ l. h (omega (arith, ints)))

module _ (gs : List Vector) (L : Vector → Label) (R : RawMap) (M : Map) (C : IsMadeOfStars gs L R M) where
  abbrev F : Vector → Label → Type 0
  F = Of L

  abbrev kept : List Star
  kept = C.built.kept

  -- ---- kept stars
  pub kept-shows : (k : ℕ) (t : Star) → IsAt kept k t → ShowsLabels t L
  kept-shows k t a = let x = C.built.kept_from k t a in C.raw.stars x.0 t x.1

  pub kept-simple : (k : ℕ) (t : Star) → IsAt kept k t → IsSimplified t
  kept-simple k t a = let x = C.built.kept_from k t a in C.simple x.0 t x.1

  pub kept-axis : (k : ℕ) (t : Star) → IsAt kept k t → IsDirection t.axis
  kept-axis k t a = let S = kept-shows k t a in S.star.axis

  pub kept-apart : (i k : ℕ) (t u : Star) → IsAt kept i t → IsAt kept k u → SameDirection t.axis u.axis → i ≡ k
  kept-apart i k t u a b w = number-order i k (λ l. absurd (never (C.built.kept_ordered i k t u l a b) same)) (λ e. e) (λ l. absurd (never (C.built.kept_ordered k i u t l b a) (sym same)))
    where
      same : t.axis ≡ u.axis
      same = lowest-same t.axis u.axis w (let S = kept-shows i t a in S.star.axis_lowest) (let S = kept-shows k u b in S.star.axis_lowest)

      never : {x y : Vector} → VectorBelow x y → x ≡ y → ⊥
      never {x} {y} l e = below-itself y (subst (λ (r : Vector). VectorBelow r y) e l)

  -- ---- svertices
  pub svertex-star : (k : ℕ) (v : MapVertex) → IsAt M.svertices k v → (t : Star) × IsAt kept k t × (svertex_at t ≡ v)
  svertex-star k v a = is-at_map svertex_at kept k v (subst (λ (vs : List MapVertex). IsAt vs k v) C.built.svertices a)

  pub star-svertex : (k : ℕ) (t : Star) → IsAt kept k t → IsAt M.svertices k (svertex_at t)
  star-svertex k t a = subst (λ (vs : List MapVertex). IsAt vs k (svertex_at t)) (sym C.built.svertices) (map-is_at svertex_at kept k t a)

  pub axis-at : (k : ℕ) (t : Star) → IsAt kept k t → dir_of M.svertices k ≡ t.axis
  axis-at k t a = dir-at M.svertices k (svertex_at t) (star-svertex k t a)

  -- ---- off the kept stars the labels are plain or straight
  smooth-at : (j : ℕ) (t : Star) → IsAt R.stars j t → IsPlain t ⊎ IsStraight t → IsSmooth F t.axis
  smooth-at j t a (inl P) = plain t.mark (star-plain gs L C.labelling t (C.raw.stars j t a) P)
  smooth-at j t a (inr K) =
      let S = C.raw.stars j t a in
      straight K.first.normal K.pos t.mark K.neg (normal-direction K.first.normal (star-normal gs L C.labelling t S K)) (star-straight gs L C.labelling t S K)

  pub smooth-off : (d : Vector) → IsDirection d → ((k : ℕ) (t : Star) → IsAt kept k t → SameDirection t.axis d → ⊥) → IsSmooth F d
  smooth-off d h off = by (search_list R.stars (λ k t. SameDirection t.axis d) (λ k t. SameDirection-decided t.axis d))
    where
      by : Found R.stars (λ k t. SameDirection t.axis d) ⊎ ((k : ℕ) (t : Star) → IsAt R.stars k t → SameDirection t.axis d → ⊥) → IsSmooth F d
      by (inr none) = C.raw.smooth d h none
      by (inl f) = smooth-same_way gs L C.labelling f.element.axis d f.holds (kind (C.built.kept_all f.number f.element f.listed))
        where
          kind : IsPlain f.element ⊎ IsStraight f.element ⊎ ((k : ℕ) × IsAt kept k f.element) → IsSmooth F f.element.axis
          kind (inl P) = smooth-at f.number f.element f.listed (inl P)
          kind (inr (inl K)) = smooth-at f.number f.element f.listed (inr K)
          kind (inr (inr k)) = absurd (off k.0 f.element k.1 f.holds)
