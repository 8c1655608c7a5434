-- What is made of the pieces of simplified stars is built from these stars.
use Rattle.nef_spair.proofs.Prelude.{◌≡◌, ℕ, suc, List, [], ◌∷◌, length, map, get_or, option_map, arith, refl, sym, ap, subst, ◌∙◌, inl, inr, ◌⊎◌, All, vector_of, VectorBelow, IsAt, InOrder, IsPlain, IsStraight, IsSimplified, IsKeptStar, IsKeptRaw, AreSimplified, Star, star_of, IsStar, RawStars, sloop_of, raw_of, is-at_map, map-is_at, is-at_within, is-at_get, star-well_formed, Pieces, IsSimple, AreSimple, IsDropped, ArePiecesOf}
use Rattle.law_geometry.specs.sphere.Stars.{Star as PlainStar}
use Rattle.nef_spair.proofs.Places.{others-from, others-all, others-in_order, all-at}
use Rattle.nef_space.proofs.Lists.{all-of}

-- ---- stars that have been simplified
module _ (r q : RawStars) (w : AreSimple r.stars q.stars) where
  lengths : {A B : Type 0} (f : A → B) (xs : List A) → length (map f xs) ≡ length xs
  lengths f [] = refl
  lengths f (x ∷ xs) = ap suc (lengths f xs)

  pub kept-raw : q.mark ≡ r.mark → q.sloop ≡ r.sloop → q.ground ≡ r.ground → IsKeptRaw (raw_of r) (raw_of q)
  kept-raw mark sloop ground = record {
    mark = mark;
    stars = record {
      as_many = lengths star_of q.stars ∙ w.as_many ∙ sym (lengths star_of r.stars);
      kept = λ k t s a b.
          let u = is-at_map star_of r.stars k t a in let v = is-at_map star_of q.stars k s b in
          subst (λ (x : PlainStar). IsKeptStar x s) u.2 (subst (λ (x : PlainStar). IsKeptStar (star_of u.0) x) v.2 (one k u.0 v.0 u.1 v.1));
    };
    sloop = ap (option_map sloop_of) sloop;
    same_ground = ground;
  }
    where
      one : (k : ℕ) (t s : Star) → IsAt r.stars k t → IsAt q.stars k s → IsKeptStar (star_of t) (star_of s)
      one k t s a b = let i = w.each k t s a b in record { star = star-well_formed s i.star; axis = ap vector_of i.kept.axis; mark = i.kept.mark; labels = i.kept.labels }

  simple-at : (k : ℕ) (s : Star) → IsAt q.stars k s → IsSimple (get_or r.stars k s) s
  simple-at k s a = w.each k (get_or r.stars k s) s (is-at_get r.stars k s (omega (arith, is-at_within q.stars k s a, w.as_many))) a

  pub all-stars : All IsStar q.stars
  all-stars = all-of IsStar q.stars (λ k s a. let i = simple-at k s a in i.star)

  pub all-simplified : AreSimplified (map star_of q.stars)
  all-simplified k t a = let s = is-at_map star_of q.stars k t a in subst IsSimplified s.2 (let i = simple-at k s.0 s.1 in i.simplified)

-- ---- the map that is made of the pieces
pub first-same : (t : PlainStar) (s u : IsStraight t) → s.first ≡ u.first
first-same t s u = let e : s.first ∷ s.second ∷ [] ≡ u.first ∷ u.second ∷ [] = sym s.two_rays ∙ u.two_rays in cc

module _ (q : RawStars) (p : Pieces) (pieces : ArePiecesOf q p) where
  abbrev K : List PlainStar
  K = map star_of p.kept

  from-raw : (k : ℕ) (t : Star) → IsAt p.kept k t → (j : ℕ) × IsAt q.stars j t × (IsDropped t → ⊥)
  from-raw = others-from IsDropped q.stars p.kept pieces.kept

  pub kept-stars : All IsStar q.stars → All IsStar p.kept
  kept-stars all = all-of IsStar p.kept (λ k t a. let f = from-raw k t a in all-at IsStar q.stars all f.0 t f.1)

  pub plain-from : (k : ℕ) (t : PlainStar) → IsAt K k t → (j : ℕ) × IsAt (map star_of q.stars) j t
  plain-from k t a = let u = is-at_map star_of p.kept k t a in let f = from-raw k u.0 u.1 in (f.0, subst (IsAt (map star_of q.stars) f.0) u.2 (map-is_at star_of q.stars f.0 u.0 f.1))

  pub plain-needed : (k : ℕ) (t : PlainStar) → IsAt K k t → IsPlain t ⊎ IsStraight t → ⊥
  plain-needed k t a d = let u = is-at_map star_of p.kept k t a in let f = from-raw k u.0 u.1 in f.2 (subst (λ (x : PlainStar). IsPlain x ⊎ IsStraight x) (sym u.2) d)

  pub plain-all : (j : ℕ) (t : PlainStar) → IsAt (map star_of q.stars) j t → IsPlain t ⊎ IsStraight t ⊎ ((k : ℕ) × IsAt K k t)
  plain-all j t a =
      let u = is-at_map star_of q.stars j t a in
      subst (λ (x : PlainStar). IsPlain x ⊎ IsStraight x ⊎ ((k : ℕ) × IsAt K k x)) u.2
      (elim (others-all IsDropped q.stars p.kept pieces.kept j u.0 u.1) [
        | inl d ↦ elim d [ inl x ↦ inl x | inr x ↦ inr (inl x) ]
        | inr f ↦ inr (inr (f.0, map-is_at star_of p.kept f.0 u.0 f.1))
      ])

  pub plain-ordered : InOrder (λ (t u : PlainStar). VectorBelow t.axis u.axis) (map star_of q.stars) → InOrder (λ (t u : PlainStar). VectorBelow t.axis u.axis) K
  plain-ordered o i k x y l a b =
      let u = is-at_map star_of p.kept i x a in let v = is-at_map star_of p.kept k y b in
      let f = others-in_order IsDropped q.stars p.kept pieces.kept i k u.0 v.0 l u.1 v.1 in
      let below = o f.0 f.1 (star_of u.0) (star_of v.0) f.2 (map-is_at star_of q.stars f.0 u.0 f.3) (map-is_at star_of q.stars f.1 v.0 f.4) in
      subst (λ (z : PlainStar). VectorBelow x.axis z.axis) v.2 (subst (λ (z : PlainStar). VectorBelow z.axis (vector_of v.0.axis)) u.2 below)
