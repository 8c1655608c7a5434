-- The stars of a map's svertices, one after another.
use Rattle.nef_stopo.proofs.Prelude.{◌≡◌, ℕ, ◌+◌, ◌<◌, List, [], ◌∷◌, ◌++◌, length, get_or, sym, ap, subst, ◌∙◌, inl, inr, length_push, svertex_limit, IsAtMost, vector_of, IsAt, is-at_one, Topology, IsRemarked, IsRemarkedAt, Star, star_of, IsStar, SVertex, SphereMap, svertex_of, map_of, IsSphereMap, IsNeighbourhood, map-is_at, is-at_get, star-well_formed, is-at_more, AreRemarked}

pub at-read : {A : Type 0} (rs ss : List A) (i : ℕ) (x : A) → rs ≡ ss → i < length rs → x ≡ get_or rs i x → IsAt ss i x
at-read {A} rs ss i x e within is = subst (λ (l : List A). IsAt l i x) e (subst (IsAt rs i) (sym is) (is-at_get rs i x within))

pub svertex-small : (m : SphereMap) → IsSphereMap m → (i : ℕ) (v : SVertex) → IsAt m.svertices i v → IsAtMost svertex_limit (vector_of v.dir)
svertex-small m S i v a = S.small.svertices i (svertex_of v) (map-is_at svertex_of m.svertices i v a)

pub remarked-at : (k : Topology) (m : SphereMap) (v : SVertex) (t u : Star) → IsStar t → t.axis ≡ v.dir → IsNeighbourhood (star_of t) (map_of m) (vector_of v.dir) → IsRemarked k (star_of t) (star_of u)
    → IsRemarkedAt k (map_of m) (vector_of v.dir) (star_of u)
remarked-at k m v t u T e N R = record { star = star_of t; axis = ap vector_of e; well_formed = star-well_formed t T; shows = N.shows; remarked = R }

pub remarked-more : (k : Topology) (m : SphereMap) (n : ℕ) (us vs : List Star) (v : SVertex) (u : Star) → AreRemarked k m n us → IsAt m.svertices n v → vs ≡ us ++ u ∷ []
    → IsStar u → IsRemarkedAt k (map_of m) (vector_of v.dir) (star_of u) → AreRemarked k m (n + 1) vs
remarked-more k m n us vs v u M a e U R = subst (AreRemarked k m (n + 1)) (sym e) (record {
  as_many = length_push us u ∙ ap (λ (i : ℕ). i + 1) M.as_many;
  stars = λ i w x b h. elim (is-at_more us u i x h) [ inl o ↦ M.stars i w x b o | inr o ↦ here i w x (o.0 ∙ M.as_many) o.1 b ];
})
  where
    here : (i : ℕ) (w : SVertex) (x : Star) → i ≡ n → u ≡ x → IsAt m.svertices i w → IsStar x × IsRemarkedAt k (map_of m) (vector_of w.dir) (star_of x)
    here i w x f g b =
        let same = is-at_one m.svertices n v w a (subst (λ (j : ℕ). IsAt m.svertices j w) f b) in
        subst (λ (y : Star). IsStar y × IsRemarkedAt k (map_of m) (vector_of w.dir) (star_of y)) g
        (U, subst (λ (y : SVertex). IsRemarkedAt k (map_of m) (vector_of y.dir) (star_of u)) same R)
