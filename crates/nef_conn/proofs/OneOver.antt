-- Sides above one place, or above points of one edge or one facet, are linked.
use Rattle.nef_conn.proofs.Prelude.{◌≡◌, ℕ, ◌≤◌, arith, ap, sym, ◌∙◌, ◌⊎◌, inl, inr, ⊎_elim, List, subst, sign, Chained, Flat, FlatDim, Joined, IsEven, SpacePoint, SamePoint, toward, IsBetween, Set, Vector, blend, dot, cross, opposite, IsZero, IsDirection, IsNormal, SameDirection, zero_vector, up, carriers, FlatDim-one, Flat-by_germs, between-turned, between-inner, ahead, even-germs, signs-same, same-point_sym, toward-point, between-same, same-nought, forms, SameSigns, IsAt, pos_item, Beside, same_way, other_way, beside, normals-not_opposite, amount, far-keeps, far-level, is-at_one, Vertex, Edge, Complex, HasEnds, Shows, VertexSide, edge-points, edge-way, ahead-back, between-way, between-cases, same-point_trans, VolumeLink, edge-ways, normal-direction, flat_dim-of, facet-near, joined-even, tied-turned, even-cell, AreLinkedWhereJoined, joined-both, nought-or, zero-decided, SameDirection-turned, SameDirection-trans, dir-self, dir-signs, opposite-turned, opposite-way, direction-left}
use Rattle.nef_conn.proofs.OneNamed.{one-vertex}
use Rattle.nef_conn.proofs.SameRay.{on-ray}
use Rattle.nef_conn.proofs.Hits.{OverVertex, OverEdge, OverFacet, Over, over-item, side-is}
use Rattle.nef_conn.proofs.Triangles.{half-to}
use Rattle.nef_conn.proofs.RaysEnd.{tied-dim}
use Rattle.nef_conn.proofs.Touch.{Seer, bound, same-seers, no-way}
use Rattle.law_geometry.proofs.near.Normals.{toward-normal}
use Rattle.law_geometry.proofs.near.Same.{one-not_zero, dim-same}
use Rattle.nef_space.proofs.Elementary.{same-itself}
use Rattle.law_geometry.proofs.complex.Edges.{inner-dim}

-- ---- directions close to two vectors of one way
pub ways-same : (gs : List Vector) (d e f : Vector) (k l : ℕ) → SameDirection d e → amount gs f ≤ k → amount gs f ≤ l → SameSigns gs (blend k d 1 f) (blend l e 1 f)
ways-same gs d e f k l w h i g m = ⊎_elim
    (λ z. far-level gs e f l i g (same-nought (dot g d) (dot g e) (dir-signs d e g (direction-left d e w) w) z) ∙ sym (far-level gs d f k h g z))
    (λ n. far-keeps gs e f l i g m (λ z. n (same-nought (dot g e) (dot g d) (sym (dir-signs d e g (direction-left d e w) w)) z)) ∙ dir-signs d e g (direction-left d e w) w ∙ sym (far-keeps gs d f k h g m n))
    (nought-or (dot g d))

-- ---- the lower ends of two edges on one line
module _ (s : Set) (v w z v' w' z' : SpacePoint) (b : IsBetween v z w) (b' : IsBetween v' z' w') (same : SameDirection (toward v w) (toward v' w'))
    (all : (r : SpacePoint) → IsBetween v r w → FlatDim s r 1) (all' : (r : SpacePoint) → IsBetween v' r w' → FlatDim s r 1) (zero : FlatDim s v 0) (zero' : FlatDim s v' 0) where
  to-low : SameDirection (toward z v) (opposite (toward v w))
  to-low = ahead-back v z (toward v w) (between-way v z w b)

  to-low' : SameDirection (toward z' v') (opposite (toward v w))
  to-low' = ahead-back v' z' (toward v w) (SameDirection-trans (toward v' z') (toward v' w') (toward v w) (between-way v' z' w' b') (SameDirection-turned (toward v w) (toward v' w') same))

  between-low' : (r : SpacePoint) → IsBetween z' r v' → FlatDim s r 1
  between-low' r c = all' r (between-inner v' z' w' r b' (between-turned z' v' r c))

  between-low : (r : SpacePoint) → IsBetween z r v → FlatDim s r 1
  between-low r c = all r (between-inner v z w r b (between-turned z v r c))

  -- where z comes first along the line
  pub later-low : SameDirection (toward z z') (toward v w) → ((r : SpacePoint) → IsBetween z r z' → FlatDim s r 1) → SamePoint v v'
  later-low to even = by (on-ray z' v v' (SameDirection-trans (toward z' v) (opposite (toward v w)) (toward z' v') back (SameDirection-turned (toward z' v') (opposite (toward v w)) to-low')))
    where
      first : IsBetween v z z'
      first = SameDirection-trans (toward v z) (toward v w) (toward z z') (between-way v z w b) (SameDirection-turned (toward z z') (toward v w) to)

      back : SameDirection (toward z' v) (opposite (toward v w))
      back = ahead-back v z' (toward v w) (SameDirection-trans (toward v z') (toward v z) (toward v w) (SameDirection-turned (toward v z) (toward v z') (between-way v z z' first)) (between-way v z w b))

      by : IsBetween z' v v' ⊎ (SamePoint v v' ⊎ IsBetween z' v' v) → SamePoint v v'
      by (inl c) = absurd (one-not_zero s v (between-low' v c) zero)
      by (inr (inl e)) = e
      by (inr (inr c)) = ⊎_elim
          (λ d. absurd (one-not_zero s v' (even v' (between-turned z' z v' d)) zero'))
          (λ o. ⊎_elim (λ e. absurd (one-not_zero s z (all z b) (dim-same s v' z 0 e zero'))) (λ d. absurd (one-not_zero s v' (between-low v' d) zero')) o)
          (between-cases z' z v v' (between-turned v z' z first) c)

  pub same-low : SamePoint z z' → SamePoint v v'
  same-low e = by (on-ray z' v v' (SameDirection-trans (toward z' v) (opposite (toward v w)) (toward z' v') back (SameDirection-turned (toward z' v') (opposite (toward v w)) to-low')))
    where
      moved : IsBetween v z' w
      moved = between-same v z w v z' w (same-itself v) e (same-itself w) b

      back : SameDirection (toward z' v) (opposite (toward v w))
      back = ahead-back v z' (toward v w) (between-way v z' w moved)

      by : IsBetween z' v v' ⊎ (SamePoint v v' ⊎ IsBetween z' v' v) → SamePoint v v'
      by (inl c) = absurd (one-not_zero s v (between-low' v c) zero)
      by (inr (inl f)) = f
      by (inr (inr c)) = absurd (one-not_zero s v' (all v' (between-inner v z' w v' moved (between-turned z' v v' c))) zero')

module _ (s : Set) (C : Complex) (S : Shows s C) where
  -- sides of one vertex, by whatever number and record
  pub seers-linked : (i k : ℕ) (v w : Vertex) (x y : VertexSide) (d e f : Vector) (m n : ℕ) → IsAt C.vertices i v → IsAt C.vertices k w → i ≡ k → SameDirection d e → bound s v f ≤ m → bound s w f ≤ n
      → Seer i v x (blend m d 1 f) → Seer k w y (blend n e 1 f) → Chained (VolumeLink C) x y
  seers-linked i k v w x y d e f m n a b g same h l p q =
      let b' = subst (λ (j : ℕ). IsAt C.vertices j w) (sym g) b in
      let one = is-at_one C.vertices i w v b' a in
      let q' = subst (λ (u : Vertex). Seer i u y (blend n e 1 f)) one (subst (λ (j : ℕ). Seer j w y (blend n e 1 f)) (sym g) q) in
      let l' = subst (λ (u : Vertex). bound s u f ≤ n) one l in
      same-seers s C S i v a x y (blend m d 1 f) (blend n e 1 f) p q' (ways-same (forms v.map) d e f m n same (omega arith) (omega arith))

  pub vertices-over : (z z' : SpacePoint) (x y : VertexSide) → SamePoint z z' → OverVertex s C S z x → OverVertex s C S z' y → Chained (VolumeLink C) x y
  vertices-over z z' x y e (i, v, a, f, T) (k, w, b, g, U) =
      let n = one-vertex s C S i k v w a b (same-point_trans v.point z w.point f (same-point_trans z z' w.point e (same-point_sym w.point z' g))) in
      let b' = subst (λ (j : ℕ). IsAt C.vertices j w) (sym n) b in
      let one = is-at_one C.vertices i w v b' a in
      let q = subst (λ (u : Vertex). Seer i u y (blend U.steps zero_vector 1 up)) one (subst (λ (j : ℕ). Seer j w y (blend U.steps zero_vector 1 up)) (sym n) U.seer) in
      same-seers s C S i v a x y (blend T.steps zero_vector 1 up) (blend U.steps zero_vector 1 up) T.seer q (λ h l. ap sign (ap (λ (r : Vector). dot h r) (no-way U.steps up ∙ sym (no-way T.steps up))))

  -- ---- edges
  edge-zero : (k : ℕ) (e : Edge) (v w : Vertex) → IsAt C.edges k e → HasEnds C e v w → IsNormal (toward v.point w.point)
  edge-zero k e v w a H = toward-normal v.point w.point (S.ordered e.low e.high v w (let E = S.edges.edges k e a in E.upward) H.low H.high)

  pub edges-over : (z z' : SpacePoint) (x y : VertexSide) → IsEven s 1 z z' → OverEdge s C S z x → OverEdge s C S z' y → Chained (VolumeLink C) x y
  edges-over z z' x y even (k, e, v, w, a, H, b, T) (k', e', v', w', a', H', b', U) =
      let W = edge-ways s C S k e v w a H in
      let W' = edge-ways s C S k' e' v' w' a' H' in
      let ways = SameDirection-trans W.low.dir (toward v.point w.point) W'.low.dir (SameDirection-turned (toward v.point w.point) W.low.dir W.onward) (SameDirection-trans (toward v.point w.point) (toward v'.point w'.point) W'.low.dir same W'.onward) in
      seers-linked e.low e'.low v v' x y W.low.dir W'.low.dir up T.steps U.steps H.low H'.low (one-vertex s C S e.low e'.low v v' H.low H'.low low) ways T.large U.large T.seer U.seer
    where
      one : FlatDim s z 1
      one = inner-dim s C k e v w S a H z b

      all : (r : SpacePoint) → IsBetween v.point r w.point → FlatDim s r 1
      all = inner-dim s C k e v w S a H

      all' : (r : SpacePoint) → IsBetween v'.point r w'.point → FlatDim s r 1
      all' = inner-dim s C k' e' v' w' S a' H'

      flat : Flat s z (toward v.point w.point)
      flat = let E = edge-points s C k e v w z S a H b in (E.1 (toward v.point w.point)).1 (edge-way s C k e v w S a H)

      flat' : Flat s z (toward v'.point w'.point)
      flat' =
          let E = edge-points s C k' e' v' w' z' S a' H' b' in
          let f = (E.1 (toward v'.point w'.point)).1 (edge-way s C k' e' v' w' S a' H') in
          let g = even-germs s 1 z z' even in
          Flat-by_germs s s z' z (λ d l. let i = g d l in (i.1, i.0)) (toward v'.point w'.point) f

      parallel : (d f : Vector) → Flat s z d → Flat s z f → IsZero (cross d f)
      parallel d f g h = ⊎_elim (λ i. i) (λ n. absurd (one.1 (d, f, n, g, h))) (zero-decided (cross d f))

      same : SameDirection (toward v.point w.point) (toward v'.point w'.point)
      same = by (beside (toward v.point w.point) (toward v'.point w'.point) (normal-direction (toward v.point w.point) n) (normal-direction (toward v'.point w'.point) n') (parallel (toward v.point w.point) (toward v'.point w'.point) flat flat'))
        where
          n : IsNormal (toward v.point w.point)
          n = edge-zero k e v w a H

          n' : IsNormal (toward v'.point w'.point)
          n' = edge-zero k' e' v' w' a' H'

          by : Beside (toward v.point w.point) (toward v'.point w'.point) → SameDirection (toward v.point w.point) (toward v'.point w'.point)
          by (same_way o) = o
          by (other_way o) = absurd (normals-not_opposite (toward v.point w.point) (toward v'.point w'.point) n n' o)

      back : SameDirection (toward v'.point w'.point) (toward v.point w.point)
      back = SameDirection-turned (toward v.point w.point) (toward v'.point w'.point) same

      low : SamePoint v.point v'.point
      low = ⊎_elim
          (λ o. same-low s v.point w.point z v'.point w'.point z' b b' same all all' (S.vertices e.low v H.low) (S.vertices e'.low v' H'.low) (toward-point z z' o))
          (λ i. by-way i (beside (toward v.point w.point) (toward z z') (normal-direction (toward v.point w.point) (edge-zero k e v w a H)) i (parallel (toward v.point w.point) (toward z z') flat (let h = half-to s z z' i one (λ r c. even r (inr (inl c))) in h.flat))))
          (zero-decided (toward z z'))
        where
          by-way : IsDirection (toward z z') → Beside (toward v.point w.point) (toward z z') → SamePoint v.point v'.point
          by-way i (same_way o) = later-low s v.point w.point z v'.point w'.point z' b b' same all all' (S.vertices e.low v H.low) (S.vertices e'.low v' H'.low) (SameDirection-turned (toward v.point w.point) (toward z z') o) (λ r c. even r (inr (inl c)))
          by-way i (other_way o) = same-point_sym v'.point v.point (later-low s v'.point w'.point z' v.point w.point z b' b back all' all (S.vertices e'.low v' H'.low) (S.vertices e.low v H.low) turned (λ r c. even r (inr (inl (between-turned z' z r c)))))
            where
              turned : SameDirection (toward z' z) (toward v'.point w'.point)
              turned = SameDirection-trans (toward z' z) (opposite (toward z z')) (toward v'.point w'.point) (ahead-back z z' (toward z z') (dir-self (toward z z') i))
                  (SameDirection-trans (opposite (toward z z')) (toward v.point w.point) (toward v'.point w'.point) (opposite-way (toward z z') (toward v.point w.point) (opposite-turned (toward v.point w.point) (toward z z') o)) same)

  -- ---- how flat the set is where sides lie above
  pub vertex-dim : (z : SpacePoint) (x : VertexSide) → OverVertex s C S z x → FlatDim s z 0
  vertex-dim z x (i, v, a, e, T) = dim-same s v.point z 0 e (S.vertices i v a)

  pub edge-dim : (z : SpacePoint) (x : VertexSide) → OverEdge s C S z x → FlatDim s z 1
  edge-dim z x (k, e, v, w, a, H, b, T) = inner-dim s C k e v w S a H z b

  pub facet-dim : (z : SpacePoint) (x : VertexSide) → OverFacet s C S z x → FlatDim s z 2
  facet-dim z x (k, v, i, c, (d, o, t), f, g) = tied-dim s (ahead s v.point d) z 2 (tied-turned s z (ahead s v.point d) t) (let F = facet-near s C S k v i c d o in F.dim)

  -- ---- facets
  module _ (linked : AreLinkedWhereJoined s C) where
    pub facets-over : (z z' : SpacePoint) (x y : VertexSide) → Joined s z z' → OverFacet s C S z x → OverFacet s C S z' y → Chained (VolumeLink C) x y
    facets-over z z' x y J A B = by B
      where
        by : OverFacet s C S z' y → Chained (VolumeLink C) x y
        by (k, v, i, c, (d, o, t), f, g) = side-is y k.vertex (pos_item k.item) f g (λ (r : VertexSide). Chained (VolumeLink C) x r) (over-item s C S linked z x k A (v, i, c, (d, o, joined-both s z z' (ahead s v.point d) J t.0)))

    -- ---- all of them
    dims : (z z' : SpacePoint) (j k l : ℕ) → IsEven s k z z' → FlatDim s z j → FlatDim s z' l → (j ≡ k) × (l ≡ k)
    dims z z' j k l even f g = (FlatDim-one s z j k f (even z (inl (same-itself z))), FlatDim-one s z' l k g (even z' (inr (inr (same-itself z')))))

    -- the sides above two points between which the set is as flat, not just at vertices, are linked
    pub over-one : (k : ℕ) (z z' : SpacePoint) (x y : VertexSide) → IsEven s k z z' → (k ≡ 0 → SamePoint z z') → Over s C S z x → Over s C S z' y → Chained (VolumeLink C) x y
    over-one k z z' x y even none (inl A) (inl B) = let d = dims z z' 0 k 0 even (vertex-dim z x A) (vertex-dim z' y B) in vertices-over z z' x y (none (sym d.0)) A B
    over-one k z z' x y even none (inl A) (inr (inl B)) = let d = dims z z' 0 k 1 even (vertex-dim z x A) (edge-dim z' y B) in absurd (omega arith)
    over-one k z z' x y even none (inl A) (inr (inr B)) = let d = dims z z' 0 k 2 even (vertex-dim z x A) (facet-dim z' y B) in absurd (omega arith)
    over-one k z z' x y even none (inr (inl A)) (inl B) = let d = dims z z' 1 k 0 even (edge-dim z x A) (vertex-dim z' y B) in absurd (omega arith)
    over-one k z z' x y even none (inr (inl A)) (inr (inl B)) = let d = dims z z' 1 k 1 even (edge-dim z x A) (edge-dim z' y B) in edges-over z z' x y (subst (λ (n : ℕ). IsEven s n z z') (sym d.0) even) A B
    over-one k z z' x y even none (inr (inl A)) (inr (inr B)) = let d = dims z z' 1 k 2 even (edge-dim z x A) (facet-dim z' y B) in absurd (omega arith)
    over-one k z z' x y even none (inr (inr A)) (inl B) = let d = dims z z' 2 k 0 even (facet-dim z x A) (vertex-dim z' y B) in absurd (omega arith)
    over-one k z z' x y even none (inr (inr A)) (inr (inl B)) = let d = dims z z' 2 k 1 even (facet-dim z x A) (edge-dim z' y B) in absurd (omega arith)
    over-one k z z' x y even none (inr (inr A)) (inr (inr B)) = facets-over z z' x y (joined-even s k z z' even) A B

    -- and so are those above one place
    pub over-place : (z z' : SpacePoint) (x y : VertexSide) → SamePoint z z' → Over s C S z x → Over s C S z' y → Chained (VolumeLink C) x y
    over-place z z' x y e A B = let k = flat_dim-of s z in over-one k.0 z z' x y (even-cell s k.0 z z' (signs-same (carriers s) z z' e) k.1) (λ n. e) A B
