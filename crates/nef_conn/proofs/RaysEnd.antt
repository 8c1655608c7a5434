-- From a point of the frame with three flat directions the ray down ends at a skeleton point, above which some side lies.
use Rattle.nef_conn.proofs.Prelude.{◌≡◌, ℕ, ◌+◌, ◌≤◌, ℤ, pos, ◌+ℤ◌, ◌-ℤ◌, ◌*ℤ◌, ◌<ℤ◌, arith, refl, ◌∙◌, ⊎_elim, ◌∷◌, subst, [], ints, ring, at, num, ◌⊕◌, ◌⊖◌, ◌⊗◌, FlatDim, SpacePoint, form_at, InFrame, toward, IsAhead, IsBetween, Set, Vector, opposite, blend, dot, cross, IsZero, IsDirection, SameDirection, up, plane_axis, Label, carriers, flat-germ, FlatDim-by_germs, between-turned, label_of, ahead, joined-germs, steep, signs-same, same-point_sym, forms, BoundsSector, IsAt, MapVertex, Arc, Item, arc_item, item_normal, item_pos, IsFree, Side, pos_item, HasSide, SeenAs, Shaped, at-arc, Beside, same_way, other_way, beside, axes-forms, on-level, amount, far-keeps, kept-not_opposite, bounded, unrayed-ahead, normal-is, Vertex, Complex, Corner, IsCorner, Shows, item_plane, IsVertexPoint, IsEdgePoint, IsFacetPoint, Spot, at_vertex, on_edge, in_facet, IsSpot, IsSkeletonPoint, HasCorner, VertexSide, HasSideLabel, IsAbove, RayDown, IsFlatIn, through-at, ahead-back, weight-positive, normal-scaled, through-level, axis-in, facet-of, facets-complete, facet-point, way-ends, skeleton-not_flat, skeleton-or_flat, IsEvenAfter, IsUpright, across, facet-at, edge-ways, tied-low, tied-turn, seen-free, ahead-cells, dim-cell, IsTied, tied-both, tied-ahead, tied-ray, RaysEnd, opposite-twice, inl, inr, dir-self}
use Rattle.nef_conn.proofs.AtSides.{side-toward}
use Rattle.nef_conn.proofs.FirstMet.{all-flat}
use Rattle.law_geometry.proofs.near.Same.{dim-same}

-- what is tied is as flat
pub tied-dim : (s : Set) (p q : SpacePoint) (k : ℕ) → IsTied s p q → FlatDim s p k → FlatDim s q k
tied-dim s p q k t = FlatDim-by_germs s s p q (joined-germs s p q t.0) k

-- a way that is free, up to its end that is free too, is free where it begins
pub free-toward : (s : Set) (y b : SpacePoint) → IsDirection (toward y b) → ((r : SpacePoint) → IsBetween y r b → FlatDim s r 3) → FlatDim s b 3 → FlatDim s (ahead s y (toward y b)) 3
free-toward s y b some free three = tied-dim s b (ahead s y (toward y b)) 3 (tied-ray s 3 y b (toward y b) (dir-self (toward y b) some) even) three
  where
    even : IsEvenAfter s 3 y b
    even r (inl m) = free r m
    even r (inr e) = dim-same s b r 3 (same-point_sym r b e) three

module _ (s : Set) (C : Complex) (S : Shows s C) where
  -- some side sees a direction toward which three directions are flat
  pub seen-toward : (i : ℕ) (v : Vertex) (a : IsAt C.vertices i v) (d : Vector) → FlatDim s (ahead s v.point d) 3 → (l : Label) × SeenAs v.map d l
  seen-toward i v a d f =
      let q = ahead s v.point d in
      let l = label_of s q in
      (l.0, side-toward s C S i v a d f l.0 (λ e. flat-germ s q e l.0 (all-flat s q f e) l.1))

  -- what is met below a free way has three flat directions above it
  pub free-above : (p z : SpacePoint) → IsAhead p (opposite up) z → FlatDim s p 3 → ((q : SpacePoint) → IsBetween p q z → IsSkeletonPoint C q → ⊥) → FlatDim s (ahead s z up) 3
  free-above p z on f clear =
      let back = subst (λ (r : Vector). SameDirection (toward z p) r) (opposite-twice up) (ahead-back p z (opposite up) on) in
      let even : IsEvenAfter s 3 z p = λ r o. ⊎_elim
      (λ b. ⊎_elim (λ g. g) (λ k. absurd (clear r (between-turned z p r b) k)) (skeleton-or_flat s C S (facet-at s C S) (facet-of s C S) r))
      (λ e. dim-same s p r 3 (same-point_sym r p e) f) o in
      tied-dim s p (ahead s z up) 3 (tied-ray s 3 z p up back even) f

  module _ (upright : IsUpright C) where
    -- ---- above an edge
    -- where a direction close to a svertex toward up is free, up lies in a sector of the svertex, and a side bounds it
    module _ (i : ℕ) (v : Vertex) (a : IsAt C.vertices i v) (j : ℕ) (u : MapVertex) (b : IsAt v.map.svertices j u) where
      V : Shaped v.map
      V = (S.cones i v a).valid.shaped

      module _ (N : ℕ) (large : amount (forms v.map) up ≤ N) (F : IsFree v.map (blend N u.dir 1 up)) where
        abbrev near : Vector
        near = blend N u.dir 1 up

        apart : IsDirection (cross u.dir up)
        apart z = by (beside u.dir near (V.svertex_dirs j u b) F.direction (level z))
          where
            one : (a b c d : ℤ) → a *ℤ d -ℤ b *ℤ c ≡ pos 0 → a *ℤ (pos N *ℤ b +ℤ pos 1 *ℤ d) -ℤ b *ℤ (pos N *ℤ a +ℤ pos 1 *ℤ c) ≡ pos 0
            one a b c d e = ring (pos N ∷ a ∷ b ∷ c ∷ d ∷ []) (at 1 ⊗ (at 0 ⊗ at 2 ⊕ num (pos 1) ⊗ at 4) ⊖ at 2 ⊗ (at 0 ⊗ at 1 ⊕ num (pos 1) ⊗ at 3)) (at 1 ⊗ at 4 ⊖ at 2 ⊗ at 3) tt ∙ e

            level : IsZero (cross u.dir up) → IsZero (cross u.dir near)
            level z = (one u.dir.y u.dir.z up.y up.z z.0, one u.dir.z u.dir.x up.z up.x z.1, one u.dir.x u.dir.y up.x up.y z.2)

            by : Beside u.dir near → ⊥
            by (same_way w) = F.off_svertices j u b w
            by (other_way o) = kept-not_opposite u.dir near (λ g l. far-keeps (forms v.map) u.dir up N large g (axes-forms v.map g l)) o

        high : (k : ℕ) (r : Arc) → IsAt v.map.arcs k r → pos 0 <ℤ dot r.normal up
        high k r h = upright (record { vertex = i; item = k }) v (arc_item r) (record { vertex = a; item = at-arc v.map.arcs v.map.sloop k r h })

        pub sector-side : (o : Side) × (l : Label) × HasSide v.map o l × BoundsSector v.map j up o
        sector-side = bounded v.map V j u b up apart (unrayed-ahead v.map V j u b up apart high)

    -- ---- above what is met
    abbrev Covers : SpacePoint → Spot → Type 0
    Covers z o = (x : VertexSide) × (l : Label) × IsAbove C z o x × HasSideLabel C x l

    module _ (z : SpacePoint) (f : FlatDim s (ahead s z up) 3) where
      over-vertex : (k : ℕ) → IsVertexPoint C k z → Covers z (at_vertex k)
      over-vertex k (v, a, e) =
          let g = dim-cell s (ahead s z up) (ahead s v.point up) 3 (ahead-cells s z v.point up (signs-same (carriers s) z v.point (same-point_sym v.point z e))) f in
          let r = seen-toward k v a up g in (
            record { vertex = k; side = r.1.side },
            r.0,
            (v, a, refl, r.1.sees),
            (v, a, r.1.has),
          )

      over-edge : (k : ℕ) → IsEdgePoint C k z → Covers z (on_edge k)
      over-edge k (e, v, w, a, H, b) =
          let W = edge-ways s C S k e v w a H in
          let d = W.low.dir in
          let N = amount (forms v.map) up + steep (carriers s) up in
          let t = tied-both s (ahead s z up) (ahead s (ahead s v.point d) up) (ahead s v.point (blend N d 1 up)) (tied-ahead s z (ahead s v.point d) up (tied-low s C S k e v w a H z b)) (tied-turn s v.point d up N (omega arith)) in
          let g = seen-toward e.low v H.low (blend N d 1 up) (tied-dim s (ahead s z up) (ahead s v.point (blend N d 1 up)) 3 t f) in
          let r = sector-side e.low v H.low e.low_svertex W.low W.is_low N (omega arith) (seen-free v.map g.1.side (blend N d 1 up) g.1.sees) in (
            record { vertex = e.low; side = r.0 },
            r.1,
            (e, v, a, H.low, refl, r.3),
            (v, H.low, r.2),
          )

      over-facet : (k : Corner) → (v : Vertex) (x : Item) → IsCorner C k v x → IsFacetPoint C v x z → Covers z (in_facet k)
      over-facet k v x c F =
          let n = item_normal x in
          let p = v.point in
          let G = facet-point s C S k v x z c F in
          let V = (S.cones k.vertex v c.vertex).valid.shaped in
          let flat : IsFlatIn s (item_plane v x) z = (G.dim, λ d. let a = through-level n d p in let b = G.flat d in (λ g. a.0 (b.0 g), λ o. b.1 (a.1 o))) in
          let on : form_at (item_plane v x) z ≡ pos 0 = through-at n p z ∙ on-level v.map x (toward p z) F.on_item in
          let H = facets-complete s C S (item_plane v x) z (normal-scaled n (pos p.w) (weight-positive p) (V.normals k.item x c.item)) on flat in
          over-corner H.0 H.1
        where
          over-corner : (j : Corner) → HasCorner C z j → Covers z (in_facet k)
          over-corner j H =
              let n = item_normal H.item in
              let p = H.vertex.point in
              let G = facet-point s C S H.beside H.vertex H.item z H.is_beside H.facet_point in
              let some = normal-is (S.cones H.beside.vertex H.vertex H.is_beside.vertex).valid.shaped H.beside.item H.item H.is_beside.item in
              let flat : IsFlatIn s (item_plane H.vertex H.item) z = (G.dim, λ d. let a = through-level n d p in let b = G.flat d in (λ g. a.0 (b.0 g), λ o. b.1 (a.1 o))) in
              let on : form_at (item_plane H.vertex H.item) z ≡ pos 0 = through-at n p z ∙ on-level H.vertex.map H.item (toward p z) H.facet_point.on_item in
              let A = across s C S (item_plane H.vertex H.item) z on flat (plane_axis n) ((through-level n (plane_axis n) p).0 (axis-in n some).1) j H.named in (
                record { vertex = j.vertex; side = pos_item j.item },
                item_pos A.item,
                (j, H, refl, refl),
                (A.vertex, A.corner.vertex, (A.item, A.corner.item, refl)),
              )

      pub covered : (o : Spot) → IsSpot C o z → Covers z o
      covered (at_vertex k) i = over-vertex k i
      covered (on_edge k) i = over-edge k i
      covered (in_facet k) (v, x, c, F) = over-facet k v x c F

    -- ---- the end of the ray down
    pub ray-down : (p : SpacePoint) → InFrame p → FlatDim s p 3 → (x : VertexSide) × RayDown C p x
    ray-down p i f =
        let down = opposite up in
        let W = way-ends s C S (facet-at s C S) (facet-of s C S) p down (λ z. let e = z.2 in omega (arith, ints)) i (λ o. skeleton-not_flat s C S (facet-at s C S) (facet-of s C S) p o f) in
        let K = covered W.place (free-above p W.place W.ahead f W.clear) W.spot W.is_spot in (
          K.0,
          record { place = W.place; spot = W.spot; ahead = W.ahead; is_spot = W.is_spot; first = W.clear; above = K.2; label = K.1; has = K.3 },
        )

pub rays-end : RaysEnd
rays-end s C p S upright i f = ray-down s C S upright p i f
