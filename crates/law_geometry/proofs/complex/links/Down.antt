-- A ray down ties the points below a vertex to those above the point where it ends, and these to a side there.
use Rattle.law_geometry.proofs.complex.links.Prelude.{◌≡◌, ℕ, ◌+◌, arith, sym, ◌∙◌, ⊎_elim, subst, nought, plus, sign-plus, FlatDim, SpacePoint, normal_of, SamePoint, toward, IsBetween, Set, Vector, opposite, blend, dot, SameDirection, up, Label, carriers, ahead, steep, signs-same, same-point_sym, between-turned, between-inner, IsAt, item_normal, item_pos, item_mark, item_neg, HasSide, Sees, normal-is, is-at_one, dir-at, Vertex, Edge, Complex, Corner, HasEnds, Shows, item_plane, IsVertexPoint, IsEdgePoint, Spot, at_vertex, on_edge, in_facet, IsSpot, IsSkeletonPoint, VertexSide, HasSideLabel, IsAbove, between-way, near_point, near-between, facet-point, ahead-back, facet-of, LinkDown, IsUpright, self-pos, SameDirection-turned, SameDirection-trans, direction-left}
use Rattle.law_geometry.proofs.sphere.Sectors.{bounds-sees}
use Rattle.law_geometry.proofs.complex.Skeletons.{FacetAt, skeleton-or_flat}
use Rattle.law_geometry.proofs.complex.links.Ties.{ahead-way, ahead-cells, IsTied, tied-cell, tied-turned, tied-both, tied-ahead, tied-ray}
use Rattle.law_geometry.proofs.complex.links.NearVertex.{tied-off}
use Rattle.law_geometry.proofs.complex.links.EdgeEnds.{edge-ways, tied-low, tied-turn}
use Rattle.law_geometry.proofs.complex.links.Across.{corner-across, through-same}
use Rattle.law_geometry.proofs.complex.links.SidePoints.{at-side}
use Rattle.law_geometry.proofs.complex.links.SideLinks.{JoinsSides, PointTied, pos-point}
use Rattle.law_geometry.proofs.near.Same.{dim-same}

module _ (s : Set) (C : Complex) (S : Shows s C) where
  pub facet-at : FacetAt s C
  facet-at k v x y c F = let p = facet-point s C S k v x y c F in (p.dim, p.flat, p.label, p.sided)

  -- ---- a way without skeleton points ties the points close to both its ends
  module _ (v z : SpacePoint) (d : Vector) (on : SameDirection (toward v z) d) (clear : (q : SpacePoint) → IsBetween v q z → IsSkeletonPoint C q → ⊥) where
    free : (q : SpacePoint) → IsBetween v q z → FlatDim s q 3
    free q b = ⊎_elim (λ f. f) (λ o. absurd (clear q b o)) (skeleton-or_flat s C S facet-at (facet-of s C S) q)

    half-between : IsBetween v (near_point s v z) z
    half-between = near-between s v z (direction-left (toward v z) d on)

    pub tied-free : IsTied s (ahead s v d) (ahead s z (opposite d))
    tied-free =
        let m = near_point s v z in
        let b = half-between in
        let c = between-turned v z m b in
        let low = tied-ray s 3 v m d (SameDirection-trans (toward v m) (toward v z) d (between-way v m z b) on) (λ r o. ⊎_elim (λ e. free r (between-inner v m z r b e)) (λ e. dim-same s m r 3 (same-point_sym r m e) (free m b)) o) in
        let high = tied-ray s 3 z m (opposite d) (SameDirection-trans (toward z m) (toward z v) (opposite d) (between-way z m v c) (ahead-back v z d on))
        (λ r o. ⊎_elim (λ e. free r (between-turned z v r (between-inner z m v r c e))) (λ e. dim-same s m r 3 (same-point_sym r m e) (free m b)) o) in
        tied-both s (ahead s v d) m (ahead s z (opposite d)) (tied-turned s m (ahead s v d) low) high

  -- ---- the points above a skeleton point are tied to the side above it
  module _ (upright : IsUpright C) (y : VertexSide) (l : Label) (has : HasSideLabel C y l) (z : SpacePoint) where
    -- the vertex of the side
    here : (v : Vertex) → IsAt C.vertices y.vertex v → HasSide v.map y.side l
    here v a = subst (λ (u : Vertex). HasSide u.map y.side l) (is-at_one C.vertices y.vertex has.0 v has.1 a) has.2

    by-vertex : (k : ℕ) → IsVertexPoint C k z → IsAbove C z (at_vertex k) y → PointTied s C y (ahead s z up)
    by-vertex k (u, a, e) (v, b, f, sight) =
        let g = subst (λ (r : Vertex). SamePoint r.point z) (is-at_one C.vertices k u v a b) e in
        let c = subst (λ (i : ℕ). IsAt C.vertices i v) (sym f) b in (
          ahead s v.point up,
          at-side s C S y v l c (here v c) up sight,
          tied-cell s (ahead s z up) (ahead s v.point up) (ahead-cells s z v.point up (signs-same (carriers s) z v.point (same-point_sym v.point z g))),
        )

    by-edge : (k : ℕ) → IsEdgePoint C k z → IsAbove C z (on_edge k) y → PointTied s C y (ahead s z up)
    by-edge k (g, u, w, b, G, t) (e, v, a, c, f, bounds) =
        let same = is-at_one C.edges k g e b a in
        let G' = subst (λ (j : Edge). HasEnds C j u w) same G in
        let one = is-at_one C.vertices e.low u v G'.low c in
        let H = subst (λ (j : Vertex). HasEnds C e j w) one G' in
        let W = edge-ways s C S k e v w a H in
        let d = W.low.dir in
        let sight = bounds-sees v.map (S.cones e.low v c).valid.shaped e.low_svertex up y.side bounds in
        let n = sight.0 + steep (carriers s) up in
        let m = subst (λ (i : ℕ). IsAt C.vertices i v) (sym f) c in
        let sees = subst (λ (r : Vector). Sees v.map y.side (blend n r 1 up)) (dir-at v.map.svertices e.low_svertex W.low W.is_low) (sight.1 n (omega arith)) in
        let q = ahead s v.point (blend n d 1 up) in
        let p = ahead s (ahead s v.point d) up in (
          q,
          at-side s C S y v l m (here v m) (blend n d 1 up) sees,
          tied-both s (ahead s z up) p q (tied-ahead s z (ahead s v.point d) up (tied-low s C S k e v w a H z (subst (λ (j : Vertex). IsBetween j.point z w.point) one t))) (tied-turn s v.point d up n (omega arith)),
        )

    by-facet : (j : Corner) → IsAbove C z (in_facet j) y → PointTied s C y (ahead s z up)
    by-facet j (k, H, f, e) =
        let n = item_normal H.item in
        let p = H.vertex.point in
        let F = facet-point s C S H.beside H.vertex H.item z H.is_beside H.facet_point in
        let plane = item_plane H.vertex H.item in
        let some = normal-is (S.cones H.beside.vertex H.vertex H.is_beside.vertex).valid.shaped H.beside.item H.item H.is_beside.item in
        let A = corner-across s C S z k H in
        let high = sign-plus (dot n up) (upright H.beside H.vertex H.item H.is_beside) in
        let turn = tied-off s z n (item_pos H.item) (item_mark H.item) (item_neg H.item) F.sided up n (λ o. let x : plus ≡ nought = sym high ∙ o in cc) (sign-plus (dot n n) (self-pos n some) ∙ sym high) in
        let q = ahead s A.vertex.point A.dir in
        let m = item_normal A.item in
        let way = SameDirection-trans n (normal_of plane) m (through-same n p some) (SameDirection-turned m (normal_of plane) A.same) in
        let P = pos-point s C S k A.vertex A.item A.corner A.dir A.on y f e in (
          P.0,
          P.1,
          tied-both s (ahead s z up) (ahead s z n) P.0 turn
              (tied-both s (ahead s z n) (ahead s q n) P.0 (tied-ahead s z q n A.tied)
              (tied-both s (ahead s q n) (ahead s q m) P.0 (tied-cell s (ahead s q n) (ahead s q m) (ahead-way s q n m way)) P.2)),
        )

    pub above-tied : (o : Spot) → IsSpot C o z → IsAbove C z o y → PointTied s C y (ahead s z up)
    above-tied (at_vertex k) i a = by-vertex k i a
    above-tied (on_edge k) i a = by-edge k i a
    above-tied (in_facet j) i a = by-facet j a

  -- ---- the link down a ray
  pub joins-down : IsUpright C → (x y : VertexSide) → LinkDown C x y → JoinsSides s C x y
  joins-down upright x y L =
      let v = L.vertex in
      let R = L.down in
      let z = R.place in
      let t = tied-free v.point z (opposite up) R.ahead R.first in
      let P = above-tied upright y R.label R.has z R.spot R.is_spot R.above in (
        ahead s v.point (opposite up),
        P.0,
        at-side s C S x v L.label L.is_vertex L.has (opposite up) L.sees,
        P.1,
        (tied-both s (ahead s v.point (opposite up)) (ahead s z up) P.0 t P.2).0,
      )
