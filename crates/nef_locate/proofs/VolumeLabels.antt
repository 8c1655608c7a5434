-- A point that has a side has the side's label.
use Rattle.nef_locate.proofs.Prelude.{◌≡◌, ℕ, arith, ap, sym, ◌∙◌, subst, ints, sign-plus, HasLabel, Germ, FlatDim, SpacePoint, SamePoint, toward, Set, SameDirection, dot, opposite, up, Label, point-toward, label_of, Germ-unique, Germ-same, IsAt, item_normal, item_pos, item_mark, item_neg, seen, Side, HasSide, by_side, is-at_one, bounds-sees, is-at_map, IsSmall, Vertex as PlainVertex, Spot, at_vertex, on_edge, in_facet, IsSpot, IsSkeletonPoint, IsAbove, HasVolumeSide, from_opposite, opposites-same, facet-at, facet-of, spot-toward, free-way, free-flat, Complex, vertex_of, complex_of, ShowsSet, vector-same, dir-self, direction-left}
use Rattle.nef_smap.proofs.Upward.{normal-ahead}
use Rattle.nef_locate.proofs.Cones.{corner-labels}
use Rattle.nef_space.proofs.Elementary.{same-itself}

module _ (s : Set) (c : Complex) (S : ShowsSet s c) where
  -- off the skeleton all directions are flat
  pub volume-flat : (y : SpacePoint) → (IsSkeletonPoint (complex_of c) y → ⊥) → FlatDim s y 3
  volume-flat y off = free-flat s (complex_of c) S.shows (facet-at s (complex_of c) S.shows) (facet-of s (complex_of c) S.shows) y off

  -- the maps of the vertices are those of the program, whose numbers are small
  small : (i : ℕ) (v : PlainVertex) → IsAt (complex_of c).vertices i v → IsSmall v.map
  small i v a =
      let u = is-at_map vertex_of c.vertices i v a in
      subst (λ (w : PlainVertex). IsSmall w.map) u.2 (S.maps i u.0 u.1).sphere_map.small

  module _ (i : ℕ) (o : Side) (l : Label) (v : PlainVertex) (a : IsAt (complex_of c).vertices i v) (has : HasSide v.map o l) where
    -- the label above the point where the ray ends
    above : (z : SpacePoint) (t : Spot) → IsSpot (complex_of c) t z → IsAbove (complex_of c) z t (record { vertex = i; side = o }) → Germ s z up l
    above z (at_vertex k) on (u, b, e, sees) =
        let f = is-at_one (complex_of c).vertices k v u (subst (λ (j : ℕ). IsAt (complex_of c).vertices j v) e a) b in
        let h = subst (λ (w : PlainVertex). HasSide w.map o l) f has in
        spot-toward s (complex_of c) S.shows (facet-at s (complex_of c) S.shows) (facet-of s (complex_of c) S.shows) (at_vertex k) z on up l
        (u, b, seen (record { side = o; has = h; sees = sees }))
    above z (on_edge k) on (g, u, d, b, e, bounds) =
        let f = is-at_one (complex_of c).vertices g.low v u (subst (λ (j : ℕ). IsAt (complex_of c).vertices j v) e a) b in
        let h = subst (λ (w : PlainVertex). HasSide w.map o l) f has in
        let near = bounds-sees u.map (S.shows.cones g.low u b).valid.shaped g.low_svertex up o bounds in
        spot-toward s (complex_of c) S.shows (facet-at s (complex_of c) S.shows) (facet-of s (complex_of c) S.shows) (on_edge k) z on up l
        (g, u, d, b, (near.0, λ m q. seen (record { side = o; has = h; sees = near.1 m q })))
    above z (in_facet j) on (k, H, e, f) =
        let h = subst (λ (p : Side). HasSide v.map p l) f has in
        let b = subst (λ (q : ℕ). IsAt (complex_of c).vertices q v) e a in
        let x = h.0 in
        let N = (S.shows.cones i v a).valid.shaped.normals k.item x h.1 in
        let g = (corner-labels s (complex_of c) S.shows z k v x H (record { vertex = b; item = h.1 })).1 up in
        let p = sign-plus (dot (item_normal x) up) (normal-ahead (item_normal x) N ((small i v a).normals k.item x h.1)) in
        subst (Germ s z up) (ap (by_side (item_pos x) (item_mark x) (item_neg x)) p ∙ h.2) g

    pub side-label : (y : SpacePoint) → HasVolumeSide (complex_of c) y (record { vertex = i; side = o }) → HasLabel s y l
    side-label y (off, R) =
        let z = R.place in
        let m = label_of s y in
        let apart : SamePoint y z → ⊥ = λ e. direction-left (toward y z) (opposite up) R.ahead (point-toward y z e) in
        let g = free-way s (complex_of c) S.shows (facet-at s (complex_of c) S.shows) (facet-of s (complex_of c) S.shows) y z m.0 off apart R.first m.1 in
        let h = Germ-same s z z up (toward z y) l (same-itself z) upward (above z R.spot R.is_spot R.above) in
        subst (HasLabel s y) (Germ-unique s z (toward z y) m.0 l g h) m.1
      where
        upward : SameDirection up (toward R.place y)
        upward =
            let d = toward y R.place in let e = toward R.place y in
            let turned : opposite e ≡ d = vector-same (opposite e) d (omega (arith, ints)) (omega (arith, ints)) (omega (arith, ints)) in
            let back = from_opposite d e (subst (SameDirection d) (sym turned) (dir-self d (direction-left d (opposite up) R.ahead))) in
            opposites-same d up e (from_opposite d up R.ahead) back
