-- The skeleton points of a complex that shows a set are those where not all directions are flat; the labels between them are theirs.
use Rattle.law_geometry.proofs.complex.Prelude.{◌≡◌, ℕ, zero, suc, ◌<◌, ℤ, pos, ◌+ℤ◌, ◌*ℤ◌, arith, refl, ap, sym, ◌∙◌, ◌⊎◌, inl, inr, ⊎_elim, ◌↔◌, List, ◌∷◌, subst, [], ints, Sign, minus, nought, plus, sign, sign-plus, sign-minus, by_order, ring, at, num, ◌⊕◌, ◌⊗◌, HasLabel, Germ, Flat, FlatDim, IsEven, SpacePoint, SamePoint, InFrame, toward, IsAhead, IsBetween, Set, Holds, Vector, vector, dot, IsDirection, Label, Out, In, carriers, IsOnSegment, IsFlatBelow, Drop, SameGerms, label_of, InFrame-decided, Germ-unique, label-one, Label-cells, germ-toward, signs-same, same-point_sym, germs-by_cell, FlatDim-one, even-germs, labels-by_germs, span-3, flat_dim-of, between-turned, between-inner, start-close, start-toward, even-until, beyond, halfway, halfway-between, halfway-outside, leads, leads-somewhere, way_factor, way_factor-some, reach_all, toward-point, point-toward, factor-same, by_side, IsAt, MapVertex, Item, item_normal, item_pos, item_mark, item_neg, dir_of, MapLabel, NearLabel, label-exists, near-exists, is-at_one, dir-at, Vertex, Edge, Complex, Corner, IsCorner, Shows, IsFacetPoint, Spot, at_vertex, on_edge, in_facet, IsSpot, IsSkeletonPoint, SameDirection-trans, direction-left}
use Rattle.law_geometry.specs.complex.Belongs.{SpotMark, ItemLabel, Towards, Belongs, on_skeleton, off_skeleton}
use Rattle.law_geometry.proofs.complex.Cones.{label-germ}
use Rattle.law_geometry.proofs.complex.Ways.{between-way}
use Rattle.law_geometry.proofs.complex.Edges.{near_point, near-between, edge-points, corner-one}
use Rattle.law_geometry.proofs.complex.Joining.{edges-complete}
use Rattle.nef_space.proofs.Elementary.{frame-closed}
use Rattle.law_geometry.proofs.near.Same.{dim-same}

-- only listed svertices have a way
pub dir-listed : (vs : List MapVertex) (k : ℕ) → IsDirection (dir_of vs k) → (u : MapVertex) × IsAt vs k u
dir-listed [] k i = absurd (i (refl, refl, refl))
dir-listed (v ∷ vs) zero i = (v, refl)
dir-listed (v ∷ vs) (suc k) i = dir-listed vs k i

-- ---- facets, as far as skeletons need them
-- a facet point has the labels of its item on it and beside it, and just the directions of its plane are flat
abbrev pub FacetAt : Set → Complex → Type 0
FacetAt s C = (k : Corner) (v : Vertex) (x : Item) (y : SpacePoint) → IsCorner C k v x → IsFacetPoint C v x y
    → FlatDim s y 2 × ((d : Vector) → Flat s y d ↔ (dot (item_normal x) d ≡ pos 0)) × HasLabel s y (item_mark x)
    × ((d : Vector) → Germ s y d (by_side (item_pos x) (item_mark x) (item_neg x) (sign (dot (item_normal x) d))))

-- a point with two flat directions is a facet point
abbrev pub FacetOf : Set → Complex → Type 0
FacetOf s C = (y : SpacePoint) → FlatDim s y 2 → (k : Corner) × (v : Vertex) × (x : Item) × IsCorner C k v x × IsFacetPoint C v x y

-- a point outside of the frame lies ahead
pub beyond-ahead : (p : SpacePoint) (d : Vector) → IsDirection d → IsAhead p d (beyond p d)
beyond-ahead p d i = factor-same (toward p (beyond p d)) d (record {
  k = 1;
  l = way_factor p;
  some_k = omega arith;
  some_l = way_factor-some p;
  is_x = each (toward p (beyond p d)).x d.x (ap (λ (v : Vector). v.x) (leads p d));
  is_y = each (toward p (beyond p d)).y d.y (ap (λ (v : Vector). v.y) (leads p d));
  is_z = each (toward p (beyond p d)).z d.z (ap (λ (v : Vector). v.z) (leads p d));
  is_w = ring (pos (way_factor p) ∷ []) (num (pos 1) ⊗ num (pos 0)) (at 0 ⊗ num (pos 0)) tt;
}) (leads-somewhere p d i)
  where
    each : (x e : ℤ) → x ≡ pos (way_factor p) *ℤ e +ℤ pos 0 *ℤ e → pos 1 *ℤ x ≡ pos (way_factor p) *ℤ e
    each x e h = ap (λ r. pos 1 *ℤ r) h ∙ ring (pos (way_factor p) ∷ e ∷ []) (num (pos 1) ⊗ (at 0 ⊗ at 1 ⊕ num (pos 0) ⊗ at 1)) (at 0 ⊗ at 1) tt

module _ (s : Set) (C : Complex) (S : Shows s C) (facet-at : FacetAt s C) (facet-of : FacetOf s C) where
  -- a skeleton point has fewer than three flat directions
  pub spot-dim : (o : Spot) (y : SpacePoint) → IsSpot C o y → (j : ℕ) × (j < 3) × FlatDim s y j
  spot-dim (at_vertex k) y (v, a, e) = (0, omega arith, dim-same s v.point y 0 e (S.vertices k v a))
  spot-dim (on_edge k) y (e, v, w, a, H, b) = (1, omega arith, (edge-points s C k e v w y S a H b).0)
  spot-dim (in_facet k) y (v, x, a, F) = (2, omega arith, (facet-at k v x y a F).0)

  pub skeleton-not_flat : (y : SpacePoint) → IsSkeletonPoint C y → FlatDim s y 3 → ⊥
  skeleton-not_flat y (o, i) f = let d = spot-dim o y i in let e = FlatDim-one s y d.0 3 d.2 f in let l = d.1 in omega arith

  -- and each point with fewer is a skeleton point
  pub skeleton-or_flat : (y : SpacePoint) → FlatDim s y 3 ⊎ IsSkeletonPoint C y
  skeleton-or_flat y = let k = flat_dim-of s y in by k.0 k.1
    where
      by : (k : ℕ) → FlatDim s y k → FlatDim s y 3 ⊎ IsSkeletonPoint C y
      by zero f = let v = S.complete y f in inr (at_vertex v.0, (v.1, v.2, v.3))
      by (suc zero) f = let e = edges-complete s C S y f in inr (on_edge e.0, e.1)
      by (suc (suc zero)) f = let e = facet-of y f in inr (in_facet e.0, (e.1, e.2, e.3, e.4))
      by (suc (suc (suc zero))) f = inl f
      by (suc (suc (suc (suc k)))) f = absurd f.0

  pub free-flat : (y : SpacePoint) → (IsSkeletonPoint C y → ⊥) → FlatDim s y 3
  free-flat y n = ⊎_elim (λ f. f) (λ o. absurd (n o)) (skeleton-or_flat y)

  -- ---- labels of skeleton points
  pub spot-mark : (o : Spot) (y : SpacePoint) → IsSpot C o y → (l : Label) → SpotMark C o l → HasLabel s y l
  spot-mark (at_vertex k) y (v, a, e) l (u, b, m) =
      let f = is-at_one C.vertices k u v b a in
      Label-cells s l v.point y (signs-same (carriers s) v.point y e) (subst (HasLabel s v.point) (ap (λ (r : Vertex). r.map.mark) (sym f) ∙ m) (S.cones k v a).mark)
  spot-mark (on_edge k) y (e, v, w, a, H, b) l (g, c, m) =
      let f = is-at_one C.edges k g e c a in
      subst (HasLabel s y) (ap (λ (r : Edge). r.mark) (sym f) ∙ m) (edge-points s C k e v w y S a H b).2
  spot-mark (in_facet k) y (v, x, a, F) l (u, z, b, m) = subst (HasLabel s y) (ap item_mark (sym (corner-one C k u v z x b a)) ∙ m) (facet-at k v x y a F).2

  pub spot-toward : (o : Spot) (y : SpacePoint) → IsSpot C o y → (d : Vector) (l : Label) → Towards C o d l → Germ s y d l
  spot-toward (at_vertex k) y (v, a, e) d l (u, b, m) =
      let f = is-at_one C.vertices k u v b a in
      (germs-by_cell s v.point y (signs-same (carriers s) v.point y e) d l).0 (label-germ v.map s v.point (S.cones k v a) d l (subst (λ (r : Vertex). MapLabel r.map d l) f m))
  spot-toward (on_edge k) y (e, v, w, a, H, b) d l (g, u, c, q, n) =
      let f = is-at_one C.edges k g e c a in
      let h = is-at_one C.vertices e.low u v (subst (λ (r : Edge). IsAt C.vertices r.low u) f q) H.low in
      ((edge-points s C k e v w y S a H b).3 d l).1 (subst (λ (r : Vertex). NearLabel r.map (dir_of r.map.svertices e.low_svertex) d l) h (subst (λ (r : Edge). NearLabel u.map (dir_of u.map.svertices r.low_svertex) d l) f n))
  spot-toward (in_facet k) y (v, x, a, F) d l (u, z, b, m) = by (subst (λ (r : Item). ItemLabel r d l) (corner-one C k u v z x b a) m)
    where
      side : (t : Sign) → sign (dot (item_normal x) d) ≡ t → (r : Label) → by_side (item_pos x) (item_mark x) (item_neg x) t ≡ r → Germ s y d r
      side t e r f = subst (Germ s y d) (ap (λ q. by_side (item_pos x) (item_mark x) (item_neg x) q) e ∙ f) ((facet-at k v x y a F).3 d)

      by : ItemLabel x d l → Germ s y d l
      by (inl h) = side plus (sign-plus (dot (item_normal x) d) h.0) l h.1
      by (inr (inl h)) = side nought (ap sign h.0) l h.1
      by (inr (inr h)) = side minus (sign-minus (dot (item_normal x) d) h.0) l h.1

  -- there are such labels
  mark-exists : (o : Spot) (y : SpacePoint) → IsSpot C o y → (l : Label) × SpotMark C o l
  mark-exists (at_vertex k) y (v, a, e) = (v.map.mark, (v, a, refl))
  mark-exists (on_edge k) y (e, v, w, a, H, b) = (e.mark, (e, a, refl))
  mark-exists (in_facet k) y (v, x, a, F) = (item_mark x, (v, x, a, refl))

  toward-exists : (o : Spot) (y : SpacePoint) → IsSpot C o y → (d : Vector) → IsDirection d → (l : Label) × Towards C o d l
  toward-exists (at_vertex k) y (v, a, e) d i = let m = label-exists v.map (S.cones k v a).valid d i in (m.0, (v, a, m.1))
  toward-exists (on_edge k) y (e, v, w, a, H, b) d i =
      let E = S.edges.edges k e a in
      let f = is-at_one C.vertices e.low E.low_vertex v E.is_low H.low in
      let u = subst (λ (r : Vertex). IsAt r.map.svertices e.low_svertex E.low_end) f E.leaves in
      let way = subst IsDirection (sym (dir-at v.map.svertices e.low_svertex E.low_end u)) ((S.cones e.low v H.low).valid.shaped.svertex_dirs e.low_svertex E.low_end u) in
      let m = near-exists v.map (S.cones e.low v H.low).valid (dir_of v.map.svertices e.low_svertex) d way in
      (m.0, (e, v, a, H.low, m.1))
  toward-exists (in_facet k) y (v, x, a, F) d i =
      by_order (dot (item_normal x) d) (pos 0)
      (λ l. (item_neg x, (v, x, a, inr (inr (l, refl)))))
      (λ e. (item_mark x, (v, x, a, inr (inl (e, refl)))))
      (λ l. (item_pos x, (v, x, a, inl (l, refl))))

  -- ---- free ways

  -- along a way without skeleton points the label is that of its start, as far as y
  pub free-way : (p y : SpacePoint) (l : Label) → (IsSkeletonPoint C p → ⊥) → (SamePoint p y → ⊥) → ((q : SpacePoint) → IsBetween p q y → IsSkeletonPoint C q → ⊥) → HasLabel s p l → Germ s y (toward y p) l
  free-way p y l off apart clear h =
      let i : IsDirection (toward y p) = λ z. apart (same-point_sym y p (toward-point y p z)) in
      let q = near_point s y p in
      let b = near-between s y p i in
      let c = between-turned y p q b in
      let even : IsEven s 3 p q = λ r on. at-point q c r on in
      let g = (labels-by_germs s p q (even-germs s 3 p q even) l).0 h in
      subst (λ (d : Vector). Germ s y d l) (start-toward (reach_all (carriers s) y) y p) (germ-toward s l y q (start-close (reach_all (carriers s) y) y p) g)
    where
      at-point : (q : SpacePoint) → IsBetween p q y → (r : SpacePoint) → IsOnSegment p r q → FlatDim s r 3
      at-point q c r (inl e) = dim-same s p r 3 (same-point_sym r p e) (free-flat p off)
      at-point q c r (inr (inl b)) = free-flat r (clear r (between-inner p q y r c b))
      at-point q c r (inr (inr e)) = dim-same s q r 3 (same-point_sym r q e) (free-flat q (clear q c))

  -- from a point of the frame off the skeleton every way ends at a skeleton point
  pub record WayDown (p : SpacePoint) (d : Vector) : Type 0 where
    pub place : SpacePoint
    pub spot : Spot
    pub is_spot : IsSpot C spot place
    pub ahead : IsAhead p d place
    pub clear : (q : SpacePoint) → IsBetween p q place → IsSkeletonPoint C q → ⊥

  pub way-ends : (p : SpacePoint) (d : Vector) → IsDirection d → InFrame p → (IsSkeletonPoint C p → ⊥) → WayDown p d
  way-ends p d i inside off = by (even-until s 3 p (beyond p d) (free-flat p off) (let h = (free-flat p off).0 in span-3 s p h.0 h.1 h.2 (toward p (beyond p d)) h.3 h.4 h.5 h.6))
    where
      by : ((r : SpacePoint) → IsBetween p r (beyond p d) → FlatDim s r 3) ⊎ Drop s 3 p (beyond p d) → WayDown p d
      by (inl all) =
          let r = halfway p d in
          let b = halfway-between p d (leads-somewhere p d i) in
          let even : IsEven s 3 p r = λ u on. at-point r b u on in
          absurd (halfway-outside p d i (frame-closed r (in-there r (even-germs s 3 p r even))))
        where
          at-point : (r : SpacePoint) → IsBetween p r (beyond p d) → (u : SpacePoint) → IsOnSegment p u r → FlatDim s u 3
          at-point r b u (inl e) = dim-same s p u 3 (same-point_sym u p e) (free-flat p off)
          at-point r b u (inr (inl c)) = all u (between-inner p r (beyond p d) u b c)
          at-point r b u (inr (inr e)) = dim-same s r u 3 (same-point_sym u r e) (all r b)

          in-there : (r : SpacePoint) → SameGerms s p r → InFrame r
          in-there r same = ⊎_elim (λ j. j) (λ o. absurd ((labels-by_germs s p r same Out).1 o inside)) (InFrame-decided r)
      by (inr c) =
          let x = c.at_place in
          let o = spot-there x c.drops in
          record {
            place = x;
            spot = o.0;
            is_spot = o.1;
            ahead = SameDirection-trans (toward p x) (toward p (beyond p d)) d (between-way p x (beyond p d) c.between) (beyond-ahead p d i);
            clear = λ q b z. skeleton-not_flat q z (c.even_before q b);
          }
        where
          spot-there : (x : SpacePoint) → IsFlatBelow s 3 x → IsSkeletonPoint C x
          spot-there x (j, l, f) = ⊎_elim (λ g. let e = FlatDim-one s x j 3 f g in absurd (omega arith)) (λ o. o) (skeleton-or_flat x)

  -- ---- what belongs to the complex
  abbrev x_way : Vector
  x_way = vector (pos 1) (pos 0) (pos 0)

  pub belongs-holds : (p : SpacePoint) → InFrame p → Belongs C p ↔ Holds s p
  belongs-holds p inside = (there, back)
    where
      there : Belongs C p → Holds s p
      there (on_skeleton o i m) = (spot-mark o p i In m).1
      there (off_skeleton o y v t) =
          let l = label_of s p in
          let apart : SamePoint p y → ⊥ = λ e. skeleton-not_flat y (o, v.spot) (dim-same s p y 3 e (free-flat p v.off)) in
          let g = free-way p y l.0 v.off apart v.clear l.1 in
          (subst (HasLabel s p) (Germ-unique s y (toward y p) l.0 In g (spot-toward o y v.spot (toward y p) In t)) l.1).1

      in-label : Holds s p → HasLabel s p In
      in-label h = (inside, h)

      is-x : IsDirection x_way
      is-x z = let e = z.0 in omega (arith, ints)

      back : Holds s p → Belongs C p
      back h = by (skeleton-or_flat p)
        where
          by : FlatDim s p 3 ⊎ IsSkeletonPoint C p → Belongs C p
          by (inr (o, i)) =
              let m = mark-exists o p i in
              on_skeleton o i (subst (SpotMark C o) (label-one s p m.0 In (spot-mark o p i m.0 m.1) (in-label h)) m.1)
          by (inl f) =
              let off : IsSkeletonPoint C p → ⊥ = λ z. skeleton-not_flat p z f in
              let w = way-ends p x_way is-x inside off in
              let y = w.place in
              let apart : SamePoint p y → ⊥ = λ e. direction-left (toward p y) x_way w.ahead (point-toward p y e) in
              let i : IsDirection (toward y p) = λ z. apart (same-point_sym y p (toward-point y p z)) in
              let t = toward-exists w.spot y w.is_spot (toward y p) i in
              let g = free-way p y In off apart w.clear (in-label h) in
              off_skeleton w.spot y (record { off = off; spot = w.is_spot; clear = w.clear })
              (subst (Towards C w.spot (toward y p)) (Germ-unique s y (toward y p) t.0 In (spot-toward w.spot y w.is_spot (toward y p) t.0 t.1) g) t.1)
