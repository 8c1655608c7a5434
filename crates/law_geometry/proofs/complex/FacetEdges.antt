-- Beside an edge point: the labels of its lower end near the edge are the germs close to it; and turned ways.
use Rattle.law_geometry.proofs.complex.Prelude.{◌≡◌, ℕ, ℤ, pos, ◌-ℤ◌, ◌*ℤ◌, ◌+ℤ◌, ◌<ℤ◌, arith, sym, ◌∙◌, inl, inr, ⊎_elim, ◌∷◌, subst, [], ints, sign, ring, at, num, neg, ◌⊕◌, ◌⊖◌, ◌⊗◌, given, none, follows, by_order, Germ, Flat, FlatDim, SpacePoint, SamePoint, toward, IsBetween, Set, Vector, opposite, blend, dot, cross, triple, IsZero, IsDirection, IsNormal, SameDirection, Label, SameGerms, FlatDim-by_germs, FlatDim-one, FlatCone-from_flat, near-of_flat, factor-same, forms, IsAt, MapVertex, Arc, Item, arc_item, sloop_item, items, item_normal, dir_of, OnItem, NearLabel, Valid, normal-direction, dot-comb, same-plus, same-minus, amount, far-keeps, is-at_one, dir-at, arc-at, direction-around, turn-same, level-same, Vertex, Edge, Complex, HasEnds, Shows, IsArcOnSide, vector-same, SameDirection-turned, SameDirection-trans, dir-self, parallel-in_plane, opposite-same, direction-left, direction-right}
use Rattle.law_geometry.proofs.complex.Cones.{FlatAre}
use Rattle.law_geometry.proofs.complex.Edges.{edge-points, near_point, near-germs}
use Rattle.law_geometry.proofs.complex.FacetSides.{IsSided}
use Rattle.law_geometry.proofs.complex.FacetCorners.{near-near, item-sided, item-at}
use Rattle.law_geometry.proofs.complex.FacetArcs.{source-met, target-met, source-meets, target-meets}

-- ---- turned ways
pub ahead-back : (p q : SpacePoint) (d : Vector) → SameDirection (toward p q) d → SameDirection (toward q p) (opposite d)
ahead-back p q d w = subst (λ (e : Vector). SameDirection e (opposite d)) (vector-same (opposite (toward p q)) (toward q p) (omega (arith, ints)) (omega (arith, ints)) (omega (arith, ints))) (opposite-same (toward p q) d w)

-- an equal point lies the same way
pub ahead-same : (y z p : SpacePoint) (d : Vector) → SamePoint p z → SameDirection (toward y z) d → SameDirection (toward y p) d
ahead-same y z p d e w = SameDirection-trans (toward y p) (toward y z) d (SameDirection-turned (toward y z) (toward y p) (factor-same (toward y z) (toward y p) (record {
  k = p.w;
  l = z.w;
  some_k = p.proper;
  some_l = z.proper;
  is_x = each y.x z.x p.x e.along_x;
  is_y = each y.y z.y p.y e.along_y;
  is_z = each y.z z.z p.z e.along_z;
  is_w = ring (pos p.w ∷ pos z.w ∷ []) (at 0 ⊗ num (pos 0)) (at 1 ⊗ num (pos 0)) tt;
}) (direction-left (toward y z) d w))) w
  where
    each : (a b c : ℤ) → c *ℤ pos z.w ≡ b *ℤ pos p.w → pos p.w *ℤ (b *ℤ pos y.w -ℤ a *ℤ pos z.w) ≡ pos z.w *ℤ (c *ℤ pos y.w -ℤ a *ℤ pos p.w)
    each a b c f = follows (a ∷ b ∷ c ∷ pos y.w ∷ pos z.w ∷ pos p.w ∷ []) (at 5 ⊗ (at 1 ⊗ at 3 ⊖ at 0 ⊗ at 4)) (at 4 ⊗ (at 2 ⊗ at 3 ⊖ at 0 ⊗ at 5))
        (given (neg (at 3)) (at 2 ⊗ at 4) (at 1 ⊗ at 5) f none) tt

-- a way on which two directions are flat doesn't begin along an edge
pub not-along : (s : Set) (t y : SpacePoint) (f : Vector) → SameDirection (toward t y) f → FlatDim s t 1 → FlatDim s (near_point s t y) 2 → Flat s t f → ⊥
not-along s t y f w one two flat =
    let same : SameGerms s t (near_point s t y) = λ g l.
    let k = near-of_flat s t f (FlatCone-from_flat s t f flat) g l in
    let m = near-germs s t f y w g l in
    (λ h. m.1 (k.0 h), λ h. k.1 (m.0 h)) in
    let e = FlatDim-one s (near_point s t y) 1 2 (FlatDim-by_germs s s t (near_point s t y) same 1 one) two in cc

-- ---- beside an edge
module _ (s : Set) (C : Complex) (S : Shows s C) (i : ℕ) (e : Edge) (v w : Vertex) (z : SpacePoint) (a : IsAt C.edges i e) (H : HasEnds C e v w) (b : IsBetween v.point z w.point) where
  pub low-end : (u : MapVertex) × IsAt v.map.svertices e.low_svertex u
  low-end =
      let E = S.edges.edges i e a in
      (E.low_end, subst (λ (x : Vertex). IsAt x.map.svertices e.low_svertex E.low_end) (is-at_one C.vertices e.low E.low_vertex v E.is_low H.low) E.leaves)

  abbrev u : MapVertex
  u = low-end.0

  pub way-is : dir_of v.map.svertices e.low_svertex ≡ u.dir
  way-is = dir-at v.map.svertices e.low_svertex u low-end.1

  V : Valid v.map
  V = (S.cones e.low v H.low).valid

  -- a direction of the lower end close to the edge, on the side of f
  abbrev beside : Vector → Vector
  beside f = blend (amount (forms v.map) f) u.dir 1 f

  module _ (f : Vector) (y : SpacePoint) (t : SameDirection (toward z y) f) where
    abbrev q : SpacePoint
    q = near_point s z y

    near-edge : (g : Vector) (l : Label) → Germ s q g l → NearLabel v.map (beside f) g l
    near-edge g l h =
        let n = (near-germs s z f y t g l).0 h in
        near-near v.map V u.dir f g (amount (forms v.map) f) (omega arith) l n.0
        (λ k m. subst (λ (d : Vector). NearLabel v.map d (blend k f 1 g) l) way-is (((edge-points s C i e v w z S a H b).3 (blend k f 1 g) l).0 (n.1 k m)))

    beside-level : (n : Vector) → dot n u.dir ≡ pos 0 → dot n f ≡ pos 0 → dot n (beside f) ≡ pos 0
    beside-level n x o = let k = amount (forms v.map) f in dot-comb n (pos k) u.dir (pos 1) f ∙ zero (dot n u.dir) (dot n f) (pos k) x o
      where
        zero : (a b k : ℤ) → a ≡ pos 0 → b ≡ pos 0 → k *ℤ a +ℤ pos 1 *ℤ b ≡ pos 0
        zero a b k x o = follows (a ∷ b ∷ k ∷ []) (at 2 ⊗ at 0 ⊕ num (pos 1) ⊗ at 1) (num (pos 0)) (given (at 2) (at 0) (num (pos 0)) x (given (num (pos 1)) (at 1) (num (pos 0)) o none)) tt

    -- where two directions are flat close to the edge, f leads away from it
    across : FlatDim s q 2 → (n : Vector) → IsDirection n → dot n u.dir ≡ pos 0 → dot n f ≡ pos 0 → triple n u.dir f ≡ pos 0 → ⊥
    across two n j x o r =
        let E = edge-points s C i e v w z S a H b in
        let c = parallel-in_plane n u.dir f j x o r in
        not-along s z y f t E.0 two ((E.1 f).1 (subst (λ (d : Vector). IsZero (cross d f)) (sym way-is) c))

    module _ (n : Vector) (normal : IsNormal n) (level : dot n u.dir ≡ pos 0) (along : dot n f ≡ pos 0) where
      beside-direction : IsDirection (beside f)
      beside-direction = direction-around v.map V.shaped u.dir (beside f) (far-keeps (forms v.map) u.dir f (amount (forms v.map) f) (omega arith)) (V.shaped.svertex_dirs e.low_svertex u low-end.1)

      same-turn : (m : Vector) → SameDirection m n → sign (triple m u.dir f) ≡ sign (triple n u.dir f)
      same-turn m x =
          let j = direction-right (toward z y) f t in
          turn-same n m u.dir u.dir f f (SameDirection-turned m n x) (dir-self u.dir (V.shaped.svertex_dirs e.low_svertex u low-end.1)) (dir-self f j)

      -- ---- an arc of the plane leaves the edge on that side
      pub arc-beside : FlatDim s q 2 → FlatAre s q n → (k : ℕ) × (c : Arc) × IsAt v.map.arcs k c × SameDirection c.normal n × IsArcOnSide v e.low_svertex n f c
      arc-beside two flat =
          let x = item-at s v.map V (S.least e.low v H.low) (beside f) q near-edge beside-direction n normal flat two (beside-level n level along) in
          by x.item x.number x.listed x.on x.same
        where
          arc : (c : Arc) (k : ℕ) → IsAt (items v.map) k (arc_item c) → OnItem v.map (arc_item c) (beside f) → SameDirection c.normal n → IsArcOnSide v e.low_svertex n f c
          arc c k l o r = by_order (triple n u.dir f) (pos 0)
              (λ h. inr (
                target-met v.map V.shaped e.low_svertex u low-end.1 f (amount (forms v.map) f) (omega arith) k c l o (same-minus (triple n u.dir f) (triple c.normal u.dir f) (same-turn c.normal r) h),
                subst (λ (d : Vector). triple n d f <ℤ pos 0) (sym way-is) h,
              ))
              (λ h. absurd (across two n (normal-direction n normal) level along h))
              (λ h. inl (
                source-met v.map V.shaped e.low_svertex u low-end.1 f (amount (forms v.map) f) (omega arith) k c l o (same-plus (triple n u.dir f) (triple c.normal u.dir f) (same-turn c.normal r) h),
                subst (λ (d : Vector). pos 0 <ℤ triple n d f) (sym way-is) h,
              ))

          by : (x : Item) (k : ℕ) → IsAt (items v.map) k x → OnItem v.map x (beside f) → SameDirection (item_normal x) n → (k : ℕ) × (c : Arc) × IsAt v.map.arcs k c × SameDirection c.normal n × IsArcOnSide v e.low_svertex n f c
          by (arc_item c) k l o r = (k, c, arc-at v.map.arcs v.map.sloop k c l, r, arc c k l o r)
          by (sloop_item c) k l o r =
              let j = V.shaped.svertex_dirs e.low_svertex u low-end.1 in
              absurd (V.shaped.no_svertex_on_item e.low_svertex k u (sloop_item c) low-end.1 l (record { direction = j; level = level-same n c.normal u.dir u.dir (SameDirection-turned c.normal n r) (dir-self u.dir j) level }))

      -- ---- and such an arc has the labels there
      pub sided-beside : (k : ℕ) (c : Arc) → IsAt (items v.map) k (arc_item c) → SameDirection c.normal n → IsArcOnSide v e.low_svertex n f c → IsSided s q c.normal c.pos c.mark c.neg
      sided-beside k c l r side = item-sided s v.map V (S.least e.low v H.low) (beside f) q near-edge k (arc_item c) l (⊎_elim
          (λ h. source-meets v.map V.shaped e.low_svertex u low-end.1 f (amount (forms v.map) f) (omega arith) k c l on-plane h.0 (same-plus (triple n u.dir f) (triple c.normal u.dir f) (same-turn c.normal r) (subst (λ (d : Vector). pos 0 <ℤ triple n d f) way-is h.1)))
          (λ h. target-meets v.map V.shaped e.low_svertex u low-end.1 f (amount (forms v.map) f) (omega arith) k c l on-plane h.0 (same-minus (triple n u.dir f) (triple c.normal u.dir f) (same-turn c.normal r) (subst (λ (d : Vector). triple n d f <ℤ pos 0) way-is h.1))) side)
        where
          on-plane : dot c.normal (beside f) ≡ pos 0
          on-plane = level-same n c.normal (beside f) (beside f) (SameDirection-turned c.normal n r) (dir-self (beside f) beside-direction) (beside-level n level along)
