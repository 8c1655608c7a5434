-- Equal points lie at the same places of a complex.
use Rattle.law_geometry.proofs.complex.Prelude.{◌≡◌, ℕ, ◌*◌, ◌≤◌, ℤ, pos, ◌*ℤ◌, neg_ℤ, nat_abs, arith, inl, inr, ⊎_elim, ◌∷◌, subst, [], ints, mul_le_right, cancel_le, ring, at, num, neg, ◌⊗◌, half_side, SpacePoint, Form, SamePoint, InClosedFrame, toward, IsAhead, IsBetween, Set, Vector, SameDirection, opposite, between-same, carriers, SameGerms, germs-by_cell, Flat-by_germs, FlatDim-by_germs, signs-same, same-point_sym, Map, Item, OnItem, on-direction, OnItem-by_signs, Vertex, Complex, Corner, IsFlatIn, PlaneMeet, IsVertexPoint, IsEdgePoint, IsOnEdges, IsFacetPoint, at_vertex, on_edge, in_facet, IsSkeletonPoint, IsFirstInPlane, HasCorner, vector-same, SameDirection-turned, dir-self, dir-signs}
use Rattle.law_geometry.proofs.complex.FacetEdges.{ahead-same, ahead-back}
use Rattle.law_geometry.proofs.complex.Ways.{same-point_trans}
use Rattle.nef_space.proofs.Elementary.{same-itself}

-- from an equal point the way is the same
pub ahead-from : (p q y : SpacePoint) (d : Vector) → SamePoint p q → IsAhead p d y → IsAhead q d y
ahead-from p q y d e w =
    let twice : opposite (opposite d) ≡ d = vector-same (opposite (opposite d)) d (omega (arith, ints)) (omega (arith, ints)) (omega (arith, ints)) in
    subst (SameDirection (toward q y)) twice (ahead-back y q (opposite d) (ahead-same y p q (opposite d) (same-point_sym p q e) (ahead-back p y d w)))

module _ (p q : SpacePoint) (e : SamePoint p q) where
  back : SamePoint q p
  back = same-point_sym p q e

  -- the same lies before an equal point, and after it
  pub before-same : (v r : SpacePoint) → IsBetween v r q → IsBetween v r p
  before-same v r = between-same v r q v r p (same-itself v) (same-itself r) back

  pub after-same : (r v : SpacePoint) → IsBetween q r v → IsBetween p r v
  after-same r v = between-same q r v p r v back (same-itself r) (same-itself v)

  module _ (C : Complex) where
    pub vertex-same : (k : ℕ) → IsVertexPoint C k p → IsVertexPoint C k q
    vertex-same k (v, a, f) = (v, a, same-point_trans v.point p q f e)

    pub edge-same : (k : ℕ) → IsEdgePoint C k p → IsEdgePoint C k q
    edge-same k (g, v, w, a, H, b) = (g, v, w, a, H, between-same v.point p w.point v.point q w.point (same-itself v.point) e (same-itself w.point) b)

    pub edges-same : IsOnEdges C p → IsOnEdges C q
    edges-same (k, o) = (k, ⊎_elim (λ v. inl (vertex-same k v)) (λ f. inr (edge-same k f)) o)

    pub first-same : (h : Form) (d : Vector) (m : PlaneMeet) → IsFirstInPlane C h p d m → IsFirstInPlane C h q d m
    first-same h d m F = record { place = F.place; ahead = ahead-from p q F.place d e F.ahead; meets = F.meets; first = λ r n b. F.first r n (after-same r F.place b) }

module _ (C : Complex) (p q : SpacePoint) (e : SamePoint p q) where
  on-same : (M : Map) (x : Item) (v : SpacePoint) → OnItem M x (toward v p) → OnItem M x (toward v q)
  on-same M x v o =
      let i = on-direction M x (toward v p) o in
      let w = SameDirection-turned (toward v q) (toward v p) (ahead-same v p q (toward v p) (same-point_sym p q e) (dir-self (toward v p) i)) in
      OnItem-by_signs M x (toward v p) (toward v q) (λ g l. dir-signs (toward v p) (toward v q) g i w) o

  facet-same : (v : Vertex) (x : Item) → IsFacetPoint C v x p → IsFacetPoint C v x q
  facet-same v x F = record {
    off_edges = λ o. F.off_edges (edges-same q p (same-point_sym p q e) C o);
    on_item = on-same v.map x v.point F.on_item;
    clear = λ r b. F.clear r (before-same p q e v.point r b);
  }

  pub corner-same : (k : Corner) → HasCorner C p k → HasCorner C q k
  corner-same k H = record {
    beside = H.beside;
    vertex = H.vertex;
    item = H.item;
    is_beside = H.is_beside;
    facet_point = facet-same H.vertex H.item H.facet_point;
    named = let r = H.named in (r.0, first-same p q e C _ _ r.0 r.1, r.2);
  }

  pub point-same : IsSkeletonPoint C p → IsSkeletonPoint C q
  point-same (at_vertex k, a) = (at_vertex k, vertex-same p q e C k a)
  point-same (on_edge k, a) = (on_edge k, edge-same p q e C k a)
  point-same (in_facet k, (v, x, a, F)) = (in_facet k, (v, x, a, facet-same v x F))

-- an equal point lies in the closed frame
pub closed-same : (p q : SpacePoint) → SamePoint p q → InClosedFrame p → InClosedFrame q
closed-same p q e i = record { along_x = one p.x q.x e.along_x i.along_x; along_y = one p.y q.y e.along_y i.along_y; along_z = one p.z q.z e.along_z i.along_z }
  where
    one : (x y : ℤ) → x *ℤ pos q.w ≡ y *ℤ pos p.w → nat_abs x ≤ half_side * p.w → nat_abs y ≤ half_side * q.w
    one x y e l =
        let m = p.proper in
        let a = mul_le_right x (pos (half_side * p.w)) (pos q.w) (omega (arith, ints)) (omega (arith, ints)) in
        let b = mul_le_right (neg_ℤ (pos (half_side * p.w))) x (pos q.w) (omega (arith, ints)) (omega (arith, ints)) in
        let half = num (pos half_side) in
        let r : pos (half_side * p.w) *ℤ pos q.w ≡ pos (half_side * q.w) *ℤ pos p.w = ring (pos p.w ∷ pos q.w ∷ []) (half ⊗ at 0 ⊗ at 1) (half ⊗ at 1 ⊗ at 0) tt in
        let t : neg_ℤ (pos (half_side * p.w)) *ℤ pos q.w ≡ neg_ℤ (pos (half_side * q.w)) *ℤ pos p.w = ring (pos p.w ∷ pos q.w ∷ []) (neg (half ⊗ at 0) ⊗ at 1) (neg (half ⊗ at 1) ⊗ at 0) tt in
        let above = cancel_le y (pos (half_side * q.w)) (pos p.w) (omega (arith, ints)) (omega (arith, ints)) in
        let below = cancel_le (neg_ℤ (pos (half_side * q.w))) y (pos p.w) (omega (arith, ints)) (omega (arith, ints)) in
        omega (arith, ints)

module _ (s : Set) (p q : SpacePoint) (e : SamePoint p q) where
  germs : SameGerms s p q
  germs = germs-by_cell s p q (signs-same (carriers s) p q e)

  back-germs : SameGerms s q p
  back-germs = germs-by_cell s q p (signs-same (carriers s) q p (same-point_sym p q e))

  pub flat-same : (h : Form) → IsFlatIn s h p → IsFlatIn s h q
  flat-same h F = (FlatDim-by_germs s s p q germs 2 F.0, λ d. (λ f. (F.1 d).0 (Flat-by_germs s s q p back-germs d f), λ z. Flat-by_germs s s p q germs d ((F.1 d).1 z)))
