-- Ways within a plane: a flat way within a facet ends at a vertex or at an edge of the plane, and up to its end there is one cone.
use Rattle.law_geometry.proofs.complex.Prelude.{◌≡◌, ℕ, zero, suc, ℤ, pos, ◌-ℤ◌, ◌*ℤ◌, arith, sym, ◌∙◌, inl, inr, ⊎_elim, ◌∷◌, subst, [], ints, cases_order, at, num, ◌⊖◌, ◌⊗◌, given, none, follows_times, Flat, FlatDim, IsEven, SpacePoint, Form, form_at, normal_of, slope, toward, IsBetween, Set, Vector, IsDirection, SameDirection, carriers, IsFlatBelow, Drop, same-point_sym, FlatDim-one, Flat-by_germs, Flat-from_cone, FlatCone-from_flat, even-germs, flat-nearby, flat_dim-of, between-turned, between-inner, start, start-close, start-between, even-until, reach_all, slope-toward, toward-point, point-toward, IsAt, Vertex, Edge, Complex, HasEnds, Shows, IsEdgePoint, IsOnEdges, PlaneMeet, meets_vertex, meets_edge, Meets, LiesIn, SameDirection-turned, level-way}
use Rattle.law_geometry.proofs.near.Skeleton.{flat_dim-nearby}
use Rattle.law_geometry.proofs.complex.Cones.{FlatAre}
use Rattle.law_geometry.proofs.complex.Ways.{between-way}
use Rattle.law_geometry.proofs.complex.Edges.{edge-points, edge-way}
use Rattle.law_geometry.proofs.complex.Joining.{edges-complete}
use Rattle.law_geometry.proofs.near.Same.{dim-same}

-- ---- points of a plane
-- where the way from p to q lies in the plane, the one point lies in it where the other does
pub plane-onward : (h : Form) (p q : SpacePoint) → slope h (toward p q) ≡ pos 0 → form_at h p ≡ pos 0 → form_at h q ≡ pos 0
plane-onward h p q z e = by (form_at h p) (form_at h q) (sym (slope-toward h p q) ∙ z) e
  where
    by : (a b : ℤ) → pos p.w *ℤ b -ℤ pos q.w *ℤ a ≡ pos 0 → a ≡ pos 0 → b ≡ pos 0
    by a b z e = follows_times (pos p.w ∷ pos q.w ∷ a ∷ b ∷ []) (at 0) (at 3) (num (pos 0))
        (given (num (pos 1)) (at 0 ⊗ at 3 ⊖ at 1 ⊗ at 2) (num (pos 0)) z (given (at 1) (at 2) (num (pos 0)) e none)) (let l = p.proper in omega (arith, ints)) tt

pub plane-back : (h : Form) (p q : SpacePoint) → slope h (toward p q) ≡ pos 0 → form_at h q ≡ pos 0 → form_at h p ≡ pos 0
plane-back h p q z e = by (form_at h p) (form_at h q) (sym (slope-toward h p q) ∙ z) e
  where
    by : (a b : ℤ) → pos p.w *ℤ b -ℤ pos q.w *ℤ a ≡ pos 0 → b ≡ pos 0 → a ≡ pos 0
    by a b z e = follows_times (pos p.w ∷ pos q.w ∷ a ∷ b ∷ []) (at 1) (at 2) (num (pos 0))
        (given (num (pos 0) ⊖ num (pos 1)) (at 0 ⊗ at 3 ⊖ at 1 ⊗ at 2) (num (pos 0)) z (given (at 0) (at 3) (num (pos 0)) e none)) (let l = q.proper in omega (arith, ints)) tt

pub plane-ahead : (h : Form) (p q : SpacePoint) (d : Vector) → SameDirection (toward p q) d → slope h d ≡ pos 0 → form_at h p ≡ pos 0 → form_at h q ≡ pos 0
plane-ahead h p q d w z e = plane-onward h p q (level-way (normal_of h) d (toward p q) (SameDirection-turned (toward p q) d w) z) e

-- where the way of a segment lies in the plane, its ends lie there where a point between them does
pub plane-ends : (h : Form) (p q z : SpacePoint) → IsBetween p z q → slope h (toward p q) ≡ pos 0 → form_at h z ≡ pos 0 → (form_at h p ≡ pos 0) × (form_at h q ≡ pos 0)
plane-ends h p q z b l on =
    let to-z = level-way (normal_of h) (toward p q) (toward p z) (SameDirection-turned (toward p z) (toward p q) (between-way p z q b)) l in
    let low = plane-back h p z to-z on in
    (low, plane-onward h p q l low)

-- ---- flat ways

-- the number is even on a segment with equal ends where it is at the ends and between
pub even-by : (s : Set) (k : ℕ) (p q : SpacePoint) → FlatDim s p k → ((r : SpacePoint) → IsBetween p r q → FlatDim s r k) → FlatDim s q k → IsEven s k p q
even-by s k p q f all g r (inl e) = dim-same s p r k (same-point_sym r p e) f
even-by s k p q f all g r (inr (inl b)) = all r b
even-by s k p q f all g r (inr (inr e)) = dim-same s q r k (same-point_sym r q e) g

-- a point between p and z, close to z
abbrev back : Set → SpacePoint → SpacePoint → SpacePoint
back s p z = start (reach_all (carriers s) z) z p

turned-direction : (p z : SpacePoint) → IsDirection (toward p z) → IsDirection (toward z p)
turned-direction p z i o = i (point-toward p z (same-point_sym z p (toward-point z p o)))

back-between : (s : Set) (p z : SpacePoint) → IsDirection (toward p z) → IsBetween p (back s p z) z
back-between s p z i = between-turned z p (back s p z) (start-between (reach_all (carriers s) z) z p (turned-direction p z i))

module _ (s : Set) (k : ℕ) (q y : SpacePoint) (i : IsDirection (toward q y)) (dim : FlatDim s q k) where
  -- what the end of an even way has, its start has too
  pub flat-onto : ((r : SpacePoint) → IsBetween q r y → FlatDim s r k) → (d : Vector) → Flat s y d → Flat s q d
  flat-onto all d f =
      let r = back s q y in
      let b = back-between s q y i in
      let g = Flat-from_cone s r d (flat-nearby s y r (start-close (reach_all (carriers s) y) y q) d (FlatCone-from_flat s y d f)) in
      let same = even-germs s k q r (even-by s k q r dim (λ u c. all u (between-inner q r y u b c)) (all r b)) in
      Flat-by_germs s s r q (λ v l. let e = same v l in (e.1, e.0)) d g

  -- where the number drops neither before y nor at y, it is even
  pub even-to : Flat s q (toward q y) → (Drop s k q y → ⊥) → (IsFlatBelow s k y → ⊥) → IsEven s k q y
  even-to flat clear last = even-by s k q y dim inner at-end
    where
      inner : (r : SpacePoint) → IsBetween q r y → FlatDim s r k
      inner = ⊎_elim (λ all. all) (λ c. absurd (clear c)) (even-until s k q y dim flat)

      at-end : FlatDim s y k
      at-end =
          let j = flat_dim-of s y in
          let r = back s q y in
          let l = flat_dim-nearby s y r (start-close (reach_all (carriers s) y) y q) k j.0 j.1 (inner r (back-between s q y i)) in
          ⊎_elim (λ e. subst (FlatDim s y) e j.1) (λ o. ⊎_elim (λ m. absurd (last (j.0, m, j.1))) (λ m. absurd (omega arith)) o) (cases_order j.0 k)

-- ---- the vertices and edges are where fewer than two directions are flat
module _ (s : Set) (C : Complex) (S : Shows s C) where
  pub on-below : (y : SpacePoint) → IsOnEdges C y → IsFlatBelow s 2 y
  on-below y (k, inl (v, a, e)) = (0, omega arith, dim-same s v.point y 0 e (S.vertices k v a))
  on-below y (k, inr (e, v, w, a, H, b)) = (1, omega arith, (edge-points s C k e v w y S a H b).0)

  pub below-on : (y : SpacePoint) → IsFlatBelow s 2 y → IsOnEdges C y
  below-on y (zero, l, f) = let u = S.complete y f in (u.0, inl (u.1, u.2, u.3))
  below-on y (suc zero, l, f) = let u = edges-complete s C S y f in (u.0, inr u.1)
  below-on y (suc (suc j), l, f) = absurd (omega arith)

  pub two-off : (y : SpacePoint) → FlatDim s y 2 → IsOnEdges C y → ⊥
  two-off y f o = let b = on-below y o in let e = FlatDim-one s y b.0 2 b.2 f in let l = b.1 in omega arith

  -- what is met in a plane lies on edges
  pub meets-on : (h : Form) (n : PlaneMeet) (y : SpacePoint) → Meets C h n y → IsOnEdges C y
  meets-on h (meets_vertex k) y m = (k, inl m)
  meets-on h (meets_edge k) y m = (k, inr m.0)

  -- ---- the end of a way within a facet lies on a vertex or an edge of the plane
  module _ (h : Form) (q z : SpacePoint) (i : IsDirection (toward q z)) (dim : FlatDim s q 2) (flat : FlatAre s q (normal_of h)) (all : (r : SpacePoint) → IsBetween q r z → FlatDim s r 2) (on : form_at h z ≡ pos 0) where
    edge-level : (k : ℕ) (e : Edge) (v w : Vertex) → IsAt C.edges k e → HasEnds C e v w → IsBetween v.point z w.point → slope h (toward v.point w.point) ≡ pos 0
    edge-level k e v w a H b =
        let E = edge-points s C k e v w z S a H b in
        (flat (toward v.point w.point)).0 (flat-onto s 2 q z i dim all (toward v.point w.point) ((E.1 (toward v.point w.point)).1 (edge-way s C k e v w S a H)))

    -- both ends of its edge lie in the plane
    pub ends-lie : (k : ℕ) (e : Edge) (v w : Vertex) → IsAt C.edges k e → HasEnds C e v w → IsBetween v.point z w.point → (form_at h v.point ≡ pos 0) × (form_at h w.point ≡ pos 0)
    ends-lie k e v w a H b = plane-ends h v.point w.point z b (edge-level k e v w a H b) on

    edge-lies : (k : ℕ) → IsEdgePoint C k z → LiesIn C h k
    edge-lies k (e, v, w, a, H, b) = let l = ends-lie k e v w a H b in (e, v, w, a, H, l.0, l.1)

    pub end-meets : IsFlatBelow s 2 z → (m : PlaneMeet) × Meets C h m z
    end-meets f = by (below-on z f)
      where
        by : IsOnEdges C z → (m : PlaneMeet) × Meets C h m z
        by (k, inl p) = (meets_vertex k, p)
        by (k, inr p) = (meets_edge k, (p, edge-lies k p))
