-- Skeleton points lie on carriers, which no upright direction lies in; points of the closed frame where all directions are flat lie in the frame.
use Rattle.nef_locate.proofs.Prelude.{◌≡◌, ℕ, ◌+◌, ◌*◌, ◌<◌, ◌≤◌, ℤ, pos, neg_ℤ, ◌+ℤ◌, ◌*ℤ◌, ◌-ℤ◌, ◌<ℤ◌, nat_abs, arith, sym, inl, inr, ⊎_elim, [], ◌∷◌, subst, ints, nought, Lies, nought-is, mul_pos, mul_nonneg, ring, at, num, neg, ◌⊕◌, ◌⊖◌, ◌⊗◌, half_side, FlatDim, Out, SpacePoint, Form, form_at, InFrame, InClosedFrame, step, IsAhead, Set, Vector, vector, IsVertical, IsCrossing, form_of, Plane, carriers, sign_at, flat-germ, InFrame-decided, span-3, facet-support, IsAt, is-at_map, SamePlane, IsSkeletonIn, at_vertex, on_edge, in_facet, IsSkeletonPoint, meets_vertex, meets_edge, plane-turned, plane-point, plane-slope, between-ends, Complex, complex_of, ShowsSet, held-between, edge-carried, facet-at}
use Rattle.law_geometry.proofs.near.Meets.{vertex-meets}
use Rattle.nef_locate.proofs.Upward.{plane-upright}
use Rattle.law_geometry.proofs.near.Same.{dim-same}

-- ---- the frame
-- a short step from a point of the closed frame toward the middle leads into the frame
inward : (p : SpacePoint) → InClosedFrame p → (n : ℕ) → InFrame (step p (record { a = pos 1; b = n + p.w + 1; proper = omega arith }) (vector (neg_ℤ p.x) (neg_ℤ p.y) (neg_ℤ p.z)))
inward p i n = record { along_x = one p.x i.along_x; along_y = one p.y i.along_y; along_z = one p.z i.along_z }
  where
    sized : (z : ℤ) (b : ℕ) → z <ℤ pos b → neg_ℤ (pos b) <ℤ z → nat_abs z < b
    sized z b l m = omega (arith, ints)

    one : (x : ℤ) → nat_abs x ≤ half_side * p.w → nat_abs (x *ℤ pos (n + p.w + 1) +ℤ pos 1 *ℤ pos p.w *ℤ neg_ℤ x) < half_side * (p.w * (n + p.w + 1))
    one x l =
        let xs = x ∷ pos n ∷ pos p.w ∷ [] in
        let k = at 1 ⊕ num (pos 1) in
        let half = num (pos half_side) in
        let m = p.proper in
        let a = mul_nonneg (pos (half_side * p.w) -ℤ x) (pos (n + 1)) (omega (arith, ints)) (omega (arith, ints)) in
        let b = mul_nonneg (pos (half_side * p.w) +ℤ x) (pos (n + 1)) (omega (arith, ints)) (omega (arith, ints)) in
        let q = mul_pos (pos p.w) (pos p.w) (omega (arith, ints)) (omega (arith, ints)) in
        let value : x *ℤ pos (n + p.w + 1) +ℤ pos 1 *ℤ pos p.w *ℤ neg_ℤ x ≡ x *ℤ pos (n + 1) = ring xs (at 0 ⊗ (at 1 ⊕ at 2 ⊕ num (pos 1)) ⊕ num (pos 1) ⊗ at 2 ⊗ neg (at 0)) (at 0 ⊗ k) tt in
        let above : (pos (half_side * p.w) -ℤ x) *ℤ pos (n + 1) ≡ pos half_side *ℤ (pos p.w *ℤ pos (n + 1)) -ℤ x *ℤ pos (n + 1) = ring xs ((half ⊗ at 2 ⊖ at 0) ⊗ k) (half ⊗ (at 2 ⊗ k) ⊖ at 0 ⊗ k) tt in
        let below : (pos (half_side * p.w) +ℤ x) *ℤ pos (n + 1) ≡ pos half_side *ℤ (pos p.w *ℤ pos (n + 1)) +ℤ x *ℤ pos (n + 1) = ring xs ((half ⊗ at 2 ⊕ at 0) ⊗ k) (half ⊗ (at 2 ⊗ k) ⊕ at 0 ⊗ k) tt in
        let whole : pos (half_side * (p.w * (n + p.w + 1))) ≡ pos half_side *ℤ (pos p.w *ℤ pos (n + 1)) +ℤ pos half_side *ℤ (pos p.w *ℤ pos p.w) = ring xs (half ⊗ (at 2 ⊗ (at 1 ⊕ at 2 ⊕ num (pos 1)))) (half ⊗ (at 2 ⊗ k) ⊕ half ⊗ (at 2 ⊗ at 2)) tt in
        sized (x *ℤ pos (n + p.w + 1) +ℤ pos 1 *ℤ pos p.w *ℤ neg_ℤ x) (half_side * (p.w * (n + p.w + 1))) (omega (arith, ints)) (omega (arith, ints))

pub closed-inside : (s : Set) (p : SpacePoint) → FlatDim s p 3 → InClosedFrame p → InFrame p
closed-inside s p f i = ⊎_elim (λ j. j) (λ o. absurd (by o)) (InFrame-decided p)
  where
    d : Vector
    d = vector (neg_ℤ p.x) (neg_ℤ p.y) (neg_ℤ p.z)

    by : (InFrame p → ⊥) → ⊥
    by o =
        let h = f.0 in
        let g = flat-germ s p d Out (span-3 s p h.0 h.1 h.2 d h.3 h.4 h.5 h.6) o in
        g.2 (record { a = pos 1; b = g.0 + p.w + 1; proper = omega arith }) (omega (arith, ints), omega (arith, ints)) (inward p i g.0)

-- ---- carriers
module _ (s : Set) (c : Complex) (S : ShowsSet s c) where
  -- the program's carrier of a plane of the set
  record CarrierAt (f : Form) (y : SpacePoint) : Type 0 where
    pub number : ℕ
    pub plane : Plane
    pub listed : IsAt c.carriers number plane
    pub same : SamePlane (form_of plane) f
    pub on : form_at (form_of plane) y ≡ pos 0

  carrier-at : (f : Form) (y : SpacePoint) → Lies (carriers s) f → sign_at f y ≡ nought → CarrierAt f y
  carrier-at f y l o =
      let r = S.shows.carriers.all f l in
      let g = is-at_map form_of c.carriers r.0 r.1 r.2 in
      let same : SamePlane (form_of g.0) f = subst (λ (k : Form). SamePlane k f) (sym g.2) r.3 in
      record { number = r.0; plane = g.0; listed = g.1; same = same; on = plane-point f (form_of g.0) y (plane-turned (form_of g.0) f same) (nought-is (form_at f y) o) }

  -- a carrier on which the skeleton point lies, as a vertex, on an edge in the plane, or in a facet of the plane
  pub record SkeletonCarrier (y : SpacePoint) : Type 0 where
    pub number : ℕ
    pub plane : Plane
    pub listed : IsAt c.carriers number plane
    pub on : form_at (form_of plane) y ≡ pos 0
    pub found : IsSkeletonIn s (complex_of c) (form_of plane) y

  pub skeleton-carrier : (y : SpacePoint) → IsSkeletonPoint (complex_of c) y → SkeletonCarrier y
  skeleton-carrier y (at_vertex k, (v, a, e)) =
      let m = vertex-meets s y (dim-same s v.point y 0 e (S.shows.vertices k v a)) in
      let g = carrier-at m.first y m.first_in m.first_at in
      record { number = g.number; plane = g.plane; listed = g.listed; on = g.on; found = inl (meets_vertex k, (v, a, e)) }
  skeleton-carrier y (on_edge k, (e, v, w, a, H, b)) =
      let g = edge-carried s c S.shows k e v w a H (between-ends v.point y w.point b) in
      record { number = g.0; plane = g.1; listed = g.2; on = held-between (form_of g.1) v.point w.point y b g.3; found = inl (meets_edge k, ((e, v, w, a, H, b), (e, v, w, a, H, g.3.0, g.3.1))) }
  skeleton-carrier y (in_facet k, (v, x, a, F)) =
      let dim = (facet-at s (complex_of c) S.shows k v x y a F).0 in
      let E = facet-support s y dim in
      let g = carrier-at E.plane y E.listed E.passes in
      record {
        number = g.number;
        plane = g.plane;
        listed = g.listed;
        on = g.on;
        found = inr (dim, λ d. (λ f. plane-slope E.plane (form_of g.plane) d (plane-turned (form_of g.plane) E.plane g.same) ((E.flat_in d).0 f), λ z. (E.flat_in d).1 (plane-slope (form_of g.plane) E.plane d g.same z)));
      }

  -- where a ray along an upright direction meets a skeleton point, it crosses the carrier
  pub crossed : (p y : SpacePoint) (d : Vector) → IsVertical d → IsAhead p d y → (k : SkeletonCarrier y) → IsCrossing p d (form_of k.plane) y
  crossed p y d u w k = record { on = k.on; ahead = w; passes = plane-upright k.plane d u }
