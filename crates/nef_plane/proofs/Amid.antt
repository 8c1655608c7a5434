-- A point is strictly between the ends of an edge, or is a vertex, exactly where all carriers see it so.
use Rattle.nef_plane.proofs.Prelude.{◌≡◌, ℕ, ◌<◌, ℤ, pos, ◌+ℤ◌, ◌-ℤ◌, ◌*ℤ◌, ◌<ℤ◌, arith, ap, sym, ◌∙◌, ⊎_elim, subst, List, [], ◌∷◌, ints, ring, at, num, ◌⊕◌, ◌⊖◌, ◌⊗◌, mul_pos, mul_neg, by_order, nought-or, SpacePoint, Form, form_at, slope, normal_of, toward, SamePoint, IsBetween, Set, opposite, dot, cross, IsZero, IsDirection, SameDirection, form_of, point_of, sign_of, Plane, Minus, Zero, Plus, sign_of-positive, sign_of-negative, zero_sign, of_point, toward-point, slope-toward, form-sum, mixed-of, between-turned, IsAt, map-is_at, HasEnds, Shows, IsVertexPoint, IsEdgePoint, same-by, same-by-minus, cross-back, aligned, ahead-back, plane-way, Vertex, Edge, Complex, vertex_of, edge_of, complex_of, vertex-same, listed_edge, ends, apart, edge-inside, positive-factor, plus-of, minus-of, SidesWith, IsAmid, AllSideWith, AreAmid, AllHold, zero-decided, vector-same, cross-turned, SameDirection-turned, SameDirection-trans}
use Rattle.law_geometry.specs.complex.Complexes.{Vertex as PlainVertex}
use Rattle.nef_plane.proofs.Crossed.{vertex-crossed, edge-along}
use Rattle.nef_space.proofs.Elementary.{weight-positive, counted-positive, nought-not_positive}
use Rattle.law_geometry.proofs.near.Same.{level-same_point}

-- ---- signs
-- a positive multiple has the sign
multiple-sign : (k l y b : ℤ) → pos 0 <ℤ k → pos 0 <ℤ l → k *ℤ y ≡ l *ℤ b → sign_of y ≡ sign_of b
multiple-sign k l y b i j e = by_order b (pos 0)
    (λ m. let u = mul_neg l b j m in sign_of-negative y (minus-of k y i (omega (arith, ints))) ∙ sym (sign_of-negative b m))
    (λ o. ap sign_of (positive-factor k y i (e ∙ ap (λ r. l *ℤ r) o ∙ ring (l ∷ []) (at 0 ⊗ num (pos 0)) (num (pos 0)) tt) ∙ sym o))
    (λ m. let u = mul_pos l b j m in sign_of-positive y (plus-of k y i (omega (arith, ints))) ∙ sym (sign_of-positive b m))

negative-if : (y b : ℤ) → sign_of y ≡ sign_of b → b <ℤ pos 0 → y <ℤ pos 0
negative-if y b e m = by_order y (pos 0) (λ l. l)
    (λ o. absurd (apart_signs (sym (ap sign_of o) ∙ e ∙ sign_of-negative b m)))
    (λ l. absurd (opposite_signs (sym (sign_of-positive y l) ∙ e ∙ sign_of-negative b m)))
  where
    apart_signs : Zero ≡ Minus → ⊥
    apart_signs e = cc

    opposite_signs : Plus ≡ Minus → ⊥
    opposite_signs e = cc

positive-if : (y b : ℤ) → sign_of y ≡ sign_of b → pos 0 <ℤ b → pos 0 <ℤ y
positive-if y b e m = by_order y (pos 0)
    (λ l. absurd (opposite_signs (sym (sign_of-negative y l) ∙ e ∙ sign_of-positive b m)))
    (λ o. absurd (apart_signs (sym (ap sign_of o) ∙ e ∙ sign_of-positive b m))) (λ l. l)
  where
    apart_signs : Zero ≡ Plus → ⊥
    apart_signs e = cc

    opposite_signs : Minus ≡ Plus → ⊥
    opposite_signs e = cc

below-not : (z : ℤ) → z <ℤ pos 0 → pos 0 <ℤ z → ⊥
below-not z m n = omega (arith, ints)

-- ---- one plane
-- what lies strictly between two points is on the side of the second, where the plane holds the first
between-sides : (h : Form) (a b y : SpacePoint) → IsBetween a y b → SidesWith h a b y
between-sides h a b y m e =
    let M = mixed-of a y b m in
    multiple-sign (pos M.k) (pos M.j) (form_at h y) (form_at h b) (counted-positive M.k M.some_k) (counted-positive M.j M.some_j)
    (form-sum h M.k (of_point y) M.i (of_point a) M.j (of_point b) M.sum ∙ ap (λ r. pos M.i *ℤ r +ℤ pos M.j *ℤ form_at h b) e
    ∙ ring (pos M.i ∷ pos M.j ∷ form_at h b ∷ []) (at 0 ⊗ num (pos 0) ⊕ at 1 ⊗ at 2) (at 1 ⊗ at 2) tt)

between-amid : (h : Form) (a b y : SpacePoint) → IsBetween a y b → IsAmid h a b y
between-amid h a b y m = (between-sides h a b y m, between-sides h b a y (between-turned a b y m))

same-amid : (h : Form) (a y : SpacePoint) → SamePoint a y → IsAmid h a a y
same-amid h a y s = (one, one)
  where
    one : SidesWith h a a y
    one e = ap sign_of (level-same_point h a y s e ∙ sym e)

-- a point of the line through a and b, on b's side of a plane that holds a alone, lies ahead of a toward b
side-ahead : (h : Form) (a b y : SpacePoint) → form_at h a ≡ pos 0 → sign_of (form_at h y) ≡ sign_of (form_at h b) → (slope h (toward a b) ≡ pos 0 → ⊥) → IsZero (cross (toward a y) (toward a b))
    → SameDirection (toward a y) (toward a b)
side-ahead h a b y e s n z = by_order (form_at h b) (pos 0)
    (λ m. same-by-minus (normal_of h) (toward a y) (toward a b) z (below y (negative-if (form_at h y) (form_at h b) s m)) (below b m))
    (λ o. absurd (n (along b ∙ ap (λ r. pos a.w *ℤ r) o ∙ ring (pos a.w ∷ []) (at 0 ⊗ num (pos 0)) (num (pos 0)) tt)))
    (λ m. same-by (normal_of h) (toward a y) (toward a b) z (above y (positive-if (form_at h y) (form_at h b) s m)) (above b m))
  where
    along : (q : SpacePoint) → slope h (toward a q) ≡ pos a.w *ℤ form_at h q
    along q = slope-toward h a q ∙ ap (λ r. pos a.w *ℤ form_at h q -ℤ pos q.w *ℤ r) e ∙ ring (pos a.w ∷ pos q.w ∷ form_at h q ∷ []) (at 0 ⊗ at 2 ⊖ at 1 ⊗ num (pos 0)) (at 0 ⊗ at 2) tt

    below : (q : SpacePoint) → form_at h q <ℤ pos 0 → slope h (toward a q) <ℤ pos 0
    below q m = let i = along q in let u = mul_neg (pos a.w) (form_at h q) (weight-positive a) m in omega (arith, ints)

    above : (q : SpacePoint) → pos 0 <ℤ form_at h q → pos 0 <ℤ slope h (toward a q)
    above q m = let i = along q in let u = mul_pos (pos a.w) (form_at h q) (weight-positive a) m in omega (arith, ints)

-- ---- all carriers
module _ (s : Set) (c : Complex) (S : Shows s (complex_of c)) where
  -- a carrier that holds both points holds a point that they see between
  both-held : (a b y : SpacePoint) → AreAmid c.carriers a b y → AllHold c.carriers (toward a y) a b
  both-held a b y A i g l (e, f) = plane-way (form_of g) a y e (zero_sign (form_at (form_of g) y) ((A i g l).0 e ∙ ap sign_of f))

  -- from a vertex a point of the line toward b that the carriers see between lies ahead
  vertex-ahead : (k : ℕ) (v : PlainVertex) (b y : SpacePoint) → IsAt (complex_of c).vertices k v → IsDirection (toward v.point b) → AreAmid c.carriers v.point b y → IsZero (cross (toward v.point y) (toward v.point b))
      → SameDirection (toward v.point y) (toward v.point b)
  vertex-ahead k v b y a t A z = by_order (dot (toward v.point y) (toward v.point b)) (pos 0) (λ m. absurd (never (below-not (dot (toward v.point y) (toward v.point b)) m))) (λ o. absurd (never (nought-not_positive (dot (toward v.point y) (toward v.point b)) o))) (λ m. record { parallel = z; forward = m })
    where
      never : (pos 0 <ℤ dot (toward v.point y) (toward v.point b) → ⊥) → ⊥
      never n = vertex-crossed s c S (toward v.point b) t k v a (λ i g l m. ⊎_elim (λ e. e) (λ f. absurd (n (side-ahead (form_of g) v.point b y m.0 ((A i g l).0 m.0) f z).forward)) (nought-or (slope (form_of g) (toward v.point b))))

  pub vertex-amid : (k : ℕ) (v : Vertex) (y : SpacePoint) → IsAt c.vertices k v → AreAmid c.carriers (point_of v.point) (point_of v.point) y → IsVertexPoint (complex_of c) k y
  vertex-amid k v y a A = (
    vertex_of v,
    listed,
    ⊎_elim (toward-point (point_of v.point) y)
        (λ t. absurd (vertex-crossed s c S (toward (point_of v.point) y) t k (vertex_of v) listed (both-held (point_of v.point) (point_of v.point) y A))) (zero-decided (toward (point_of v.point) y)),
  )
    where
      listed : IsAt (complex_of c).vertices k (vertex_of v)
      listed = map-is_at vertex_of c.vertices k v a

  pub amid-vertex : (k : ℕ) (v : Vertex) (y : SpacePoint) → IsAt c.vertices k v → IsVertexPoint (complex_of c) k y → AreAmid c.carriers (point_of v.point) (point_of v.point) y
  amid-vertex k v y a x i g m = same-amid (form_of g) (point_of v.point) y (vertex-same c k v a y x)

  module _ (k : ℕ) (e : Edge) (u v : Vertex) (l : IsAt c.edges k e) (i : IsAt c.vertices e.low u) (j : IsAt c.vertices e.high v) (y : SpacePoint) where
    abbrev a : SpacePoint
    a = point_of u.point

    abbrev b : SpacePoint
    b = point_of v.point

    E : HasEnds (complex_of c) (edge_of e) (vertex_of u) (vertex_of v)
    E = ends s c S k e u v l i j

    F : IsAt (complex_of c).edges k (edge_of e)
    F = listed_edge s c S k e u v l i j

    t : IsDirection (toward a b)
    t = apart s c S k e u v l i j

    pub edge-amid : AreAmid c.carriers a b y → IsEdgePoint (complex_of c) k y
    edge-amid A = (edge_of e, vertex_of u, vertex_of v, F, E, SameDirection-trans (toward a y) (toward a b) (toward y b) from_low (SameDirection-turned (toward y b) (toward a b) to_high))
      where
        line : IsZero (cross (toward a b) (toward a y))
        line = edge-along s c S k (edge_of e) (vertex_of u) (vertex_of v) F E t (toward a y) (both-held a b y A)

        from_low : SameDirection (toward a y) (toward a b)
        from_low = vertex-ahead e.low (vertex_of u) b y E.low t A (cross-turned (toward a b) (toward a y) line)

        back : IsZero (cross (toward b y) (toward b a))
        back = cross-back (toward b y) a b (cross-turned (toward a b) (toward b y) (cross-back (toward a b) y b (aligned a b y line)))

        turned : IsDirection (toward b a)
        turned z = t (toward-turned z)
          where
            toward-turned : IsZero (toward b a) → IsZero (toward a b)
            toward-turned (p, q, r) = (omega (arith, ints), omega (arith, ints), omega (arith, ints))

        from_high : SameDirection (toward b y) (toward b a)
        from_high = vertex-ahead e.high (vertex_of v) a y E.high turned (λ k g m. ((A k g m).1, (A k g m).0)) back

        to_high : SameDirection (toward y b) (toward a b)
        to_high = subst (SameDirection (toward y b)) (vector-same (opposite (toward b a)) (toward a b) (omega (arith, ints)) (omega (arith, ints)) (omega (arith, ints))) (ahead-back b y (toward b a) from_high)

    pub amid-edge : IsEdgePoint (complex_of c) k y → AreAmid c.carriers a b y
    amid-edge m n h o = between-amid (form_of h) a b y (edge-inside s c S k e u v l i j y m)

    -- the same, by the sides that the carriers of each end tell
    module _ (gs : List Plane) (same : gs ≡ c.carriers) where
      pub sides-edge : AllSideWith gs a b y → AllSideWith gs b a y → IsEdgePoint (complex_of c) k y
      sides-edge A B = edge-amid (λ m h o. let r = subst (λ (hs : List Plane). IsAt hs m h) (sym same) o in (A m h r, B m h r))

      pub edge-low : IsEdgePoint (complex_of c) k y → AllSideWith gs a b y
      edge-low x m h o = (amid-edge x m h (subst (λ (hs : List Plane). IsAt hs m h) same o)).0

      pub edge-high : IsEdgePoint (complex_of c) k y → AllSideWith gs b a y
      edge-high x m h o = (amid-edge x m h (subst (λ (hs : List Plane). IsAt hs m h) same o)).1
