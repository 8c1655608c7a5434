-- An edge reaches along x from its low end to its high end.
use Rattle.nef_cand.proofs.Prelude.{ℕ, ℤ, pos, ◌*ℤ◌, ◌<ℤ◌, ◌≤ℤ◌, ◌≤◌, List, arith, sym, subst, inl, inr, ⊎_elim, eq-or-lt_of_le, ints, fraction-le-trans, IsAt, SpacePoint, IsPointBelow, IsBetween, Set, point_of, Plane, is-at_one, is-at_map, is-at_within, map-is_at, is-at_some, coordinate_x, IsWithin, Complex, Edge, Vertex, Bounds, Span, vertex_of, edge_of, ShowsSet, AreAlone, IsInSpan, within-both, weight-positive, CutsEdge, IsApart}
use Rattle.law_geometry.proofs.complex.Spans.{within-between}
use Rattle.nef_complex.proofs.Rising.{low-rises}

-- ---- a point that is below another
module _ (p q : SpacePoint) (b : IsPointBelow p q) where
  along : (p.x *ℤ pos q.w) ≤ℤ (q.x *ℤ pos p.w)
  along = from b
    where
      from : IsPointBelow p q → (p.x *ℤ pos q.w) ≤ℤ (q.x *ℤ pos p.w)
      from (inl l) = omega (arith, ints)
      from (inr (e, r)) = omega (arith, ints)

  low-on : (l : ℤ) → (l *ℤ pos p.w) ≤ℤ p.x → (l *ℤ pos q.w) ≤ℤ q.x
  low-on l h = let k = fraction-le-trans l (pos 1) p.x (pos p.w) q.x (pos q.w) (omega (arith, ints)) (weight-positive p) (weight-positive q) (omega (arith, ints, h)) along in omega (arith, ints, k)

  high-back : (h : ℤ) → q.x ≤ℤ (h *ℤ pos q.w) → p.x ≤ℤ (h *ℤ pos p.w)
  high-back h i = let k = fraction-le-trans p.x (pos p.w) q.x (pos q.w) h (pos 1) (weight-positive p) (weight-positive q) (omega (arith, ints)) along (omega (arith, ints, i)) in omega (arith, ints, k)

  within-ends : (y : SpacePoint) → IsBetween p y q → (l h : ℤ) → (l *ℤ pos p.w) ≤ℤ p.x → q.x ≤ℤ (h *ℤ pos q.w) → IsWithin coordinate_x l h y
  within-ends y m l h i j = within-between coordinate_x l h p y q m (i, high-back h j) (low-on l i, j)

-- ---- an edge
module _ (s : Set) (c : Complex) (S : ShowsSet s c) (k : ℕ) (e : Edge) (a : IsAt c.edges k e) (ss : List Span) (A : AreAlone c.vertices ss) (low high around : Span) (i : IsAt ss e.low low) (j : IsAt ss e.high high) where
  -- where it has a point of the span it reaches that along x
  pub edge-reaches : (y : SpacePoint) (h : Plane) → CutsEdge c h e y → IsInSpan around y → (low.x.low ≤ℤ around.x.high) × (around.x.low ≤ℤ high.x.high)
  edge-reaches y h (u, v, f, g, o) w =
      let n = A.each e.low u low f i in
      let m = A.each e.high v high g j in
      let E = S.shows.edges.edges k (edge_of e) (map-is_at edge_of c.edges k e a) in
      let b = S.shows.ordered e.low e.high (vertex_of u) (vertex_of v) E.upward (map-is_at vertex_of c.vertices e.low u f) (map-is_at vertex_of c.vertices e.high v g) in
      let r : Bounds = record { low = low.x.low; high = high.x.high } in
      within-both coordinate_x r around.x y (within-ends (point_of u.point) (point_of v.point) b y o.between low.x.low high.x.high n.0.0 m.0.1) w.0

module _ (s : Set) (c : Complex) (S : ShowsSet s c) where
  -- a bound below a vertex along x is one below the later ones
  low-later : (i k : ℕ) (u v : Vertex) → i ≤ k → IsAt c.vertices i u → IsAt c.vertices k v → (l : ℤ) → (l *ℤ pos (point_of u.point).w) ≤ℤ (point_of u.point).x → (l *ℤ pos (point_of v.point).w) ≤ℤ (point_of v.point).x
  low-later i k u v m a b l h = ⊎_elim
      (λ q. subst (λ (w : Vertex). (l *ℤ pos (point_of w.point).w) ≤ℤ (point_of w.point).x) (is-at_one c.vertices i u v a (subst (λ (j : ℕ). IsAt c.vertices j v) (sym q) b)) h)
      (λ n. low-on (point_of u.point) (point_of v.point) (S.shows.ordered i k (vertex_of u) (vertex_of v) n (map-is_at vertex_of c.vertices i u a) (map-is_at vertex_of c.vertices k v b)) l h)
      (eq-or-lt_of_le {n = i} {m = k} m)

  -- where the low end of an edge comes after a span along x, the edge and the later ones are apart from it
  pub edge-past : (ss : List Span) → AreAlone c.vertices ss → (around low : Span) (i : ℕ) (g : Edge) → IsAt c.edges i g → IsAt ss g.low low → around.x.high <ℤ low.x.low → (k : ℕ) (e : Edge) → i ≤ k → IsAt c.edges k e → IsApart c e around
  edge-past ss A around low i g here j l k e m a y h (u, v, f, q, o) w =
      let G = S.shows.edges.edges i (edge_of g) (map-is_at edge_of c.edges i g here) in
      let E = S.shows.edges.edges k (edge_of e) (map-is_at edge_of c.edges k e a) in
      let z = is-at_map vertex_of c.vertices g.low G.low_vertex G.is_low in
      let n = A.each g.low z.0 low z.1 j in
      let p = low-later g.low e.low z.0 u (low-rises s c S.shows i k g e m here a) z.1 f low.x.low n.0.0 in
      let many = A.as_many in
      let d = is-at_within c.vertices e.high v q in
      let t = is-at_some ss e.high (omega (arith, many, d)) in
      let x = A.each e.high v t.0 q t.1 in
      let b = S.shows.ordered e.low e.high (vertex_of u) (vertex_of v) E.upward (map-is_at vertex_of c.vertices e.low u f) (map-is_at vertex_of c.vertices e.high v q) in
      let r : Bounds = record { low = low.x.low; high = t.0.x.high } in
      let both = within-both coordinate_x r around.x y (within-ends (point_of u.point) (point_of v.point) b y o.between low.x.low t.0.x.high p x.0.1) w.0 in
      let below = both.0 in omega (arith, ints, l, below)
