-- Two vertices between which one direction is flat are the ends of an edge; so each point with one flat direction lies on an edge, and each svertex is an end of one.
use Rattle.law_geometry.proofs.complex.Prelude.{◌≡◌, ℕ, ◌<◌, ℤ, pos, ◌-ℤ◌, ◌*ℤ◌, neg_ℤ, arith, refl, ap, sym, ◌∙◌, ◌⊎◌, inl, inr, ⊎_elim, ◌∷◌, subst, [], ints, cases_order, Sign, minus, nought, plus, sign, ring, at, num, neg, ◌⊕◌, ◌⊖◌, ◌⊗◌, Germ, FlatDim, IsVertex, SpacePoint, SamePoint, toward, IsBetween, Set, Vector, dot, cross, IsZero, IsDirection, SameDirection, IsOpposite, Label, label_of, FlatDim-one, FlatDim-by_germs, germs-by_cell, flat-germ, span-1, between-turned, ray-cell, carriers, reach_all, between-same, toward-point, point-toward, same-point_sym, signs-same, start-close, flat_way-end, edge-around, WayEnd, by_side, NearPlain, NearStraight, Least, Cone, IsAt, Map, MapVertex, MapLabel, Matched, neither-svertex, label-unique, is-at_one, circle-point, Vertex, Edge, Complex, IsEdge, Shows, IsEdgePoint, zero-decided, self-pos, SameDirection-turned, SameDirection-trans, dir-self, in-span, dot-comm, direction-right, IsOpposite-same}
use Rattle.law_geometry.proofs.complex.Cones.{near-germ, sided-two}
use Rattle.law_geometry.proofs.complex.Ways.{between-way, between-ends, between-cases, onward, onward-way}
use Rattle.law_geometry.proofs.complex.Edges.{near_point, near-between, near-germs, near-flat, way-near, near-one, label-near}
use Rattle.nef_space.proofs.Elementary.{same-itself}

-- ---- a direction of a map is a svertex where close to p one direction is flat
module _ (s : Set) (p : SpacePoint) (M : Map) (K : Cone M s p) (L : Least M) (d : Vector) (y : SpacePoint) (w : SameDirection (toward p y) d) (one : FlatDim s (near_point s p y) 1) where
  abbrev q : SpacePoint
  q = near_point s p y

  some : IsDirection d
  some = direction-right (toward p y) d w

  -- the labels near d by the sides of a plane through d are the germs at q
  sided : (n : Vector) (a m b : Label) → dot n d ≡ pos 0 → MapLabel M d m → ((e : Vector) → IsDirection (cross d e) → Germ s q e (by_side a m b (sign (dot n e)))) → (e : Vector) → Germ s q e (by_side a m b (sign (dot n e)))
  sided n a m b level on all e = ⊎_elim (λ z. along z) (λ i. all e i) (zero-decided (cross d e))
    where
      along : IsZero (cross d e) → Germ s q e (by_side a m b (sign (dot n e)))
      along z =
          let k = label_of s q in
          let l = label-unique M K.valid d k.0 m (label-near M s p K d some q (near-germs s p d y w) k.0 k.1) on in
          let g = flat-germ s q e k.0 (span-1 s q d e some (near-flat s p d y w) z) k.1 in
          subst (λ (t : Sign). Germ s q e (by_side a m b t)) (sym (ap sign (in-span n d e some z level))) (subst (Germ s q e) l g)

  not-smooth : NearPlain M d ⊎ NearStraight M d → ⊥
  not-smooth (inl P) =
      let y = circle-point d some in
      let n = y.0 in
      let on = y.1 in
      let level : dot n d ≡ pos 0 = dot-comm n d ∙ on.level in
      one.1 (sided-two s q n d P.label P.label P.label (sided n P.label P.label P.label level P.at_d (λ e i. plain e i (sign (dot n e)))) on.direction some level)
    where
      plain : (e : Vector) → IsDirection (cross d e) → (t : Sign) → Germ s q e (by_side P.label P.label P.label t)
      plain e i plus = (near-germs s p d y w e P.label).1 (near-germ M s p K d e P.label (P.near e i))
      plain e i nought = (near-germs s p d y w e P.label).1 (near-germ M s p K d e P.label (P.near e i))
      plain e i minus = (near-germs s p d y w e P.label).1 (near-germ M s p K d e P.label (P.near e i))
  not-smooth (inr P) =
      one.1 (sided-two s q P.normal d P.pos P.label P.neg
      (sided P.normal P.pos P.label P.neg P.level P.at_d (λ e i.
      let l = by_side P.pos P.label P.neg (sign (dot P.normal e)) in
      (near-germs s p d y w e l).1 (near-germ M s p K d e l (P.near e i))))
      P.direction some P.level)

  pub svertex-toward : Matched M d
  svertex-toward = neither-svertex M K.valid L d some not-smooth

-- ---- an edge between two vertices
-- the edge joins svertex a of vertex i to svertex b of vertex j, in the one order or the other
pub record EdgeJoins (C : Complex) (i a j b : ℕ) : Type 0 where
  pub number : ℕ
  pub edge : Edge
  pub listed : IsAt C.edges number edge
  pub joins : ((edge.low ≡ i) × (edge.low_svertex ≡ a) × (edge.high ≡ j) × (edge.high_svertex ≡ b)) ⊎ ((edge.low ≡ j) × (edge.low_svertex ≡ b) × (edge.high ≡ i) × (edge.high_svertex ≡ a))

-- an edge whose ends are vertex i and vertex j, with the svertices that lead from the one to the other
pub record EdgeBetween (C : Complex) (i j : ℕ) (v w : Vertex) : Type 0 where
  pub source : ℕ
  pub target : ℕ
  pub source_end : MapVertex
  pub target_end : MapVertex
  pub leaves : IsAt v.map.svertices source source_end
  pub arrives : IsAt w.map.svertices target target_end
  pub ahead : SameDirection source_end.dir (toward v.point w.point)
  pub behind : SameDirection target_end.dir (toward w.point v.point)
  pub edge : EdgeJoins C i source j target

module _ (s : Set) (C : Complex) (S : Shows s C) where
  module _ (i j : ℕ) (v w : Vertex) (a : IsAt C.vertices i v) (b : IsAt C.vertices j w) (leads : IsDirection (toward v.point w.point)) (one : (r : SpacePoint) → IsBetween v.point r w.point → FlatDim s r 1) where
    back : IsDirection (toward w.point v.point)
    back z = leads (point-toward v.point w.point (same-point_sym w.point v.point (toward-point w.point v.point z)))

    pub from-v : Matched v.map (toward v.point w.point)
    from-v = svertex-toward s v.point v.map (S.cones i v a) (S.least i v a) (toward v.point w.point) w.point (dir-self (toward v.point w.point) leads)
        (one (near_point s v.point w.point) (near-between s v.point w.point leads))

    pub from-w : Matched w.map (toward w.point v.point)
    from-w = svertex-toward s w.point w.map (S.cones j w b) (S.least j w b) (toward w.point v.point) v.point (dir-self (toward w.point v.point) back)
        (one (near_point s w.point v.point) (between-turned w.point v.point (near_point s w.point v.point) (near-between s w.point v.point back)))

    none-between : (k : ℕ) (x : Vertex) → IsAt C.vertices k x → IsBetween v.point x.point w.point → ⊥
    none-between k x c d = let e = FlatDim-one s x.point 0 1 (S.vertices k x c) (one x.point d) in cc

    opposite-ends : (p q : SpacePoint) → IsDirection (toward p q) → IsOpposite (toward p q) (toward q p)
    opposite-ends p q i = record {
      parallel = (each p.y q.y p.z q.z (pos p.w) (pos q.w), each p.z q.z p.x q.x (pos p.w) (pos q.w), each p.x q.x p.y q.y (pos p.w) (pos q.w));
      backward =
          let h = self-pos (toward p q) i in
          let r : dot (toward p q) (toward q p) ≡ neg_ℤ (dot (toward p q) (toward p q)) = ring (p.x ∷ p.y ∷ p.z ∷ q.x ∷ q.y ∷ q.z ∷ pos p.w ∷ pos q.w ∷ [])
          ((at 3 ⊗ at 6 ⊖ at 0 ⊗ at 7) ⊗ (at 0 ⊗ at 7 ⊖ at 3 ⊗ at 6) ⊕ (at 4 ⊗ at 6 ⊖ at 1 ⊗ at 7) ⊗ (at 1 ⊗ at 7 ⊖ at 4 ⊗ at 6) ⊕ (at 5 ⊗ at 6 ⊖ at 2 ⊗ at 7) ⊗ (at 2 ⊗ at 7 ⊖ at 5 ⊗ at 6))
          (neg ((at 3 ⊗ at 6 ⊖ at 0 ⊗ at 7) ⊗ (at 3 ⊗ at 6 ⊖ at 0 ⊗ at 7) ⊕ (at 4 ⊗ at 6 ⊖ at 1 ⊗ at 7) ⊗ (at 4 ⊗ at 6 ⊖ at 1 ⊗ at 7) ⊕ (at 5 ⊗ at 6 ⊖ at 2 ⊗ at 7) ⊗ (at 5 ⊗ at 6 ⊖ at 2 ⊗ at 7))) tt in
          omega (arith, ints);
    }
      where
        each : (x y x' y' u v : ℤ) → (y *ℤ u -ℤ x *ℤ v) *ℤ (x' *ℤ v -ℤ y' *ℤ u) -ℤ (y' *ℤ u -ℤ x' *ℤ v) *ℤ (x *ℤ v -ℤ y *ℤ u) ≡ pos 0
        each x y x' y' u v = ring (x ∷ y ∷ x' ∷ y' ∷ u ∷ v ∷ []) ((at 1 ⊗ at 4 ⊖ at 0 ⊗ at 5) ⊗ (at 2 ⊗ at 5 ⊖ at 3 ⊗ at 4) ⊖ (at 3 ⊗ at 4 ⊖ at 2 ⊗ at 5) ⊗ (at 0 ⊗ at 5 ⊖ at 1 ⊗ at 4)) (num (pos 0)) tt

    -- the edge that goes up from v to w
    abbrev edge-up : Edge
    edge-up = record { low = i; low_svertex = from-v.number; high = j; high_svertex = from-w.number; mark = from-v.svertex.mark }

    is-edge : i < j → IsEdge C.vertices edge-up
    is-edge up = record {
      low_vertex = v;
      high_vertex = w;
      low_end = from-v.svertex;
      high_end = from-w.svertex;
      is_low = a;
      is_high = b;
      leaves = from-v.listed;
      arrives = from-w.listed;
      upward = up;
      ahead = SameDirection-turned from-v.svertex.dir (toward v.point w.point) from-v.same;
      first = none-between;
      back = IsOpposite-same from-v.svertex.dir (toward v.point w.point) from-w.svertex.dir (toward w.point v.point) from-v.same from-w.same (opposite-ends v.point w.point leads);
      mark = refl;
    }

    joined-up : i < j → EdgeBetween C i j v w
    joined-up up =
        let k = S.edges.complete edge-up (is-edge up) in
        record {
          source = from-v.number;
          target = from-w.number;
          source_end = from-v.svertex;
          target_end = from-w.svertex;
          leaves = from-v.listed;
          arrives = from-w.listed;
          ahead = from-v.same;
          behind = from-w.same;
          edge = record { number = k.0; edge = edge-up; listed = k.1; joins = inl (refl, refl, refl, refl) };
        }

  module _ (i j : ℕ) (v w : Vertex) (a : IsAt C.vertices i v) (b : IsAt C.vertices j w) (leads : IsDirection (toward v.point w.point)) (one : (r : SpacePoint) → IsBetween v.point r w.point → FlatDim s r 1) where
    pub edge-between : EdgeBetween C i j v w
    edge-between = ⊎_elim (λ e. absurd (apart e)) (λ o. ⊎_elim (λ l. joined-up i j v w a b leads one l) (λ l. turned (joined-up j i w v b a (back i j v w a b leads one) (λ r h. one r (between-turned w.point v.point r h)) l)) o) (cases_order i j)
      where
        apart : i ≡ j → ⊥
        apart e =
            let same = is-at_one C.vertices j v w (subst (λ (k : ℕ). IsAt C.vertices k v) e a) b in
            leads (point-toward v.point w.point (subst (λ (x : Vertex). SamePoint v.point x.point) same (same-itself v.point)))

        turned : EdgeBetween C j i w v → EdgeBetween C i j v w
        turned E = record {
          source = E.target;
          target = E.source;
          source_end = E.target_end;
          target_end = E.source_end;
          leaves = E.arrives;
          arrives = E.leaves;
          ahead = E.behind;
          behind = E.ahead;
          edge = record { number = E.edge.number; edge = E.edge.edge; listed = E.edge.listed; joins = ⊎_elim (λ h. inr h) (λ h. inl h) E.edge.joins };
        }

  -- ---- each point with one flat direction lies on an edge
  pub edges-complete : (y : SpacePoint) → FlatDim s y 1 → (k : ℕ) × IsEdgePoint C k y
  edges-complete y f =
      let A = edge-around s y f in
      let v = S.complete A.source A.source_is_vertex in
      let w = S.complete A.target A.target_is_vertex in
      let b = between-same A.source y A.target v.1.point y w.1.point (same-point_sym v.1.point A.source v.3) (same-itself y) (same-point_sym w.1.point A.target w.3) A.between in
      let E = edge-between v.0 w.0 v.1 w.1 v.2 w.2 (between-ends v.1.point y w.1.point b) (λ r h. A.even r (between-same v.1.point r w.1.point A.source r A.target v.3 (same-itself r) w.3 h)) in
      point v.0 w.0 v.1 w.1 v.2 w.2 E b E.edge.joins
    where
      point : (i j : ℕ) (v w : Vertex) → IsAt C.vertices i v → IsAt C.vertices j w → (E : EdgeBetween C i j v w) → IsBetween v.point y w.point
          → ((E.edge.edge.low ≡ i) × (E.edge.edge.low_svertex ≡ E.source) × (E.edge.edge.high ≡ j) × (E.edge.edge.high_svertex ≡ E.target)) ⊎ ((E.edge.edge.low ≡ j) × (E.edge.edge.low_svertex ≡ E.target) × (E.edge.edge.high ≡ i) × (E.edge.edge.high_svertex ≡ E.source))
          → (k : ℕ) × IsEdgePoint C k y
      point i j v w a b E h (inl c) = (E.edge.number, (E.edge.edge, v, w, E.edge.listed, record { low = subst (λ (k : ℕ). IsAt C.vertices k v) (sym c.0) a; high = subst (λ (k : ℕ). IsAt C.vertices k w) (sym c.2) b }, h))
      point i j v w a b E h (inr c) = (E.edge.number, (E.edge.edge, w, v, E.edge.listed, record { low = subst (λ (k : ℕ). IsAt C.vertices k w) (sym c.0) b; high = subst (λ (k : ℕ). IsAt C.vertices k v) (sym c.2) a }, between-turned v.point w.point y h))

  -- ---- each svertex is an end of an edge
  module _ (i k : ℕ) (v : Vertex) (u : MapVertex) (a : IsAt C.vertices i v) (b : IsAt v.map.svertices k u) where
    abbrev ahead_of : SpacePoint
    ahead_of = onward v.point u.dir

    way_out : IsDirection u.dir
    way_out = (S.cones i v a).valid.shaped.svertex_dirs k u b

    ahead-way : SameDirection (toward v.point ahead_of) u.dir
    ahead-way = onward-way v.point u.dir way_out

    abbrev close : SpacePoint
    close = near_point s v.point ahead_of

    close-one : FlatDim s close 1
    close-one = near-one s C S i k v u a b ahead_of ahead-way

    -- the end of the flat way is a vertex
    abbrev way_end : WayEnd s 1 close u.dir
    way_end = flat_way-end s 1 close u.dir (omega arith) close-one way_out (near-flat s v.point u.dir ahead_of ahead-way)

    end-vertex : IsVertex s way_end.at_place
    end-vertex = let l : way_end.drops.0 ≡ 0 = (let h = way_end.drops.1 in omega arith) in subst (FlatDim s way_end.at_place) l way_end.drops.2

    -- the point close to v lies between v and that end
    close-between : IsBetween v.point close way_end.at_place
    close-between = SameDirection-trans (toward v.point close) u.dir (toward close way_end.at_place) (way-near s v.point u.dir ahead_of ahead-way) (SameDirection-turned (toward close way_end.at_place) u.dir way_end.is_ahead)

    all-one : (r : SpacePoint) → IsBetween v.point r way_end.at_place → FlatDim s r 1
    all-one r h = by (between-cases v.point close way_end.at_place r close-between h)
      where
        by : IsBetween v.point r close ⊎ SamePoint r close ⊎ IsBetween close r way_end.at_place → FlatDim s r 1
        by (inl c) = FlatDim-by_germs s s close r (germs-by_cell s close r (ray-cell (carriers s) v.point close r (start-close (reach_all (carriers s) v.point) v.point ahead_of) c)) 1 close-one
        by (inr (inl e)) = FlatDim-by_germs s s close r (germs-by_cell s close r (signs-same (carriers s) close r (same-point_sym r close e))) 1 close-one
        by (inr (inr c)) = way_end.even_before r c

    pub svertex-edge : (n : ℕ) × (e : Edge) × IsAt C.edges n e × (((e.low ≡ i) × (e.low_svertex ≡ k)) ⊎ ((e.high ≡ i) × (e.high_svertex ≡ k)))
    svertex-edge =
        let w = S.complete way_end.at_place end-vertex in
        let x = way_end.at_place in
        let t : IsBetween v.point close w.1.point = between-same v.point close x v.point close w.1.point (same-itself v.point) (same-itself close) (same-point_sym w.1.point x w.3) close-between in
        let E = edge-between i w.0 v w.1 a w.2 (between-ends v.point close w.1.point t) (λ r h. all-one r (between-same v.point r w.1.point v.point r x (same-itself v.point) (same-itself r) w.3 h)) in
        let way : SameDirection E.source_end.dir u.dir = SameDirection-trans E.source_end.dir (toward v.point w.1.point) u.dir E.ahead
        (SameDirection-trans (toward v.point w.1.point) (toward v.point close) u.dir (SameDirection-turned (toward v.point close) (toward v.point w.1.point) (between-way v.point close w.1.point t)) (way-near s v.point u.dir ahead_of ahead-way)) in
        let same : E.source ≡ k = (S.cones i v a).valid.shaped.svertices_apart E.source k E.source_end u E.leaves b way in
        (E.edge.number, E.edge.edge, E.edge.listed, ⊎_elim (λ c. inl (c.0, c.1 ∙ same)) (λ c. inr (c.2, c.3 ∙ same)) E.edge.joins)
