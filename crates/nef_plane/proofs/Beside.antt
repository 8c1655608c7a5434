-- An edge along the ray has an end between the ray's start and each of its points ahead.
use Rattle.nef_plane.proofs.Prelude.{◌≡◌, ℕ, ℤ, pos, neg_ℤ, ◌-ℤ◌, ◌*ℤ◌, ◌<ℤ◌, arith, sym, ap, ◌∙◌, ◌⊎◌, inl, inr, ⊎_elim, subst, refl, [], ◌∷◌, ints, ring, at, num, neg, ◌⊕◌, ◌⊖◌, ◌⊗◌, by_order, SpacePoint, Form, toward, SamePoint, IsAhead, IsBetween, Set, Vector, opposite, dot, cross, IsZero, IsDirection, SameDirection, IsOpposite, between-same, toward-point, between-inner, between-turned, same-point_sym, IsAt, is-at_one, HasEnds, IsEdge, Shows, meets_edge, IsVertexPoint, cross-back, ahead-back, between-way, between-ends, HoldsBoth, on_line, HasNoSvertex, IsOffEdges, AtEdgeNumber, dot-comm, zero-decided, vector-same, cross-turned, nought-if, SameDirection-turned, SameDirection-trans}
use Rattle.law_geometry.specs.complex.Complexes.{Vertex, Edge, Complex}
use Rattle.nef_space.proofs.Elementary.{same-itself}

-- ---- turned ways
opposite-way : (a b : Vector) → IsOpposite a b → SameDirection b (opposite a)
opposite-way a b o = record {
  parallel = (each a.y a.z b.y b.z o.parallel.0, each a.z a.x b.z b.x o.parallel.1, each a.x a.y b.x b.y o.parallel.2);
  forward = let m = o.backward in
      let r : dot b (opposite a) ≡ neg_ℤ (dot a b) = ring (a.x ∷ a.y ∷ a.z ∷ b.x ∷ b.y ∷ b.z ∷ []) (at 3 ⊗ neg (at 0) ⊕ at 4 ⊗ neg (at 1) ⊕ at 5 ⊗ neg (at 2)) (neg (at 0 ⊗ at 3 ⊕ at 1 ⊗ at 4 ⊕ at 2 ⊗ at 5)) tt in
      omega (arith, ints);
}
  where
    each : (a b c e : ℤ) → a *ℤ e -ℤ b *ℤ c ≡ pos 0 → c *ℤ neg_ℤ b -ℤ e *ℤ neg_ℤ a ≡ pos 0
    each a b c e z = ring (a ∷ b ∷ c ∷ e ∷ []) (at 2 ⊗ neg (at 1) ⊖ at 3 ⊗ neg (at 0)) (at 0 ⊗ at 3 ⊖ at 1 ⊗ at 2) tt ∙ z

turned-way : (p v : SpacePoint) (d : Vector) → IsZero (cross (toward p v) d) → dot (toward p v) d <ℤ pos 0 → SameDirection (toward v p) d
turned-way p v d z m = subst (λ (t : Vector). SameDirection t d) (vector-same (opposite (toward p v)) (toward v p) (omega (arith, ints)) (omega (arith, ints)) (omega (arith, ints))) (back (toward p v) z m)
  where
    back : (t : Vector) → IsZero (cross t d) → dot t d <ℤ pos 0 → SameDirection (opposite t) d
    back t z m = record {
      parallel = (each t.y t.z d.y d.z z.0, each t.z t.x d.z d.x z.1, each t.x t.y d.x d.y z.2);
      forward = let r : dot (opposite t) d ≡ neg_ℤ (dot t d) = ring (t.x ∷ t.y ∷ t.z ∷ d.x ∷ d.y ∷ d.z ∷ []) (neg (at 0) ⊗ at 3 ⊕ neg (at 1) ⊗ at 4 ⊕ neg (at 2) ⊗ at 5) (neg (at 0 ⊗ at 3 ⊕ at 1 ⊗ at 4 ⊕ at 2 ⊗ at 5)) tt in omega (arith, ints);
    }
      where
        each : (a b c e : ℤ) → a *ℤ e -ℤ b *ℤ c ≡ pos 0 → neg_ℤ a *ℤ e -ℤ neg_ℤ b *ℤ c ≡ pos 0
        each a b c e z = ring (a ∷ b ∷ c ∷ e ∷ []) (neg (at 0) ⊗ at 3 ⊖ neg (at 1) ⊗ at 2) (num (pos 0) ⊖ (at 0 ⊗ at 3 ⊖ at 1 ⊗ at 2)) tt ∙ ap (λ r. pos 0 -ℤ r) z

module _ (C : Complex) (h : Form) (p : SpacePoint) (d : Vector) (some : IsDirection d) (none_there : HasNoSvertex C p d) where
  -- the end from which the edge leaves along d
  end-before : (v w q : SpacePoint) → IsBetween v q w → IsAhead p d q → SameDirection (toward v w) d → (SamePoint v p → ⊥) → (IsBetween v p w → ⊥) → IsBetween p v q
  end-before v w q b ahead t apart off = by_order (dot (toward p v) d) (pos 0)
      (λ m. absurd (off (between-inner v q w p b (SameDirection-trans (toward v p) d (toward p q) (turned-way p v d line m) (SameDirection-turned (toward p q) d ahead)))))
      (λ o. absurd (apart (same-point_sym p v (toward-point p v (nought-if d (toward p v) some (cross-turned (toward p v) d line) (dot-comm d (toward p v) ∙ o))))))
      (λ m. SameDirection-trans (toward p v) d (toward v q) (record { parallel = line; forward = m }) (SameDirection-turned (toward v q) d way))
    where
      way : SameDirection (toward v q) d
      way = SameDirection-trans (toward v q) (toward v w) d (between-way v q w b) t

      line : IsZero (cross (toward p v) d)
      line = on_line q p v d (back p ahead.parallel) (back v way.parallel)
        where
          back : (r : SpacePoint) → IsZero (cross (toward r q) d) → IsZero (cross (toward q r) d)
          back r z = cross-turned d (toward q r) (cross-back d r q (cross-turned (toward r q) d z))

  module _ (s : Set) (S : Shows s C) (off : IsOffEdges C h p) (k : ℕ) (e : Edge) (v w : Vertex) (q : SpacePoint) (a : IsAt C.edges k e) (H : HasEnds C e v w) (b : IsBetween v.point q w.point)
      (i : HoldsBoth h v.point w.point) (ahead : IsAhead p d q) where
    E : IsEdge C.vertices e
    E = S.edges.edges k e a

    low-is : E.low_vertex ≡ v
    low-is = is-at_one C.vertices e.low E.low_vertex v E.is_low H.low

    high-is : E.high_vertex ≡ w
    high-is = is-at_one C.vertices e.high E.high_vertex w E.is_high H.high

    never-inside : IsBetween v.point p w.point → ⊥
    never-inside m = ⊎_elim
        (λ ((j, (x, l, o)) : (j : ℕ) × IsVertexPoint C j p). E.first j x l (subst (λ (y : Vertex). IsBetween y.point x.point E.high_vertex.point) (sym low-is) (subst (λ (y : Vertex). IsBetween v.point x.point y.point) (sym high-is)
        (between-same v.point p w.point v.point x.point w.point (same-itself v.point) (same-point_sym x.point p o) (same-itself w.point) m))))
        (λ f. f k (e, v, w, a, H, m) (e, v, w, a, H, i.0, i.1)) off

    leaves : SameDirection E.low_end.dir (toward v.point w.point)
    leaves = SameDirection-turned (toward v.point w.point) E.low_end.dir
        (subst (λ (y : Vertex). SameDirection (toward y.point w.point) E.low_end.dir) low-is (subst (λ (y : Vertex). SameDirection (toward E.low_vertex.point y.point) E.low_end.dir) high-is E.ahead))

    arrives : SameDirection E.high_end.dir (toward w.point v.point)
    arrives = SameDirection-trans E.high_end.dir (opposite E.low_end.dir) (toward w.point v.point) (opposite-way E.low_end.dir E.high_end.dir E.back)
        (SameDirection-turned (toward w.point v.point) (opposite E.low_end.dir) (ahead-back v.point w.point E.low_end.dir (SameDirection-turned E.low_end.dir (toward v.point w.point) leaves)))

    abbrev Found : Type 0
    Found = AtEdgeNumber C h d k (meets_edge k) q ⊎ ((j : ℕ) × (x : Vertex) × IsAt C.vertices j x × IsBetween p x.point q)

    low-first : SameDirection (toward v.point w.point) d → IsBetween p v.point q
    low-first t = end-before v.point w.point q b ahead t
        (λ o. none_there e.low e.low_svertex v E.low_end H.low o (subst (λ (y : Vertex). IsAt y.map.svertices e.low_svertex E.low_end) low-is E.leaves) (SameDirection-trans E.low_end.dir (toward v.point w.point) d leaves t))
        never-inside

    high-first : SameDirection (toward w.point v.point) d → IsBetween p w.point q
    high-first t = end-before w.point v.point q (between-turned v.point w.point q b) ahead t
        (λ o. none_there e.high e.high_svertex w E.high_end H.high o (subst (λ (y : Vertex). IsAt y.map.svertices e.high_svertex E.high_end) high-is E.arrives) (SameDirection-trans E.high_end.dir (toward w.point v.point) d arrives t))
        (λ m. never-inside (between-turned w.point v.point p m))

    -- the edge isn't along the ray, or has an end before its point
    pub edge-or_end : Found
    edge-or_end = ⊎_elim
        (λ z. by_order (dot (toward v.point w.point) d) (pos 0)
        (λ m. inr (e.high, w, H.high, high-first (turned-way v.point w.point d z m)))
        (λ o. absurd (between-ends v.point q w.point b (nought-if d (toward v.point w.point) some (cross-turned (toward v.point w.point) d z) (dot-comm d (toward v.point w.point) ∙ o))))
        (λ m. inr (e.low, v, H.low, low-first (record { parallel = z; forward = m }))))
        (λ n. inl (refl, e, v, w, a, H, b, i, n)) (zero-decided (cross (toward v.point w.point) d))
