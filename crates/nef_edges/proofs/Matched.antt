-- Edges that are matched end by end are the edges of the vertices.
use Rattle.nef_edges.proofs.Prelude.{◌≡◌, ℕ, zero, suc, ◌+◌, ◌<◌, ◌≤◌, pos, ℤ, ◌-ℤ◌, ◌*ℤ◌, neg_ℤ, List, [], ◌∷◌, length, arith, sym, ap, subst, ◌∙◌, inl, inr, ⊎_elim, cases_order, cases_lt, ints, ring, at, neg, ◌⊖◌, ◌⊗◌, SpacePoint, toward, IsAhead, IsBetween, IsPointBelow, Vector, cross, opposite, IsZero, IsNormal, SameDirection, IsOpposite, IsAt, MapVertex, is-at_one, IsEdge, IsEdgeBelow, Edges, on_line, AreJoined, IsMatched, AreMatched, SameDirection-turned, SameDirection-trans}
use Rattle.law_geometry.specs.complex.Complexes.{Vertex, Edge}
use Rattle.nef_edges.proofs.Existing.{one-edge}
use Rattle.nef_edges.proofs.Rays.{ahead-normal, middle-between, to_opposite, opposites-same}
use Rattle.nef_space.proofs.Lists.{is-at_within}
use Rattle.law_geometry.proofs.near.Normals.{normal-kept}
use Rattle.law_geometry.proofs.complex.Equal.{edges-equal}

-- ---- points on one line
line-back : (p q : SpacePoint) (d : Vector) → IsZero (cross (toward p q) d) → IsZero (cross (toward q p) d)
line-back p q d z = (each p.y p.z q.y q.z d.y d.z z.0, each p.z p.x q.z q.x d.z d.x z.1, each p.x p.y q.x q.y d.x d.y z.2)
  where
    each : (a b u v e f : ℤ) → (u *ℤ pos p.w -ℤ a *ℤ pos q.w) *ℤ f -ℤ (v *ℤ pos p.w -ℤ b *ℤ pos q.w) *ℤ e ≡ pos 0 → (a *ℤ pos q.w -ℤ u *ℤ pos p.w) *ℤ f -ℤ (b *ℤ pos q.w -ℤ v *ℤ pos p.w) *ℤ e ≡ pos 0
    each a b u v e f h =
        ring (a ∷ b ∷ u ∷ v ∷ e ∷ f ∷ pos p.w ∷ pos q.w ∷ []) ((at 0 ⊗ at 7 ⊖ at 2 ⊗ at 6) ⊗ at 5 ⊖ (at 1 ⊗ at 7 ⊖ at 3 ⊗ at 6) ⊗ at 4)
        (neg ((at 2 ⊗ at 6 ⊖ at 0 ⊗ at 7) ⊗ at 5 ⊖ (at 3 ⊗ at 6 ⊖ at 1 ⊗ at 7) ⊗ at 4)) tt
        ∙ ap neg_ℤ h

-- of three points in order, two of which lie on one line with the last, the second lies between the others
between-back : (x u v : SpacePoint) (d e : Vector) → IsNormal d → IsPointBelow x u → IsPointBelow u v → IsZero (cross (toward u v) d) → SameDirection e d → IsAhead x e v → IsBetween x u v
between-back x u v d e n h k z s a =
    let b = SameDirection-trans (toward x v) e d a s in
    middle-between x u v d n h k (on_line v x u d (line-back x v d b.parallel) (line-back u v d z)) b.parallel

-- ---- matched edges
module _ (vs : List Vertex) (es : List Edge) (J : AreJoined vs) (M : AreMatched vs es) where
  -- where the edges from later vertices are right, one is right
  module _ (k : ℕ) (e : Edge) (l : IsAt es k e) (later : (m : ℕ) (c : Edge) → IsAt es m c → e.low < c.low → IsEdge vs c) (E : IsMatched vs e) where
    abbrev p : SpacePoint
    p = E.low_vertex.point

    abbrev v : SpacePoint
    v = E.high_vertex.point

    abbrev d : Vector
    d = E.low_end.dir

    along : SameDirection E.low_end.dir (opposite E.high_end.dir)
    along = to_opposite E.low_end.dir E.high_end.dir E.back

    -- f is the edge from the same svertex
    module _ (f : Edge) (F : IsEdge vs f) (h : f.low ≡ e.low) (i : f.low_svertex ≡ e.low_svertex) where
      abbrev u : SpacePoint
      u = F.high_vertex.point

      low-is : F.low_vertex ≡ E.low_vertex
      low-is = is-at_one vs e.low F.low_vertex E.low_vertex (subst (λ n. IsAt vs n F.low_vertex) h F.is_low) E.is_low

      start-is : F.low_end ≡ E.low_end
      start-is = is-at_one E.low_vertex.map.svertices e.low_svertex F.low_end E.low_end
          (subst (λ (w : Vertex). IsAt w.map.svertices e.low_svertex F.low_end) low-is (subst (λ n. IsAt F.low_vertex.map.svertices n F.low_end) i F.leaves)) E.leaves

      ahead : IsAhead p d u
      ahead = subst (λ (s : MapVertex). SameDirection (toward p u) s.dir) start-is (subst (λ (w : Vertex). SameDirection (toward w.point u) F.low_end.dir) low-is F.ahead)

      back : IsOpposite E.low_end.dir F.high_end.dir
      back = subst (λ (s : MapVertex). IsOpposite s.dir F.high_end.dir) start-is F.back

      same : f.high ≡ e.high → IsEdge vs e
      same g =
          let high = is-at_one vs e.high F.high_vertex E.high_vertex (subst (λ n. IsAt vs n F.high_vertex) g F.is_high) E.is_high in
          let arrives = subst (λ (w : Vertex). IsAt w.map.svertices f.high_svertex F.high_end) high F.arrives in
          let way = opposites-same E.low_end.dir F.high_end.dir E.high_end.dir back E.back in
          let end = (J.shaped e.high E.high_vertex E.is_high).svertices_apart f.high_svertex e.high_svertex F.high_end E.high_end arrives E.arrives way in
          subst (IsEdge vs) (edges-equal f e h i g end (F.mark ∙ ap (λ (s : MapVertex). s.mark) start-is ∙ sym E.mark)) F

      -- no matched end lies before that of the edge
      not-before : e.high < f.high → ⊥
      not-before b =
          subst (λ (w : Vertex). (n : ℕ) (x : Vertex) → IsAt vs n x → IsBetween w.point x.point u → ⊥) low-is F.first e.high E.high_vertex E.is_high
          (middle-between p v u d E.leading (J.ordered e.low e.high E.low_vertex E.high_vertex E.upward E.is_low E.is_high)
          (J.ordered e.high f.high E.high_vertex F.high_vertex b E.is_high F.is_high) E.on_line ahead.parallel)

      -- and none lies behind it: g is the edge that arrives there, and is matched to it already
      module _ (b : f.high < e.high) (g : Edge) (G : IsEdge vs g) (gh : g.high ≡ e.high) (gi : g.high_svertex ≡ e.high_svertex) where
        top-is : G.high_vertex ≡ E.high_vertex
        top-is = is-at_one vs e.high G.high_vertex E.high_vertex (subst (λ n. IsAt vs n G.high_vertex) gh G.is_high) E.is_high

        end-is : G.high_end ≡ E.high_end
        end-is = is-at_one E.high_vertex.map.svertices e.high_svertex G.high_end E.high_end
            (subst (λ (w : Vertex). IsAt w.map.svertices e.high_svertex G.high_end) top-is (subst (λ n. IsAt G.high_vertex.map.svertices n G.high_end) gi G.arrives)) E.arrives

        one-way : SameDirection G.low_end.dir E.low_end.dir
        one-way = SameDirection-trans G.low_end.dir (opposite E.high_end.dir) E.low_end.dir
            (to_opposite G.low_end.dir E.high_end.dir (subst (λ (s : MapVertex). IsOpposite G.low_end.dir s.dir) end-is G.back)) (SameDirection-turned E.low_end.dir (opposite E.high_end.dir) along)

        level : IsZero (cross (toward u v) d)
        level = on_line p u v d ahead.parallel E.on_line

        from-there : g.low < f.high → ⊥
        from-there c =
            subst (λ (w : Vertex). (n : ℕ) (x : Vertex) → IsAt vs n x → IsBetween G.low_vertex.point x.point w.point → ⊥) top-is G.first f.high F.high_vertex F.is_high
            (between-back G.low_vertex.point u v d G.low_end.dir E.leading (J.ordered g.low f.high G.low_vertex F.high_vertex c G.is_low F.is_high)
            (J.ordered f.high e.high F.high_vertex E.high_vertex b F.is_high E.is_high) level one-way
            (subst (λ (w : Vertex). SameDirection (toward G.low_vertex.point w.point) G.low_end.dir) top-is G.ahead))

        above : e.low < g.low
        above = ⊎_elim (λ c. absurd (from-there c)) (λ c. let a = F.upward in omega (arith, a, h)) (cases_lt g.low f.high)

        taken : (m : ℕ) (c : Edge) → IsAt es m c → c.low ≡ g.low → c.low_svertex ≡ g.low_svertex → ⊥
        taken m c C ch ci =
            let a = above in
            let one = one-edge vs J.ordered J.shaped c g (later m c C (omega (arith, a, ch))) G ch ci in
            let n = M.once m k c e C l (ap (λ (x : Edge). x.high) one ∙ gh) (ap (λ (x : Edge). x.high_svertex) one ∙ gi) in
            let z = ap (λ (x : Edge). x.low) (is-at_one es k c e (subst (λ j. IsAt es j c) n C) l) in
            omega (arith, a, ch, z)

        twice : ⊥
        twice =
            let c = M.all g.low g.low_svertex G.low_vertex G.low_end G.is_low G.leaves (normal-kept E.low_end.dir G.low_end.dir (SameDirection-turned G.low_end.dir E.low_end.dir one-way) E.leading) in
            taken c.0 c.1 c.2 c.3 c.4

      not-behind : f.high < e.high → ⊥
      not-behind b =
          let g = J.arrived e.high e.high_svertex E.high_vertex E.high_end E.is_high E.arrives (normal-kept E.low_end.dir (opposite E.high_end.dir) along E.leading) in
          twice b g.0 g.1.0 g.1.1 g.1.2

      right-with : IsEdge vs e
      right-with = ⊎_elim (λ g. same g) (λ o. ⊎_elim (λ b. absurd (not-behind b)) (λ b. absurd (not-before b)) o) (cases_order f.high e.high)

    right-after : IsEdge vs e
    right-after = let f = J.joined e.low e.low_svertex E.low_vertex E.low_end E.is_low E.leaves E.leading in right-with f.0 f.1.0 f.1.1 f.1.2

  -- downward on the lower vertex
  right-from : (n k : ℕ) (e : Edge) → IsAt es k e → length vs ≤ e.low + n → IsEdge vs e
  right-from zero k e l h = let E = M.each k e l in let w = is-at_within vs e.low E.low_vertex E.is_low in absurd (omega (arith, w, h))
  right-from (suc n) k e l h = right-after k e l (λ m c C b. right-from n m c C (omega (arith, b, h))) (M.each k e l)

  right : (k : ℕ) (e : Edge) → IsAt es k e → IsEdge vs e
  right k e l = right-from (length vs) k e l (omega arith)

  all-right : (e : Edge) → IsEdge vs e → (k : ℕ) × IsAt es k e
  all-right e E =
      let n = ahead-normal E.low_vertex.point E.high_vertex.point E.low_end.dir (J.ordered e.low e.high E.low_vertex E.high_vertex E.upward E.is_low E.is_high) E.ahead in
      let c = M.all e.low e.low_svertex E.low_vertex E.low_end E.is_low E.leaves n in
      (c.0, subst (IsAt es c.0) (one-edge vs J.ordered J.shaped c.1 e (right c.0 c.1 c.2) E c.3 c.4) c.2)

pub matched-are_edges : (vs : List Vertex) (es : List Edge) → AreJoined vs → AreMatched vs es → Edges vs es
matched-are_edges vs es J M = record { edges = right vs es J M; complete = all-right vs es J M; ordered = M.ordered }

-- ---- the edges are matched
module _ (vs : List Vertex) (es : List Edge) (J : AreJoined vs) (S : Edges vs es) where
  leads : (e : Edge) (E : IsEdge vs e) → IsNormal E.low_end.dir
  leads e E = ahead-normal E.low_vertex.point E.high_vertex.point E.low_end.dir (J.ordered e.low e.high E.low_vertex E.high_vertex E.upward E.is_low E.is_high) E.ahead

  matched : (e : Edge) → IsEdge vs e → IsMatched vs e
  matched e E = record {
    low_vertex = E.low_vertex;
    high_vertex = E.high_vertex;
    low_end = E.low_end;
    high_end = E.high_end;
    is_low = E.is_low;
    is_high = E.is_high;
    leaves = E.leaves;
    arrives = E.arrives;
    upward = E.upward;
    leading = leads e E;
    on_line = E.ahead.parallel;
    back = E.back;
    mark = E.mark;
  }

  -- of two edges to one svertex the lower ends can't lie one after the other
  module _ (e f : Edge) (E : IsEdge vs e) (F : IsEdge vs f) (h : e.high ≡ f.high) (i : e.high_svertex ≡ f.high_svertex) where
    top-same : E.high_vertex ≡ F.high_vertex
    top-same = is-at_one vs f.high E.high_vertex F.high_vertex (subst (λ n. IsAt vs n E.high_vertex) h E.is_high) F.is_high

    end-same : E.high_end ≡ F.high_end
    end-same = is-at_one F.high_vertex.map.svertices f.high_svertex E.high_end F.high_end
        (subst (λ (w : Vertex). IsAt w.map.svertices f.high_svertex E.high_end) top-same (subst (λ n. IsAt E.high_vertex.map.svertices n E.high_end) i E.arrives)) F.arrives

    way-same : SameDirection E.low_end.dir F.low_end.dir
    way-same = SameDirection-trans E.low_end.dir (opposite F.high_end.dir) F.low_end.dir
        (to_opposite E.low_end.dir F.high_end.dir (subst (λ (s : MapVertex). IsOpposite E.low_end.dir s.dir) end-same E.back))
        (SameDirection-turned F.low_end.dir (opposite F.high_end.dir) (to_opposite F.low_end.dir F.high_end.dir F.back))

    not-earlier : e.low < f.low → ⊥
    not-earlier l =
        subst (λ (w : Vertex). (n : ℕ) (x : Vertex) → IsAt vs n x → IsBetween E.low_vertex.point x.point w.point → ⊥) top-same E.first f.low F.low_vertex F.is_low
        (between-back E.low_vertex.point F.low_vertex.point F.high_vertex.point F.low_end.dir E.low_end.dir (leads f F) (J.ordered e.low f.low E.low_vertex F.low_vertex l E.is_low F.is_low)
        (J.ordered f.low f.high F.low_vertex F.high_vertex F.upward F.is_low F.is_high) F.ahead.parallel way-same
        (subst (λ (w : Vertex). SameDirection (toward E.low_vertex.point w.point) E.low_end.dir) top-same E.ahead))

    one-start : e.low ≡ f.low → e.low_svertex ≡ f.low_svertex
    one-start g =
        let low = is-at_one vs f.low E.low_vertex F.low_vertex (subst (λ n. IsAt vs n E.low_vertex) g E.is_low) F.is_low in
        (J.shaped f.low F.low_vertex F.is_low).svertices_apart e.low_svertex f.low_svertex E.low_end F.low_end (subst (λ (w : Vertex). IsAt w.map.svertices e.low_svertex E.low_end) low E.leaves) F.leaves way-same

  not-below : (e f : Edge) → e.low ≡ f.low → e.low_svertex ≡ f.low_svertex → IsEdgeBelow e f → ⊥
  not-below e f g h (inl a) = omega (arith, ints, g)
  not-below e f g h (inr (a, inl b)) = omega (arith, ints, h)
  not-below e f g h (inr (a, inr b)) = b.1

  one-place : (k l : ℕ) (e f : Edge) → IsAt es k e → IsAt es l f → e.low ≡ f.low → e.low_svertex ≡ f.low_svertex → k ≡ l
  one-place k l e f a b g h =
      ⊎_elim (λ r. r) (λ o. ⊎_elim (λ r. absurd (not-below e f g h (S.ordered k l e f r a b))) (λ r. absurd (not-below f e (sym g) (sym h) (S.ordered l k f e r b a))) o) (cases_order k l)

  at-once : (k l : ℕ) (e f : Edge) → IsAt es k e → IsAt es l f → e.high ≡ f.high → e.high_svertex ≡ f.high_svertex → k ≡ l
  at-once k l e f a b h i =
      let E = S.edges k e a in let F = S.edges l f b in
      let g : e.low ≡ f.low = ⊎_elim (λ r. r) (λ o. ⊎_elim (λ r. absurd (not-earlier e f E F h i r)) (λ r. absurd (not-earlier f e F E (sym h) (sym i) r)) o) (cases_order e.low f.low) in
      one-place k l e f a b g (one-start e f E F h i g)

  from-each : (i a : ℕ) (v : Vertex) (u : MapVertex) → IsAt vs i v → IsAt v.map.svertices a u → IsNormal u.dir → (k : ℕ) × (e : Edge) × IsAt es k e × (e.low ≡ i) × (e.low_svertex ≡ a)
  from-each i a v u l m n = let e = J.joined i a v u l m n in let k = S.complete e.0 e.1.0 in (k.0, e.0, k.1, e.1.1, e.1.2)

pub edges-are_matched : (vs : List Vertex) (es : List Edge) → AreJoined vs → Edges vs es → AreMatched vs es
edges-are_matched vs es J S = record { each = λ k e a. matched vs es J S e (S.edges k e a); all = from-each vs es J S; once = at-once vs es J S; ordered = S.ordered }
