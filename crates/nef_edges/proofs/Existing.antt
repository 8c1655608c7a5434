-- Vertices in order, each with at most one svertex in every direction, have a list of all their edges.
use Rattle.nef_edges.proofs.Prelude.{◌≡◌, ℕ, zero, suc, ◌<◌, pos, arith, refl, ap, sym, ◌∙◌, ◌⊎◌, inl, inr, ⊎_elim, List, [], ◌∷◌, ◌++◌, subst, cases_order, ints, Lies, each, lies-each, lies-left, lies-right, toward, IsAhead, IsBetween, IsPointBelow, SameDirection, IsOpposite, Decided, IsAt, MapVertex, Shaped, InOrder, Found, search_list, is-at_one, lies-at, at-lies, SameDirection-decided, IsOpposite-decided, IsEdge, IsEdgeBelow, Edges, IsFrom, is-at_none, is-at_first}
use Rattle.law_geometry.proofs.near.Decided.{decided-lt}
use Rattle.law_geometry.proofs.sphere.cones.Listing.{numbers, at-number, at-or, Collected, Sorted, collect, sort, chain-order}
use Rattle.law_geometry.specs.complex.Complexes.{Vertex, Edge}
use Rattle.nef_edges.proofs.Rays.{ahead-normal, middle-between, opposites-same}
use Rattle.law_geometry.proofs.complex.Equal.{edges-equal}

-- ---- one edge from each svertex

module _ (vs : List Vertex) where
  abbrev pub InPlaces : Type 0
  InPlaces = InOrder (λ u v. IsPointBelow u.point v.point) vs

  abbrev pub AreShaped : Type 0
  AreShaped = (k : ℕ) (v : Vertex) → IsAt vs k v → Shaped v.map

  module _ (ordered : InPlaces) (shaped : AreShaped) where
    -- of two edges from one svertex the higher ends can't lie one after the other
    not-later : (e f : Edge) → IsEdge vs e → IsEdge vs f → e.low ≡ f.low → e.low_svertex ≡ f.low_svertex → e.high < f.high → ⊥
    not-later e f E F h i l =
        let same = is-at_one vs f.low E.low_vertex F.low_vertex (subst (λ k. IsAt vs k E.low_vertex) h E.is_low) F.is_low in
        let start = is-at_one F.low_vertex.map.svertices f.low_svertex E.low_end F.low_end (subst (λ (v : Vertex). IsAt v.map.svertices f.low_svertex E.low_end) same (subst (λ k. IsAt E.low_vertex.map.svertices k E.low_end) i E.leaves)) F.leaves in
        let p = F.low_vertex.point in let u = E.high_vertex.point in let v = F.high_vertex.point in let d = F.low_end.dir in
        let up : f.low < e.high = (let m = E.upward in omega (arith, m, h)) in
        let below = ordered f.low e.high F.low_vertex E.high_vertex up F.is_low E.is_high in
        let ahead = subst (λ (s : MapVertex). SameDirection (toward p u) s.dir) start (subst (λ (w : Vertex). SameDirection (toward w.point u) E.low_end.dir) same E.ahead) in
        F.first e.high E.high_vertex E.is_high
        (middle-between p u v d (ahead-normal p u d below ahead) below (ordered e.high f.high E.high_vertex F.high_vertex l E.is_high F.is_high) ahead.parallel F.ahead.parallel)

    pub one-edge : (e f : Edge) → IsEdge vs e → IsEdge vs f → e.low ≡ f.low → e.low_svertex ≡ f.low_svertex → e ≡ f
    one-edge e f E F h i =
        ⊎_elim (λ g. same g) (λ o. ⊎_elim (λ l. absurd (not-later e f E F h i l)) (λ l. absurd (not-later f e F E (sym h) (sym i) l)) o) (cases_order e.high f.high)
      where
        same : e.high ≡ f.high → e ≡ f
        same g =
            let low = is-at_one vs f.low E.low_vertex F.low_vertex (subst (λ k. IsAt vs k E.low_vertex) h E.is_low) F.is_low in
            let start = is-at_one F.low_vertex.map.svertices f.low_svertex E.low_end F.low_end (subst (λ (v : Vertex). IsAt v.map.svertices f.low_svertex E.low_end) low (subst (λ k. IsAt E.low_vertex.map.svertices k E.low_end) i E.leaves)) F.leaves in
            let high = is-at_one vs f.high E.high_vertex F.high_vertex (subst (λ k. IsAt vs k E.high_vertex) g E.is_high) F.is_high in
            let arrives = subst (λ (v : Vertex). IsAt v.map.svertices e.high_svertex E.high_end) high E.arrives in
            let way = opposites-same F.low_end.dir E.high_end.dir F.high_end.dir (subst (λ (s : MapVertex). IsOpposite s.dir E.high_end.dir) start E.back) F.back in
            let end = (shaped f.high F.high_vertex F.is_high).svertices_apart e.high_svertex f.high_svertex E.high_end F.high_end arrives F.arrives way in
            edges-equal e f h i g end (E.mark ∙ ap (λ (s : MapVertex). s.mark) start ∙ sym F.mark)

  -- ---- whether a svertex has an edge
  module _ (i a : ℕ) (v : Vertex) (u : MapVertex) (is_low : IsAt vs i v) (leaves : IsAt v.map.svertices a u) where
    -- what an edge from the svertex to a svertex of another vertex is
    abbrev Leads : ℕ → Vertex → MapVertex → Type 0
    Leads j w t = (i < j) × IsAhead v.point u.dir w.point × ((k : ℕ) (x : Vertex) → IsAt vs k x → IsBetween v.point x.point w.point → ⊥) × IsOpposite u.dir t.dir

    none-decided : (w : Vertex) → Decided ((k : ℕ) (x : Vertex) → IsAt vs k x → IsBetween v.point x.point w.point → ⊥)
    none-decided w =
        ⊎_elim (λ f. inr (λ none. none f.number f.element f.listed f.holds)) (λ none. inl none)
        (search_list vs (λ k x. IsBetween v.point x.point w.point) (λ k x. SameDirection-decided (toward v.point x.point) (toward x.point w.point)))

    leads-decided : (j : ℕ) (w : Vertex) (t : MapVertex) → Decided (Leads j w t)
    leads-decided j w t = by (decided-lt i j) (SameDirection-decided (toward v.point w.point) u.dir) (none-decided w) (IsOpposite-decided u.dir t.dir)
      where
        by : Decided (i < j) → Decided (IsAhead v.point u.dir w.point) → Decided ((k : ℕ) (x : Vertex) → IsAt vs k x → IsBetween v.point x.point w.point → ⊥) → Decided (IsOpposite u.dir t.dir) → Decided (Leads j w t)
        by (inl h) (inl f) (inl n) (inl o) = inl (h, f, n, o)
        by (inr h) f n o = inr (λ l. h l.0)
        by (inl h) (inr f) n o = inr (λ l. f l.1)
        by (inl h) (inl f) (inr n) o = inr (λ l. n l.2)
        by (inl h) (inl f) (inl n) (inr o) = inr (λ l. o l.3)

    ends-decided : (j : ℕ) (w : Vertex) → Decided (Found w.map.svertices (λ b t. Leads j w t))
    ends-decided j w = ⊎_elim (λ f. inl f) (λ none. inr (λ f. none f.number f.element f.listed f.holds)) (search_list w.map.svertices (λ b t. Leads j w t) (λ b t. leads-decided j w t))

    edge-from : Decided ((e : Edge) × IsFrom vs i a e)
    edge-from = ⊎_elim (λ f. inl (make f)) (λ none. inr (λ f. unmade none f.0 f.1.0 f.1.1 f.1.2)) (search_list vs (λ j w. Found w.map.svertices (λ b t. Leads j w t)) ends-decided)
      where
        make : Found vs (λ j w. Found w.map.svertices (λ b t. Leads j w t)) → (e : Edge) × IsFrom vs i a e
        make f =
            let g = f.holds in (
              record { low = i; low_svertex = a; high = f.number; high_svertex = g.number; mark = u.mark },
              (
                record {
                  low_vertex = v;
                  high_vertex = f.element;
                  low_end = u;
                  high_end = g.element;
                  is_low = is_low;
                  is_high = f.listed;
                  leaves = leaves;
                  arrives = g.listed;
                  upward = g.holds.0;
                  ahead = g.holds.1;
                  first = g.holds.2;
                  back = g.holds.3;
                  mark = refl;
                },
                refl,
                refl,
              ),
            )

        unmade : ((j : ℕ) (w : Vertex) → IsAt vs j w → Found w.map.svertices (λ b t. Leads j w t) → ⊥) → (e : Edge) → IsEdge vs e → e.low ≡ i → e.low_svertex ≡ a → ⊥
        unmade none e E h k =
            let low = is-at_one vs i E.low_vertex v (subst (λ n. IsAt vs n E.low_vertex) h E.is_low) is_low in
            let start = is-at_one v.map.svertices a E.low_end u (subst (λ (x : Vertex). IsAt x.map.svertices a E.low_end) low (subst (λ n. IsAt E.low_vertex.map.svertices n E.low_end) k E.leaves)) leaves in
            none e.high E.high_vertex E.is_high (record {
              number = e.high_svertex;
              element = E.high_end;
              listed = E.arrives;
              holds = (
                subst (λ n. n < e.high) h E.upward,
                subst (λ (s : MapVertex). SameDirection (toward v.point E.high_vertex.point) s.dir) start (subst (λ (x : Vertex). SameDirection (toward x.point E.high_vertex.point) E.low_end.dir) low E.ahead),
                subst (λ (x : Vertex). (n : ℕ) (y : Vertex) → IsAt vs n y → IsBetween x.point y.point E.high_vertex.point → ⊥) low E.first,
                subst (λ (s : MapVertex). IsOpposite s.dir E.high_end.dir) start E.back,
              );
            })

  from-decided : (p : ℕ × ℕ) → Decided ((e : Edge) × IsFrom vs p.0 p.1 e)
  from-decided p = by (at-or vs p.0)
    where
      no-vertex : ((v : Vertex) → IsAt vs p.0 v → ⊥) → (e : Edge) → IsEdge vs e → e.low ≡ p.0 → ⊥
      no-vertex none e E h = none E.low_vertex (subst (λ n. IsAt vs n E.low_vertex) h E.is_low)

      no-svertex : (v : Vertex) → IsAt vs p.0 v → ((u : MapVertex) → IsAt v.map.svertices p.1 u → ⊥) → (e : Edge) → IsEdge vs e → e.low ≡ p.0 → e.low_svertex ≡ p.1 → ⊥
      no-svertex v l none e E h k =
          let low = is-at_one vs p.0 E.low_vertex v (subst (λ n. IsAt vs n E.low_vertex) h E.is_low) l in
          none E.low_end (subst (λ (x : Vertex). IsAt x.map.svertices p.1 E.low_end) low (subst (λ n. IsAt E.low_vertex.map.svertices n E.low_end) k E.leaves))

      at : (v : Vertex) → IsAt vs p.0 v → ((u : MapVertex) × IsAt v.map.svertices p.1 u) ⊎ ((u : MapVertex) → IsAt v.map.svertices p.1 u → ⊥) → Decided ((e : Edge) × IsFrom vs p.0 p.1 e)
      at v l (inl (u, m)) = edge-from p.0 p.1 v u l m
      at v l (inr none) = inr (λ f. no-svertex v l none f.0 f.1.0 f.1.1 f.1.2)

      by : ((v : Vertex) × IsAt vs p.0 v) ⊎ ((v : Vertex) → IsAt vs p.0 v → ⊥) → Decided ((e : Edge) × IsFrom vs p.0 p.1 e)
      by (inl (v, l)) = at v l (at-or v.map.svertices p.1)
      by (inr none) = inr (λ f. no-vertex none f.0 f.1.0 f.1.1)

-- ---- all svertices of all vertices, by their numbers
abbrev svertex_numbers : List Vertex → List (ℕ × ℕ)
svertex_numbers [] = []
svertex_numbers (v ∷ vs) = each (λ a. (0, a)) (numbers v.map.svertices) ++ each (λ (p : ℕ × ℕ). (suc p.0, p.1)) (svertex_numbers vs)

numbers-have : (vs : List Vertex) (i a : ℕ) (v : Vertex) (u : MapVertex) → IsAt vs i v → IsAt v.map.svertices a u → Lies (svertex_numbers vs) (i, a)
numbers-have [] i a v u l m = absurd (is-at_none l)
numbers-have (w ∷ vs) zero a v u l m =
    lies-left (each (λ a. (0, a)) (numbers w.map.svertices)) (each (λ (p : ℕ × ℕ). (suc p.0, p.1)) (svertex_numbers vs)) (0, a)
    (lies-each (λ a. (0, a)) (numbers w.map.svertices) a (at-number w.map.svertices a u (subst (λ (x : Vertex). IsAt x.map.svertices a u) (sym (is-at_first l)) m)))
numbers-have (w ∷ vs) (suc i) a v u l m =
    lies-right (each (λ a. (0, a)) (numbers w.map.svertices)) (each (λ (p : ℕ × ℕ). (suc p.0, p.1)) (svertex_numbers vs)) (suc i, a)
    (lies-each (λ (p : ℕ × ℕ). (suc p.0, p.1)) (svertex_numbers vs) (i, a) (numbers-have vs i a v u l m))

-- ---- the order of edges
abbrev IsTwin : Edge → Edge → Type 0
IsTwin e f = (e.low ≡ f.low) × (e.low_svertex ≡ f.low_svertex)

below-trans : (e f g : Edge) → IsEdgeBelow e f → IsEdgeBelow f g → IsEdgeBelow e g
below-trans e f g (inl h) (inl k) = inl (omega (arith, ints))
below-trans e f g (inl h) (inr (k, l)) = inl (omega (arith, ints))
below-trans e f g (inr (h, i)) (inl k) = inl (omega (arith, ints))
below-trans e f g (inr (h, inl i)) (inr (k, inl l)) = inr (h ∙ k, inl (omega (arith, ints)))
below-trans e f g (inr (h, inr i)) k = absurd i.1
below-trans e f g (inr (h, inl i)) (inr (k, inr l)) = absurd l.1

either : (e f : Edge) → IsEdgeBelow e f ⊎ IsTwin e f ⊎ IsEdgeBelow f e
either e f = by (cases_order e.low f.low) (cases_order e.low_svertex f.low_svertex)
  where
    by : (e.low ≡ f.low) ⊎ ((e.low < f.low) ⊎ (f.low < e.low)) → (e.low_svertex ≡ f.low_svertex) ⊎ ((e.low_svertex < f.low_svertex) ⊎ (f.low_svertex < e.low_svertex))
        → IsEdgeBelow e f ⊎ IsTwin e f ⊎ IsEdgeBelow f e
    by (inr (inl h)) k = inl (inl (omega (arith, ints)))
    by (inr (inr h)) k = inr (inr (inl (omega (arith, ints))))
    by (inl h) (inl k) = inr (inl (h, k))
    by (inl h) (inr (inl k)) = inl (inr (ap pos h, inl (omega (arith, ints))))
    by (inl h) (inr (inr k)) = inr (inr (inr (ap pos (sym h), inl (omega (arith, ints)))))

-- ---- all edges
module _ (vs : List Vertex) (ordered : InPlaces vs) (shaped : AreShaped vs) where
  abbrev Starts : ℕ × ℕ → Edge → Type 0
  Starts p e = IsFrom vs p.0 p.1 e

  found : Collected (svertex_numbers vs) Starts (λ p. (e : Edge) × Starts p e)
  found = collect (svertex_numbers vs) Starts (λ p. (e : Edge) × Starts p e) (from-decided vs)

  sorted : Sorted IsEdgeBelow IsTwin found.list
  sorted = sort IsEdgeBelow IsTwin below-trans (λ e. (refl, refl)) either found.list

  are-edges : (k : ℕ) (e : Edge) → IsAt sorted.list k e → IsEdge vs e
  are-edges k e l = let f = found.sound e (sorted.sound e (at-lies sorted.list k e l)) in f.2.0

  all-listed : (e : Edge) → IsEdge vs e → (k : ℕ) × IsAt sorted.list k e
  all-listed e E =
      let f = found.all (e.low, e.low_svertex) (numbers-have vs e.low e.low_svertex E.low_vertex E.low_end E.is_low E.leaves) (e, (E, refl, refl)) in
      let g = sorted.all f.0 f.1 in
      let k = lies-at sorted.list g.0 g.1 in
      let G = are-edges k.0 g.0 k.1 in
      (k.0, subst (IsAt sorted.list k.0) (one-edge vs ordered shaped g.0 e G E (sym g.2.0 ∙ f.2.1) (sym g.2.1 ∙ f.2.2)) k.1)

  pub edges-exist : (es : List Edge) × Edges vs es
  edges-exist = (sorted.list, record { edges = are-edges; complete = all-listed; ordered = chain-order IsEdgeBelow IsTwin sorted.list sorted.chain })
