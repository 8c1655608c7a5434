-- Edges seen from either of their ends.
use Rattle.nef_facets.proofs.Prelude.{◌≡◌, ℕ, sym, inl, inr, ⊎_elim, subst, cases_order, SamePoint, toward, IsBetween, Set, opposite, SameDirection, IsOpposite, ahead, between-turned, point_below-apart, same-point_sym, IsAt, MapVertex, is-at_one, Vertex, Edge, Complex, HasEnds, Shows, ahead-back, opposites-same, IsTied, tied-turned, EdgeWays, edge-ways, ends-tied, Leads, SameDirection-turned, SameDirection-trans, opposite-turned, opposite-way}
use Rattle.nef_conn.proofs.SameRay.{on-ray}

-- an edge from svertex a of vertex i to svertex b of vertex j
pub record EdgeFrom (s : Set) (C : Complex) (i a j b : ℕ) : Type 0 where
  pub from : Vertex
  pub to : Vertex
  pub start : MapVertex
  pub end : MapVertex
  pub is_from : IsAt C.vertices i from
  pub is_to : IsAt C.vertices j to
  pub is_start : IsAt from.map.svertices a start
  pub is_end : IsAt to.map.svertices b end
  pub onward : SameDirection (toward from.point to.point) start.dir
  pub back : IsOpposite start.dir end.dir
  pub clear : (k : ℕ) (v : Vertex) → IsAt C.vertices k v → IsBetween from.point v.point to.point → ⊥
  pub tied : IsTied s (ahead s from.point start.dir) (ahead s to.point end.dir)

relabelled : (s : Set) (C : Complex) (i a j b i' a' j' b' : ℕ) → i ≡ i' → a ≡ a' → j ≡ j' → b ≡ b' → EdgeFrom s C i a j b → EdgeFrom s C i' a' j' b'
relabelled s C i a j b i' a' j' b' e f g h V =
    subst (λ (r : ℕ). EdgeFrom s C i' a' j' r) h (subst (λ (r : ℕ). EdgeFrom s C i' a' r b) g (subst (λ (r : ℕ). EdgeFrom s C i' r j b) f (subst (λ (r : ℕ). EdgeFrom s C r a j b) e V)))

module _ (s : Set) (C : Complex) (S : Shows s C) (n : ℕ) (e : Edge) (at_n : IsAt C.edges n e) where
  abbrev low : Vertex
  low = (S.edges.edges n e at_n).low_vertex

  abbrev high : Vertex
  high = (S.edges.edges n e at_n).high_vertex

  ends : HasEnds C e low high
  ends = let E = S.edges.edges n e at_n in record { low = E.is_low; high = E.is_high }

  abbrev W : EdgeWays e low high
  W = edge-ways s C S n e low high at_n ends

  clear-low : (k : ℕ) (v : Vertex) → IsAt C.vertices k v → IsBetween low.point v.point high.point → ⊥
  clear-low k v a b = let E = S.edges.edges n e at_n in E.first k v a b

  from-low : EdgeFrom s C e.low e.low_svertex e.high e.high_svertex
  from-low = record {
    from = low;
    to = high;
    start = W.low;
    end = W.high;
    is_from = ends.low;
    is_to = ends.high;
    is_start = W.is_low;
    is_end = W.is_high;
    onward = W.onward;
    back = W.back;
    clear = clear-low;
    tied = ends-tied s C S n e low high at_n ends;
  }

  from-high : EdgeFrom s C e.high e.high_svertex e.low e.low_svertex
  from-high = record {
    from = high;
    to = low;
    start = W.high;
    end = W.low;
    is_from = ends.high;
    is_to = ends.low;
    is_start = W.is_high;
    is_end = W.is_low;
    onward = SameDirection-trans (toward high.point low.point) (opposite W.low.dir) W.high.dir (ahead-back low.point high.point W.low.dir W.onward) (opposite-way W.low.dir W.high.dir W.back);
    back = opposite-turned W.low.dir W.high.dir W.back;
    clear = λ k v a b. clear-low k v a (between-turned high.point low.point v.point b);
    tied = tied-turned s (ahead s low.point W.low.dir) (ahead s high.point W.high.dir) (ends-tied s C S n e low high at_n ends);
  }

  pub edge-from : (i a j b : ℕ) → Leads e i a j b → EdgeFrom s C i a j b
  edge-from i a j b (inl (f, g, h, k)) = relabelled s C e.low e.low_svertex e.high e.high_svertex i a j b f g h k from-low
  edge-from i a j b (inr (f, g, h, k)) = relabelled s C e.high e.high_svertex e.low e.low_svertex i a j b f g h k from-high

-- seen from where it leads
back-way : (s : Set) (C : Complex) (i a j b : ℕ) (V : EdgeFrom s C i a j b) → SameDirection (toward V.to.point V.from.point) V.end.dir
back-way s C i a j b V = SameDirection-trans (toward V.to.point V.from.point) (opposite V.start.dir) V.end.dir (ahead-back V.from.point V.to.point V.start.dir V.onward) (opposite-way V.start.dir V.end.dir V.back)

-- ---- one edge leads to a svertex
module _ (s : Set) (C : Complex) (S : Shows s C) (i a i' a' j b : ℕ) (V : EdgeFrom s C i a j b) (W : EdgeFrom s C i' a' j b) where
  one-to : W.to ≡ V.to
  one-to = is-at_one C.vertices j W.to V.to W.is_to V.is_to

  one-end : W.end ≡ V.end
  one-end = is-at_one V.to.map.svertices b W.end V.end (subst (λ (r : Vertex). IsAt r.map.svertices b W.end) one-to W.is_end) V.is_end

  other-way : SameDirection (toward V.to.point W.from.point) V.end.dir
  other-way = subst (λ (r : MapVertex). SameDirection (toward V.to.point W.from.point) r.dir) one-end (subst (λ (r : Vertex). SameDirection (toward r.point W.from.point) W.end.dir) one-to (back-way s C i' a' j b W))

  same-point : SamePoint V.from.point W.from.point
  same-point = ⊎_elim
      (λ h. absurd (W.clear i V.from V.is_from (subst (λ (r : Vertex). IsBetween W.from.point V.from.point r.point) (sym one-to) (between-turned V.to.point W.from.point V.from.point h))))
      (λ o. ⊎_elim (λ e. e) (λ h. absurd (V.clear i' W.from W.is_from (between-turned V.to.point V.from.point W.from.point h))) o)
      (on-ray V.to.point V.from.point W.from.point (SameDirection-trans (toward V.to.point V.from.point) V.end.dir (toward V.to.point W.from.point) (back-way s C i a j b V) (SameDirection-turned (toward V.to.point W.from.point) V.end.dir other-way)))

  pub one-vertex : i ≡ i'
  one-vertex = ⊎_elim (λ e. e) (λ o. ⊎_elim
      (λ l. absurd (point_below-apart V.from.point W.from.point (S.ordered i i' V.from W.from l V.is_from W.is_from) same-point))
      (λ l. absurd (point_below-apart W.from.point V.from.point (S.ordered i' i W.from V.from l W.is_from V.is_from) (same-point_sym V.from.point W.from.point same-point))) o) (cases_order i i')

  pub one-from : W.from ≡ V.from
  one-from = is-at_one C.vertices i W.from V.from (subst (λ (r : ℕ). IsAt C.vertices r W.from) (sym one-vertex) W.is_from) V.is_from

  pub one-svertex : a ≡ a'
  one-svertex =
      let M = (S.cones i V.from V.is_from).valid.shaped in
      M.svertices_apart a a' V.start W.start V.is_start (subst (λ (r : Vertex). IsAt r.map.svertices a' W.start) one-from W.is_start)
      (opposites-same V.end.dir V.start.dir W.start.dir (opposite-turned V.start.dir V.end.dir V.back) (subst (λ (r : MapVertex). IsOpposite r.dir W.start.dir) one-end (opposite-turned W.start.dir W.end.dir W.back)))
