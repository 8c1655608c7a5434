-- The edges from the svertices that lead on, collected svertex by svertex.
use Rattle.nef_edges.proofs.Prelude.{◌≡◌, ℕ, ◌+◌, ◌≤◌, pos, List, [], ◌∷◌, ◌++◌, length, map, arith, refl, sym, ap, subst, ◌∙◌, inl, inr, ◌⊎◌, ⊎_elim, ints, IsNormal, vector_of, IsAt, MapVertex, is-at_one, IsEdge, IsEdgeBelow, Edges, SVertex, svertex_of, Vertex, Edge, vertex_of, edge_of, EdgeEnd, IsEarlierSvertex, AreJoined, AreEdges}
use Rattle.law_geometry.specs.complex.Complexes.{Vertex as PlainVertex, Edge as PlainEdge}
use Rattle.nef_edges.proofs.Arrivals.{before-more, before-row, earlier-row, earlier-next}
use Rattle.nef_edges.proofs.Existing.{one-edge}
use Rattle.nef_edges.proofs.Partners.{IsPair}
use Rattle.nef_edges.proofs.Rays.{ahead-normal}
use Rattle.nef_space.proofs.Lists.{is-at_last, is-at_left, is-at_map, is-at_more, is-at_within, map-is_at}
use Rattle.law_geometry.proofs.complex.Equal.{edges-equal}
use Rattle.law_geometry.proofs.sphere.Lists.{order-more}

module _ (vs : List Vertex) (J : AreJoined (map vertex_of vs)) where
  -- the lower end of an edge as the program has it
  low-end : (e : PlainEdge) → IsEdge (map vertex_of vs) e → (v : Vertex) × (s : SVertex) × IsAt vs e.low v × IsAt v.map.svertices e.low_svertex s × IsNormal (vector_of s.dir)
  low-end e E =
      let w = is-at_map vertex_of vs e.low E.low_vertex E.is_low in
      let t = is-at_map svertex_of w.0.map.svertices e.low_svertex E.low_end (subst (λ (x : PlainVertex). IsAt x.map.svertices e.low_svertex E.low_end) (sym w.2) E.leaves) in
      let n = ahead-normal E.low_vertex.point E.high_vertex.point E.low_end.dir (J.ordered e.low e.high E.low_vertex E.high_vertex E.upward E.is_low E.is_high) E.ahead in
      (w.0, t.0, w.1, t.1, subst (λ (x : MapVertex). IsNormal x.dir) (sym t.2) n)

  -- all svertices of vertex i have been counted
  pub edges-row : (i k : ℕ) (es : List Edge) (v : Vertex) → IsAt vs i v → length v.map.svertices ≤ k → AreEdges vs (IsEarlierSvertex i k) es → AreEdges vs (IsEarlierSvertex (i + 1) 0) es
  edges-row i k es v a l A = record {
    edges = λ n e b. let c = A.edges n e b in (c.0, earlier-row i k e.low e.low_svertex c.1);
    complete = λ e E q. let w = low-end e E in A.complete e E (before-row vs i k v a l e.low e.low_svertex w.0 w.1 w.2 w.3 q);
    ordered = A.ordered;
  }

  -- a svertex that no edge leads on from
  pub edges-pass : (i k : ℕ) (es : List Edge) (v : Vertex) (s : SVertex) → IsAt vs i v → IsAt v.map.svertices k s → (IsNormal (vector_of s.dir) → ⊥) → AreEdges vs (IsEarlierSvertex i k) es → AreEdges vs (IsEarlierSvertex i (k + 1)) es
  edges-pass i k es v s a b n A = record {
    edges = λ l e c. let d = A.edges l e c in (d.0, earlier-next i k e.low e.low_svertex d.1);
    complete = λ e E q. ⊎_elim (λ h. A.complete e E h) (λ h. absurd (this e E h.0 h.1)) (before-more i k e.low e.low_svertex q);
    ordered = A.ordered;
  }
    where
      this : (e : PlainEdge) → IsEdge (map vertex_of vs) e → e.low ≡ i → e.low_svertex ≡ k → ⊥
      this e E g h =
          let w = low-end e E in
          let f = is-at_one vs i w.0 v (subst (λ l. IsAt vs l w.0) g w.2) a in
          let u = is-at_one v.map.svertices k w.1 s (subst (λ (x : Vertex). IsAt x.map.svertices k w.1) f (subst (λ l. IsAt w.0.map.svertices l w.1) h w.3)) b in
          n (subst (λ (x : SVertex). IsNormal (vector_of x.dir)) u w.4)

  -- one that an edge leads on from
  module _ (i k : ℕ) (es : List Edge) (v : Vertex) (s : SVertex) (a : IsAt vs i v) (b : IsAt v.map.svertices k s) (A : AreEdges vs (IsEarlierSvertex i k) es) (from next : EdgeEnd) (fi : from.vertex ≡ i) (fk : from.svertex ≡ k) (P : IsPair vs from next) where
    abbrev pub new_edge : Edge
    new_edge = record { low = i; low_svertex = k; high = next.vertex; high_svertex = next.svertex; mark = s.mark }

    E : IsEdge (map vertex_of vs) P.edge
    E = P.from.0

    low-is : P.edge.low ≡ i
    low-is = P.from.1 ∙ fi

    end-is : P.edge.low_svertex ≡ k
    end-is = P.from.2 ∙ fk

    mark-is : P.edge.mark ≡ s.mark
    mark-is =
        let w = is-at_one (map vertex_of vs) i E.low_vertex (vertex_of v) (subst (λ n. IsAt (map vertex_of vs) n E.low_vertex) low-is E.is_low) (map-is_at vertex_of vs i v a) in
        let t = is-at_one (vertex_of v).map.svertices k E.low_end (svertex_of s) (subst (λ (x : PlainVertex). IsAt x.map.svertices k E.low_end) w (subst (λ n. IsAt E.low_vertex.map.svertices n E.low_end) end-is E.leaves)) (map-is_at svertex_of v.map.svertices k s b) in
        E.mark ∙ ap (λ (x : MapVertex). x.mark) t

    new-is : P.edge ≡ edge_of new_edge
    new-is = edges-equal P.edge (edge_of new_edge) low-is end-is P.high P.high_svertex mark-is

    below : (n : ℕ) (e : Edge) → IsAt es n e → IsEdgeBelow (edge_of e) (edge_of new_edge)
    below n e c = by (A.edges n e c).1
      where
        by : IsEarlierSvertex i k e.low e.low_svertex → IsEdgeBelow (edge_of e) (edge_of new_edge)
        by (inl h) = inl (omega (arith, ints))
        by (inr h) = inr (ap pos h.0, inl (let l = h.1 in omega (arith, ints)))

    pub edges-add : AreEdges vs (IsEarlierSvertex i (k + 1)) (es ++ new_edge ∷ [])
    edges-add = record { edges = edges; complete = complete; ordered = order-more (λ e f. IsEdgeBelow (edge_of e) (edge_of f)) es new_edge A.ordered below }
      where
        edges : (n : ℕ) (e : Edge) → IsAt (es ++ new_edge ∷ []) n e → IsEdge (map vertex_of vs) (edge_of e) × IsEarlierSvertex i (k + 1) e.low e.low_svertex
        edges n e c = ⊎_elim
            (λ d. let f = A.edges n e d in (f.0, earlier-next i k e.low e.low_svertex f.1))
            (λ d. subst (λ (f : Edge). IsEdge (map vertex_of vs) (edge_of f) × IsEarlierSvertex i (k + 1) f.low f.low_svertex) d.1 (subst (IsEdge (map vertex_of vs)) new-is E, inr (refl, omega arith)))
            (is-at_more es new_edge n e c)

        complete : (e : PlainEdge) → IsEdge (map vertex_of vs) e → IsEarlierSvertex i (k + 1) e.low e.low_svertex → (n : ℕ) × (f : Edge) × IsAt (es ++ new_edge ∷ []) n f × (edge_of f ≡ e)
        complete e F q = ⊎_elim
            (λ h. let r = A.complete e F h in (r.0, r.1, is-at_left es (new_edge ∷ []) r.0 r.1 r.2, r.3))
            (λ h. (length es, new_edge, is-at_last es new_edge, sym new-is ∙ one-edge (map vertex_of vs) J.ordered J.shaped P.edge e E F (low-is ∙ sym h.0) (end-is ∙ sym h.1)))
            (before-more i k e.low e.low_svertex q)

  -- when all have been counted, these are the edges
  pub edges-all : (es : List Edge) → AreEdges vs (IsEarlierSvertex (length vs) 0) es → Edges (map vertex_of vs) (map edge_of es)
  edges-all es A = record {
    edges = λ k e a. let f = is-at_map edge_of es k e a in subst (IsEdge (map vertex_of vs)) f.2 (A.edges k f.0 f.1).0;
    complete = λ e E.
        let w = low-end e E in
        let r = A.complete e E (inl (is-at_within vs e.low w.0 w.2)) in
        (r.0, subst (IsAt (map edge_of es) r.0) r.3 (map-is_at edge_of es r.0 r.1 r.2));
    ordered = λ i k x y l a b.
        let f = is-at_map edge_of es i x a in let g = is-at_map edge_of es k y b in
        subst (IsEdgeBelow x) g.2 (subst (λ (e : PlainEdge). IsEdgeBelow e (edge_of g.0)) f.2 (A.ordered i k f.0 g.0 l f.1 g.1));
  }
