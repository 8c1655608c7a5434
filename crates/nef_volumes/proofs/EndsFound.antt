-- The ends of the program's edges.
use Rattle.nef_volumes.proofs.Prelude.{◌≡◌, ℕ, ◌<◌, length, map, Option, Some, None, slice_get, arith, ap, sym, ◌∙◌, subst, length-map, Label, Set, IsAt, MapVertex, is-at_one, SVertex, svertex_of, map-is_at, is-at_within, Vertex, Edge, edge_of, complex_of, ShowsSet, Cell, Tie, HasSvertex, IsAroundCell, IsTieOfEnds}
use Rattle.nef_complex.specs.declared.complex.Complex.{Complex}
use Rattle.nef_index.specs.declared.skeleton.Edge.{Edge as ProgramEdge}
use Rattle.nef_complex.specs.declared.complex.Vertex.{Vertex as ProgramVertex}
use Rattle.nef_volumes.proofs.ReadVertex.{edge-there, edge-read, vertex-read, vertex-within}

module _ (s : Set) (c : Complex) (S : ShowsSet s c) (k : ℕ) (e : ProgramEdge) (i : slice_get c.edges k ≡ Some e) where
  pub low-there : e.low < length c.vertices
  low-there = let E = S.shows.edges.edges k (edge_of e) (edge-there c k e i) in vertex-within c e.low E.low_vertex E.is_low

  pub high-there : e.high < length c.vertices
  high-there = let E = S.shows.edges.edges k (edge_of e) (edge-there c k e i) in vertex-within c e.high E.high_vertex E.is_high

  pub low-end : HasSvertex (complex_of c) e.low e.low_svertex
  low-end = let E = S.shows.edges.edges k (edge_of e) (edge-there c k e i) in (E.low_vertex, E.low_end, E.is_low, E.leaves)

  pub high-end : HasSvertex (complex_of c) e.high e.high_svertex
  high-end = let E = S.shows.edges.edges k (edge_of e) (edge-there c k e i) in (E.high_vertex, E.high_end, E.is_high, E.arrives)

  pub none-low : ((a : Cell) → IsAroundCell (complex_of c) e.low e.low_svertex a → ⊥) → (t : Tie) → IsTieOfEnds (complex_of c) k t → ⊥
  none-low apart t (d, a, f, g) = apart t.first (subst (λ (r : Edge). IsAroundCell (complex_of c) r.low r.low_svertex t.first) (edge-read c k e d i a) f)

  pub none-high : ((a : Cell) → IsAroundCell (complex_of c) e.high e.high_svertex a → ⊥) → (t : Tie) → IsTieOfEnds (complex_of c) k t → ⊥
  none-high apart t (d, a, f, g) = apart t.second (subst (λ (r : Edge). IsAroundCell (complex_of c) r.high r.high_svertex t.second) (edge-read c k e d i a) g)

-- ---- the svertices of the program's vertices
module _ (c : Complex) (i : ℕ) (u : ProgramVertex) (a : slice_get c.vertices i ≡ Some u) (k : ℕ) where
  pub svertex-within : HasSvertex (complex_of c) i k → k < length u.map.svertices
  svertex-within (v, x, b, d) =
      let l = is-at_within (map svertex_of u.map.svertices) k x (subst (λ (w : Vertex). IsAt w.map.svertices k x) (vertex-read c i u v a b) d) in
      let n = length-map u.map.svertices svertex_of in
      omega (arith, l, n)

  pub none-around : (sv : SVertex) → slice_get u.map.svertices k ≡ Some sv → sv.around ≡ None → (b : Cell) → IsAroundCell (complex_of c) i k b → ⊥
  none-around sv e n b (v, x, l, f, g, h, m) =
      let d = subst (λ (w : Vertex). IsAt w.map.svertices k x) (vertex-read c i u v a f) g in
      let one = is-at_one (map svertex_of u.map.svertices) k x (svertex_of sv) d (map-is_at svertex_of u.map.svertices k sv e) in
      some-none l (sym h ∙ ap (λ (r : MapVertex). r.around) one ∙ n)
    where
      some-none : (m : Label) → ◌≡◌ {A = Option Label} (Some m) None → ⊥
      some-none m q = absurd cc
