-- Turned vertices, sorted, are those of the turned complex.
use Rattle.nef_turn.proofs.Prelude.{ℕ, List, map, length, subst, IsPermutation, SamePoint, IsPointBelow, point_of, point_below-apart, same-point_sym, InOrder, Ordered, is-at_map, map-is_at, number-order, map_of, vertex_of, AreSorted, Vertex, was-listed, still-listed, turned_point, IsTurnedMap, AreTurnedVertices, same-point_trans, AreImages, AreApart, IsVertexImage, IsVertexBelow, AreAtOnePoint}
use Rattle.law_geometry.specs.complex.Complexes.{Vertex as PlainVertex}
use Rattle.law_geometry.proofs.turns.Points.{same_point-turned}
use Rattle.nef_turn.proofs.Images.{images-all}

module _ (k : ℕ) (us vs : List Vertex) (I : AreImages (IsVertexImage k) (length us) us vs) where
  pub vertices-apart : AreSorted us → AreApart AreAtOnePoint vs
  vertices-apart S i j x y a b s =
      let (u, c, (p, _, _)) = I.each i x a in
      let (w, d, (q, _, _)) = I.each j y b in
      let pu = point_of u.point in
      let pw = point_of w.point in
      let turned = same-point_trans (turned_point k pu) (point_of x.point) (turned_point k pw) (same-point_sym (point_of x.point) (turned_point k pu) p) (same-point_trans (point_of x.point) (point_of y.point) (turned_point k pw) s q) in
      let same = (same_point-turned k pu pw).0 turned in
      number-order i j (λ l. absurd (point_below-apart pu pw (S i j u w l c d) same)) (λ e. e)
      (λ l. absurd (point_below-apart pw pu (S j i w u l d c) (same-point_sym pu pw same)))

  pub vertices-turned : (ws : List Vertex) → IsPermutation vs ws → InOrder IsVertexBelow ws → AreTurnedVertices k (map vertex_of us) (map vertex_of ws)
  vertices-turned ws moved o = record {
    each = λ j v a.
        let (y, b, e) = is-at_map vertex_of ws j v a in
        let (i, c) = was-listed vs ws moved j y b in
        let (u, d, (s, t, r)) = I.each i y c in
        (i, vertex_of u, map-is_at vertex_of us i u d, subst (λ (z : PlainVertex). SamePoint z.point (turned_point k (point_of u.point))) e s, subst (λ (z : PlainVertex). IsTurnedMap k (map_of u.map) z.map) e t);
    all = λ i v a.
        let (u, b, e) = is-at_map vertex_of us i v a in
        let (y, c, (s, t, r)) = images-all (IsVertexImage k) us vs I i u b in
        let (j, d) = still-listed vs ws moved i y c in
        (j, vertex_of y, map-is_at vertex_of ws j y d, subst (λ (z : PlainVertex). SamePoint (point_of y.point) (turned_point k z.point)) e s);
    ordered = λ i j u v l a b.
        let (x, c, e) = is-at_map vertex_of ws i u a in
        let (y, d, f) = is-at_map vertex_of ws j v b in
        subst (λ (z : PlainVertex). IsPointBelow z.point v.point) e (subst (λ (z : PlainVertex). IsPointBelow (point_of x.point) z.point) f (o i j x y l c d));
    maps_ordered = λ j v a.
        let (y, b, e) = is-at_map vertex_of ws j v a in
        let (i, c) = was-listed vs ws moved j y b in
        let (u, d, (s, t, r)) = I.each i y c in
        subst (λ (z : PlainVertex). Ordered z.map) e r;
  }
