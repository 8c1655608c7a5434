-- An even segment from a vertex stays at it, and one from an edge point stays within the edge; so vertices are joined where they are one, and points of edges where the edges are one.
use Rattle.nef_conn.proofs.Prelude.{◌≡◌, ℕ, sym, ◌⊎◌, inl, inr, ⊎_elim, List, ◌∷◌, subst, arith, [], Flat, FlatDim, IsEven, IsEvenPath, Joined, SpacePoint, SamePoint, toward, IsBetween, Set, Vector, opposite, cross, IsZero, IsDirection, SameDirection, carriers, FlatDim-one, FlatDim-by_germs, between-turned, between-inner, start-close, flat-way, joined-germs, signs-same, same-point_sym, toward-point, point-toward, between-same, reach_all, IsAt, Beside, same_way, other_way, beside, is-at_one, Vertex, Edge, Complex, HasEnds, Shows, near_point, near-between, edge-points, edge-way, ahead-back, between-way, between-outer, between-ends, between-start, same-point_trans, joined-even, joined-cell, JoinedAreAsFlat, JoinedVertices, JoinedEdges, zero-decided, SameDirection-turned, SameDirection-trans, opposite-way}
use Rattle.nef_conn.proofs.OneNamed.{one-vertex, one-edge}
use Rattle.nef_conn.proofs.SameRay.{on-ray}
use Rattle.law_geometry.proofs.near.Same.{dim-same}
use Rattle.nef_space.proofs.Elementary.{same-itself}
use Rattle.law_geometry.proofs.complex.Edges.{inner-dim}

pub joined-as_flat : JoinedAreAsFlat
joined-as_flat s p q k j f = FlatDim-by_germs s s p q (joined-germs s p q j) k f

-- an even segment runs along a flat direction
even-way : (s : Set) (k : ℕ) (p q : SpacePoint) → IsEven s k p q → IsDirection (toward p q) → Flat s p (toward p (near_point s p q))
even-way s k p q even i =
    let r = near_point s p q in
    let b = near-between s p q i in
    flat-way s k p r (even p (inl (same-itself p))) (even r (inr (inl b))) (start-close (reach_all (carriers s) p) p q) (between-start p r q b)

-- ---- vertices
module _ (s : Set) where
  vertex-stays : (p q : SpacePoint) → IsEven s 0 p q → SamePoint p q
  vertex-stays p q even = ⊎_elim (λ z. toward-point p q z) (λ i. absurd (moves i)) (zero-decided (toward p q))
    where
      moves : IsDirection (toward p q) → ⊥
      moves i =
          let r = near_point s p q in
          let f = even p (inl (same-itself p)) in
          f.1 (toward p r, between-start p r q (near-between s p q i), even-way s 0 p q even i)

  vertex-path : (p : SpacePoint) (rs : List SpacePoint) (q : SpacePoint) → IsEvenPath s 0 p rs q → SamePoint p q
  vertex-path p [] q e = vertex-stays p q e
  vertex-path p (r ∷ rs) q (e, f) = same-point_trans p r q (vertex-stays p r e) (vertex-path r rs q f)

pub joined-vertices : JoinedVertices
joined-vertices s C i j p q S (v, a, e) (w, b, f) = (to, from)
  where
    to : Joined s p q → i ≡ j
    to (k, rs, g, path) =
        let zero = FlatDim-one s p k 0 g (dim-same s v.point p 0 e (S.vertices i v a)) in
        let same = vertex-path s p rs q (subst (λ (n : ℕ). IsEvenPath s n p rs q) zero path) in
        one-vertex s C S i j v w a b (same-point_trans v.point p w.point e (same-point_trans p q w.point same (same-point_sym w.point q f)))

    from : i ≡ j → Joined s p q
    from n =
        let one = is-at_one C.vertices j v w (subst (λ (m : ℕ). IsAt C.vertices m v) n a) b in
        let same = subst (λ (u : Vertex). SamePoint u.point q) (sym one) f in
        joined-cell s p q (signs-same (carriers s) p q (same-point_trans p v.point q (same-point_sym v.point p e) same))

-- ---- edges
module _ (s : Set) (C : Complex) (S : Shows s C) (k : ℕ) (e : Edge) (v w : Vertex) (a : IsAt C.edges k e) (H : HasEnds C e v w) where
  -- an even segment toward a vertex ends before it
  stops : (u p q : SpacePoint) → FlatDim s u 0 → SameDirection (toward p q) (toward p u) → IsEven s 1 p q → IsBetween p q u
  stops u p q none d even = by (on-ray p q u d)
    where
      never : FlatDim s u 1 → ⊥
      never f = let x = FlatDim-one s u 0 1 none f in omega arith

      by : IsBetween p q u ⊎ (SamePoint q u ⊎ IsBetween p u q) → IsBetween p q u
      by (inl b) = b
      by (inr (inl m)) = absurd (never (dim-same s q u 1 m (even q (inr (inr (same-itself q))))))
      by (inr (inr c)) = absurd (never (even u (inr (inl c))))

  module _ (p q : SpacePoint) (b : IsBetween v.point p w.point) (even : IsEven s 1 p q) where
    module _ (i : IsDirection (toward p q)) where
      abbrev r : SpacePoint
      r = near_point s p q

      abbrev along : Vector
      along = toward v.point w.point

      to-r : IsBetween p r q
      to-r = near-between s p q i

      parallel : IsZero (cross along (toward p r))
      parallel =
          let f = edge-points s C k e v w p S a H b in
          ⊎_elim (λ z. z) (λ n. absurd (f.0.1 (along, toward p r, n, (f.1 along).1 (edge-way s C k e v w S a H), even-way s 1 p q even i))) (zero-decided (cross along (toward p r)))

      onward : SameDirection along (toward p r) → IsBetween v.point q w.point
      onward d =
          let way = SameDirection-trans (toward p q) (toward p r) (toward p w.point) (SameDirection-turned (toward p r) (toward p q) (between-way p r q to-r))
          (SameDirection-trans (toward p r) along (toward p w.point) (SameDirection-turned along (toward p r) d) (SameDirection-trans along (toward v.point p) (toward p w.point) (SameDirection-turned (toward v.point p) along (between-way v.point p w.point b)) b)) in
          between-outer v.point p q w.point b (stops w.point p q (S.vertices e.high w H.high) way even)

      back : SameDirection (opposite along) (toward p r) → IsBetween v.point q w.point
      back d =
          let way = SameDirection-trans (toward p q) (toward p r) (toward p v.point) (SameDirection-turned (toward p r) (toward p q) (between-way p r q to-r))
          (SameDirection-trans (toward p r) (opposite along) (toward p v.point) (SameDirection-turned (opposite along) (toward p r) d) (SameDirection-turned (toward p v.point) (opposite along) (ahead-back v.point p along (between-way v.point p w.point b)))) in
          between-turned w.point v.point q (between-outer w.point p q v.point (between-turned v.point w.point p b) (stops v.point p q (S.vertices e.low v H.low) way even))

      moves : IsBetween v.point q w.point
      moves = by (beside along (toward p r) (between-ends v.point p w.point b) (between-start p r q to-r) parallel)
        where
          by : Beside along (toward p r) → IsBetween v.point q w.point
          by (same_way d) = onward d
          by (other_way o) = back (opposite-way along (toward p r) o)

    edge-stays : IsBetween v.point q w.point
    edge-stays = ⊎_elim (λ z. between-same v.point p w.point v.point q w.point (same-itself v.point) (toward-point p q z) (same-itself w.point) b) (λ i. moves i) (zero-decided (toward p q))

  edge-path : (p : SpacePoint) (rs : List SpacePoint) (q : SpacePoint) → IsBetween v.point p w.point → IsEvenPath s 1 p rs q → IsBetween v.point q w.point
  edge-path p [] q b e = edge-stays p q b e
  edge-path p (r ∷ rs) q b (e, f) = edge-path r rs q (edge-stays p r b e) f

  -- points of one edge are joined along it
  along-edge : (p q : SpacePoint) → IsBetween v.point p w.point → IsBetween v.point q w.point → Joined s p q
  along-edge p q b c = joined-even s 1 p q even
    where
      amid : (r : SpacePoint) → IsBetween p r q → IsBetween v.point r w.point
      amid r m = by (on-ray v.point p q (SameDirection-trans (toward v.point p) (toward v.point w.point) (toward v.point q) (between-way v.point p w.point b) (SameDirection-turned (toward v.point q) (toward v.point w.point) (between-way v.point q w.point c))))
        where
          by : IsBetween v.point p q ⊎ (SamePoint p q ⊎ IsBetween v.point q p) → IsBetween v.point r w.point
          by (inl n) = between-inner v.point q w.point r c (between-outer v.point p r q n m)
          by (inr (inl f)) = absurd (between-ends p r q m (point-toward p q f))
          by (inr (inr n)) = between-inner v.point p w.point r b (between-outer v.point q r p n (between-turned p q r m))

      even : IsEven s 1 p q
      even r (inl f) = dim-same s p r 1 (same-point_sym r p f) (inner-dim s C k e v w S a H p b)
      even r (inr (inl m)) = inner-dim s C k e v w S a H r (amid r m)
      even r (inr (inr f)) = dim-same s q r 1 (same-point_sym r q f) (inner-dim s C k e v w S a H q c)

pub joined-edges : JoinedEdges
joined-edges s C i j p q S (e, v, w, a, H, b) (f, x, y, c, K, d) = (to, from)
  where
    to : Joined s p q → i ≡ j
    to (k, rs, g, path) =
        let one = FlatDim-one s p k 1 g (edge-points s C i e v w p S a H b).0 in
        let m = edge-path s C S i e v w a H p rs q b (subst (λ (n : ℕ). IsEvenPath s n p rs q) one path) in
        one-edge s C S i j q (e, v, w, a, H, m) (f, x, y, c, K, d)

    from : i ≡ j → Joined s p q
    from n =
        let one = is-at_one C.edges j e f (subst (λ (m : ℕ). IsAt C.edges m e) n a) c in
        let ends = subst (λ (g : Edge). HasEnds C g v w) one H in
        let low = is-at_one C.vertices f.low x v K.low ends.low in
        let high = is-at_one C.vertices f.high y w K.high ends.high in
        let inner = subst (λ (u : Vertex). IsBetween v.point q u.point) high (subst (λ (u : Vertex). IsBetween u.point q y.point) low d) in
        along-edge s C S i e v w a H p q b inner
