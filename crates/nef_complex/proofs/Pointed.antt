-- Vertices and their points: what an index says of the points, it says of the vertices.
use Rattle.nef_complex.proofs.Prelude.{◌≡◌, ◌↔◌, ℕ, ◌<◌, pos, List, length, ap, sym, subst, ◌∙◌, IsAt, Form, form_at, form_of, point_of, Plane, Point, is-at_some, is-at_one, is-at_within, Vertex, Edge, Span, points_of, IsInSpan, IsPointOn, IsEdgeIn, HaveEnds, LiesOn, EdgeLiesIn, ArePointHolders, AreVertexHolders, ArePointSpans, AreAlone, AreHolders, AreCarrierSpans, AreSpans, HoldsPointsOn, IsSpanOn, slice_get-map, option_map}
use Rattle.std.proofs.lemmas.List.{length-map}

pub point-at : (vs : List Vertex) (k : ℕ) (v : Vertex) → IsAt vs k v → IsAt (points_of vs) k v.point
point-at vs k v a = slice_get-map (λ (u : Vertex). u.point) vs k ∙ ap (option_map (λ (u : Vertex). u.point)) a

pub as-many : (vs : List Vertex) → length (points_of vs) ≡ length vs
as-many vs = length-map vs (λ (u : Vertex). u.point)

pub at-point : (vs : List Vertex) (k : ℕ) (p : Point) → IsAt (points_of vs) k p → (v : Vertex) × IsAt vs k v × (v.point ≡ p)
at-point vs k p a =
    let v = is-at_some vs k (subst (λ n. k < n) (as-many vs) (is-at_within (points_of vs) k p a)) in
    (v.0, v.1, is-at_one (points_of vs) k v.0.point p (point-at vs k v.0 v.1) a)

-- ---- in a plane
module _ (vs : List Vertex) (h : Form) where
  pub on-point : (k : ℕ) → IsPointOn (points_of vs) h k ↔ LiesOn vs h k
  on-point k = (
    λ (p, a, z). let v = at-point vs k p a in (v.0, v.1, subst (λ (q : Point). form_at h (point_of q) ≡ pos 0) (sym v.2) z),
    λ (v, a, z). (v.point, point-at vs k v a, z),
  )

  pub in-points : (es : List Edge) (k : ℕ) → IsEdgeIn (points_of vs) es h k ↔ EdgeLiesIn vs es h k
  in-points es k = (λ (e, a, p, q). (e, a, (on-point e.low).0 p, (on-point e.high).0 q), λ (e, a, p, q). (e, a, (on-point e.low).1 p, (on-point e.high).1 q))

  pub span-on : (s : Span) → HoldsPointsOn (points_of vs) h s → IsSpanOn vs h s
  span-on s H k v a = H k v.point (point-at vs k v a)

-- ---- what an index is given
pub rows-points : (hs : List Plane) (vs : List Vertex) (rows : List (List ℕ)) → AreVertexHolders hs vs rows → ArePointHolders hs (points_of vs) rows
rows-points hs vs rows R = record {
  as_many = R.as_many ∙ sym (as-many vs);
  each = λ k p ns a b. let v = at-point vs k p a in subst (λ (q : Point). AreHolders hs (point_of q) (point_of q) ns) v.2 (R.each k v.0 ns v.1 b);
}

pub spans-points : (vs : List Vertex) (ss : List Span) → AreAlone vs ss → ArePointSpans (points_of vs) ss
spans-points vs ss A = record {
  as_many = A.as_many ∙ sym (as-many vs);
  each = λ k p s a b. let v = at-point vs k p a in subst (λ (q : Point). IsInSpan s (point_of q)) v.2 (A.each k v.0 s v.1 b);
}

pub ends-points : (vs : List Vertex) (es : List Edge) → HaveEnds vs es → HaveEnds (points_of vs) es
ends-points vs es E k e a = let l = E k e a in (subst (λ n. e.low < n) (sym (as-many vs)) l.0, subst (λ n. e.high < n) (sym (as-many vs)) l.1)

-- ---- what it tells
pub spans-alone : (vs : List Vertex) (ss : List Span) → ArePointSpans (points_of vs) ss → AreAlone vs ss
spans-alone vs ss A = record { as_many = A.as_many ∙ as-many vs; each = λ k v s a b. A.each k v.point s (point-at vs k v a) b }

pub spans-on : (hs : List Plane) (vs : List Vertex) (ss : List Span) → AreCarrierSpans hs (points_of vs) ss → AreSpans hs vs ss
spans-on hs vs ss A = record { as_many = A.as_many; each = λ k h s a b. span-on vs (form_of h) s (A.each k h s a b) }
