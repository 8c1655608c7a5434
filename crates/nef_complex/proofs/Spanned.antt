-- What lies within two spans, between two points of a span, and in a plane with a span of its vertices.
use Rattle.nef_complex.proofs.Prelude.{◌≡◌, ℤ, pos, sym, subst, inl, inr, SpacePoint, Form, form_at, SamePoint, IsBetween, Set, point_of, is-at_map, meets_vertex, meets_edge, IsSkeletonIn, Coordinate, coordinate_x, coordinate_y, coordinate_z, EachVertexOn, EachPointOn, IsWithin, Complex, Bounds, Span, vertex_of, complex_of, ShowsSet, IsSpanOn, IsInSpan, IsNarrower}
use Rattle.law_geometry.specs.complex.Complexes.{Vertex as PlainVertex}
use Rattle.law_geometry.proofs.complex.Spans.{plane-within, within-same, within-between}
use Rattle.nef_index.proofs.Spanning.{span-wider}

-- ---- at equal points, and between two points
pub span-same : (s : Span) (p q : SpacePoint) → SamePoint p q → IsInSpan s p → IsInSpan s q
span-same s p q e i = (within-same coordinate_x s.x.low s.x.high p q e i.0, within-same coordinate_y s.y.low s.y.high p q e i.1, within-same coordinate_z s.z.low s.z.high p q e i.2)

pub span-between : (s t u : Span) (p y q : SpacePoint) → IsBetween p y q → IsInSpan s p → IsInSpan t q → IsNarrower s u → IsNarrower t u → IsInSpan u y
span-between s t u p y q b i j n m =
    let k = span-wider s u p n i in
    let l = span-wider t u q m j in
    (within-between coordinate_x u.x.low u.x.high p y q b k.0 l.0, within-between coordinate_y u.y.low u.y.high p y q b k.1 l.1, within-between coordinate_z u.z.low u.z.high p y q b k.2 l.2)

-- ---- what a plane holds of the skeleton lies within its span
module _ (s : Set) (c : Complex) (S : ShowsSet s c) (h : Form) (span : Span) (B : IsSpanOn c.vertices h span) where
  each : (d : Coordinate) (low high : ℤ) → ((p : SpacePoint) → IsInSpan span p → IsWithin d low high p) → EachVertexOn (complex_of c) h (IsWithin d low high)
  each d low high part k v a e =
      let w = is-at_map vertex_of c.vertices k v a in
      subst (λ (r : PlainVertex). IsWithin d low high r.point) w.2
      (part (point_of w.0.point) (B k w.0 w.1 (subst (λ (r : PlainVertex). form_at h r.point ≡ pos 0) (sym w.2) e)))

  spanned-along : (d : Coordinate) (b : Bounds) → ((p : SpacePoint) → IsInSpan span p → IsWithin d b.low b.high p) → (y : SpacePoint) → form_at h y ≡ pos 0 → IsSkeletonIn s (complex_of c) h y → IsWithin d b.low b.high y
  spanned-along d b part y on = by (plane-within s (complex_of c) S.shows h d b.low b.high (each d b.low b.high part))
    where
      by : EachPointOn s (complex_of c) h (IsWithin d b.low b.high) → IsSkeletonIn s (complex_of c) h y → IsWithin d b.low b.high y
      by w (inl (meets_vertex k, x)) = w.0 k y x on
      by w (inl (meets_edge k, x)) = w.1 k y x.0 x.1
      by w (inr f) = w.2 y on f

  pub spanned : (y : SpacePoint) → form_at h y ≡ pos 0 → IsSkeletonIn s (complex_of c) h y → IsInSpan span y
  spanned y on i = (spanned-along coordinate_x span.x (λ p j. j.0) y on i, spanned-along coordinate_y span.y (λ p j. j.1) y on i, spanned-along coordinate_z span.z (λ p j. j.2) y on i)
