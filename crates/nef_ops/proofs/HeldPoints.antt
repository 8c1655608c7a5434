-- The candidates of a combination within the open frame are points of the one skeleton, or lie in a span that holds the other.
use Rattle.nef_ops.proofs.Prelude.{ℕ, List, map, subst, ◌⊎◌, inl, inr, ⊎_elim, SpacePoint, Set, point_of, Point, IsAt, IsSkeletonPoint, at_vertex, on_edge, is-at_map, at-contains, complex_of, ShowsSet, Complex, Span, Named, First, Second, named_point, IsNameAt, AreNamed, HoldsSkeleton, AreHeldBySpan}
use Rattle.law_geometry.specs.complex.Complexes.{Complex as PlainComplex}
use Rattle.nef_cand.specs.declared.named.CandidateName.{CandidateName}
use Rattle.nef_cand.specs.declared.named.CandidateName.TheVariants as name

-- what has a name is a point of one of the skeletons
named-skeleton : (C D : PlainComplex) (y : SpacePoint) (n : CandidateName) → IsNameAt C D y n → IsSkeletonPoint C y ⊎ IsSkeletonPoint D y
named-skeleton C D y (name.Vertex First k) h = inl (at_vertex k, h)
named-skeleton C D y (name.Vertex Second k) h = inr (at_vertex k, h)
named-skeleton C D y (name.Edge First k) h = inl (on_edge k, h)
named-skeleton C D y (name.Edge Second k) h = inr (on_edge k, h)
named-skeleton C D y (name.Cut First k a) h = inl (on_edge k, h.0)
named-skeleton C D y (name.Cut Second k a) h = inr (on_edge k, h.0)

module _ (a b : Complex) (ns : List Named) (named : AreNamed (complex_of a) (complex_of b) ns) where
  point-skeleton : (k : ℕ) (p : Point) → IsAt (map named_point ns) k p → IsSkeletonPoint (complex_of a) (point_of p) ⊎ IsSkeletonPoint (complex_of b) (point_of p)
  point-skeleton k p at =
      let n = is-at_map named_point ns k p at in
      subst (λ (q : Point). IsSkeletonPoint (complex_of a) (point_of q) ⊎ IsSkeletonPoint (complex_of b) (point_of q)) n.2
      (named-skeleton (complex_of a) (complex_of b) (point_of (n.0).point) (n.0).name (named n.0 (at-contains ns k n.0 n.1)))

  -- those that aren't of the first skeleton lie in a span of the second
  pub first-held : (t : Set) (span : Span) → ShowsSet t b → HoldsSkeleton b span → AreHeldBySpan a span (map named_point ns)
  first-held t span T H k p at i = ⊎_elim (λ o. inl o) (λ o. inr (H t (point_of p) T i o)) (point-skeleton k p at)

  -- and the other way round
  pub second-held : (s : Set) (span : Span) → ShowsSet s a → HoldsSkeleton a span → AreHeldBySpan b span (map named_point ns)
  second-held s span S H k p at i = ⊎_elim (λ o. inr (H s (point_of p) S i o)) (λ o. inl o) (point-skeleton k p at)
