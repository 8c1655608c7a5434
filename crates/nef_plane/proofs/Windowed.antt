-- What lies outside a window isn't met sooner than what the window leads to.
use Rattle.nef_plane.proofs.Prelude.{◌≡◌, ℕ, ◌<◌, length, List, Option, Some, None, sym, subst, ⊎_elim, inl, inr, IfSome, IsAt, SpacePoint, Form, Set, Vector, point_of, Shows, is-at_map, is-at_within, is-at_some, Vertex, Complex, PlaneMeet as ProgramMeet, AtVertex, AtEdge, Span, edge_of, complex_of, meet_of, AreAlone, IsInSpan, IsNarrower, vertex-same, edge-inside, span-same, span-between, span-wider, HasMeet, AreEnds, HasEndsAt, Reach, met_of, AtMeet, AtEdgeNumber, IsMeetPoint, IsBetweenOrAt, IsNearest, IsOutside, HoldsBefore, IsWindowTo}
use Rattle.law_geometry.specs.complex.Complexes.{Complex as PlainComplex}
use Rattle.law_geometry.specs.complex.Skeleton.{PlaneMeet}
use Rattle.nef_plane.specs.declared.first.Met.{Met}
use Rattle.nef_plane.proofs.Either.{by-ends}
use Rattle.nef_plane.proofs.Nearest.{From}

-- what is met at a vertex or an edge is a point of that
pub met-point : (C : PlainComplex) (h : Form) (d : Vector) (m : ProgramMeet) (n : PlaneMeet) (q : SpacePoint) → AtMeet C h d m n q → IsMeetPoint C m q
met-point C h d (AtVertex k) n q x = x.1
met-point C h d (AtEdge k) n q (o, e, v, w, a, H, b, i, r) = (e, v, w, a, H, b)

module _ (s : Set) (c : Complex) (S : Shows s (complex_of c)) where
  -- a point of a vertex or an edge is within the ends of that
  point-within : (m : ProgramMeet) (u v : Vertex) → HasEndsAt c m u v → (y : SpacePoint) → IsMeetPoint (complex_of c) m y → IsBetweenOrAt (point_of u.point) (point_of v.point) y
  point-within = by-ends c (λ m u v. (y : SpacePoint) → IsMeetPoint (complex_of c) m y → IsBetweenOrAt (point_of u.point) (point_of v.point) y)
      (λ k v l y x. let e = vertex-same c k v l y x in inr (e, e))
      (λ k e u v l i j y x. inl (edge-inside s c S k e u v l i j y x))

  -- what is as wide as the spans of both ends holds it
  pub ends-spanned : (ss : List Span) → AreAlone c.vertices ss → (m : ProgramMeet) (i j : ℕ) → AreEnds c m i j → i < length c.vertices → j < length c.vertices → (a b r : Span) → IsAt ss i a → IsAt ss j b → IsNarrower a r → IsNarrower b r
      → (y : SpacePoint) → IsMeetPoint (complex_of c) m y → IsInSpan r y
  ends-spanned ss A m i j E l k a b r f g n o y x =
      let u = is-at_some c.vertices i l in
      let v = is-at_some c.vertices j k in
      let p = A.each i u.0 a u.1 f in
      let q = A.each j v.0 b v.1 g in
      ⊎_elim
      (λ z. span-between a b r (point_of u.0.point) y (point_of v.0.point) z p q n o)
      (λ z. span-same r (point_of u.0.point) y z.0 (span-wider a r (point_of u.0.point) n p))
      (point-within m u.0 v.0 (i, j, E, u.1, v.1) y x)

-- ---- what was met of the edges, and the window to it
module _ (c : Complex) (h : Form) (d : Vector) where
  -- what is met at an edge with a number is that edge, and lies in it
  edge-met : (m : ProgramMeet) (k : ℕ) (q : SpacePoint) → AtEdgeNumber (complex_of c) h d k (meet_of m) q → HasMeet c m × IsMeetPoint (complex_of c) m q
  edge-met (AtVertex j) k q (o, e, v, w, a, H, b, i, r) = cc
  edge-met (AtEdge j) k q (o, e, v, w, a, H, b, i, r) =
      let same : j ≡ k = cc in
      let f = is-at_map edge_of c.edges k e a in
      subst (λ (i : ℕ). HasMeet c (AtEdge i) × IsMeetPoint (complex_of c) (AtEdge i) q) (sym same) (is-at_within c.edges k f.0 f.1, (e, v, w, a, H, b))

  module _ {H : Type 0} (reach : H → Reach) (p : SpacePoint) (ns : List ℕ) (n : ℕ) where
    abbrev Listed : PlaneMeet → SpacePoint → Type 0
    Listed = From (met_of reach) p d ns (λ k. AtEdgeNumber (complex_of c) h d k) n

    pub best-has : (o : Option (Met H)) → IsNearest (met_of reach) p d Listed o → IfSome o (λ x. HasMeet c x.meet)
    best-has None A = tt
    best-has (Some x) A = let (j, t, (k, l, m)) = A.met in (edge-met x.meet k (reach x.at).place m).0

    pub best-held : (o : Option (Met H)) (from window : Option Span) → IsNearest (met_of reach) p d Listed o → IfSome from (λ s. IsInSpan s p) → IsWindowTo (complex_of c) from o window → HoldsBefore (met_of reach) p o window
    best-held o from None A F W = tt
    best-held None from (Some s) A F W = W p F
    best-held (Some x) from (Some s) A F W = λ y b. let (j, t, (k, l, m)) = A.met in W p F (reach x.at).place y (edge-met x.meet k (reach x.at).place m).1 b

  -- an edge without a point within the window is met outside the window
  pub met-outside : (m : ProgramMeet) (window : Option Span) → ((y : SpacePoint) → IsMeetPoint (complex_of c) m y → IsOutside window y) → (n : PlaneMeet) (q : SpacePoint) → AtMeet (complex_of c) h d m n q → IsOutside window q
  met-outside m window f n q x = f q (met-point (complex_of c) h d m n q x)
