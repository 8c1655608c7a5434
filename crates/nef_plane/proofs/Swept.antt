-- What a ray along the axis of a plane meets at a vertex and inside an edge.
use Rattle.nef_plane.proofs.Prelude.{◌≡◌, ℕ, pos, inl, inr, ⊎_elim, refl, SpacePoint, form_at, SamePoint, IsBetween, Set, Vector, form_of, point_of, far_point, FarHit, Plane, point-toward, same-point_sym, IsAt, Shows, between-ends, Vertex, Edge, Complex, PlaneMeet, AtVertex, AtEdge, complex_of, apart, HasEndsAt, IsParallelToAxis, IsHitThrough, IsMetBetween, AllHold, AtVertexNumber, AtEdgeNumber, AtMeet, IsNearestMet, far_met_of, far_reach_of, IsMissed}
use Rattle.law_geometry.specs.complex.Skeleton.{PlaneMeet as PlainMeet}
use Rattle.nef_plane.proofs.Axes.{axis-some}
use Rattle.nef_plane.proofs.Either.{by-ends}
use Rattle.nef_plane.proofs.Found.{both-same, vertex-some, vertex-none, edge-some, edge-none}
use Rattle.nef_plane.proofs.Meeting.{ahead-on}
use Rattle.law_geometry.proofs.near.Same.{level-same_point}
use Rattle.nef_space.proofs.Elementary.{same-itself}

module _ (s : Set) (c : Complex) (S : Shows s (complex_of c)) (h : Plane) (p : SpacePoint) (d : Vector) (A : IsParallelToAxis (form_of h) d) (on : form_at (form_of h) p ≡ pos 0) where
  module _ (k : ℕ) (v : Vertex) (a : IsAt c.vertices k v) where
    abbrev y : SpacePoint
    y = point_of v.point

    swept-no_vertex : ((q : SpacePoint) → IsMetBetween (form_of h) p d y y q → AllHold c.carriers d y y) → IsMissed p d (AtVertexNumber (complex_of c) k)
    swept-no_vertex N = vertex-none s c S p d (axis-some h d A) k v a
        (λ q w o. let z = level-same_point (form_of h) q y (same-point_sym y q o) (ahead-on h p d A on q w) in N q (record { holds = (z, z); ahead = w; on = inr (o, o) }))

    module _ (at : FarHit) (M : IsMetBetween (form_of h) p d y y (far_point at)) (T : IsHitThrough p d y y (far_reach_of at)) where
      same : SamePoint y (far_point at)
      same = ⊎_elim (λ (b : IsBetween y (far_point at) y). absurd (between-ends y (far_point at) y b (point-toward y y (same-itself y)))) (λ (t : SamePoint y (far_point at) × SamePoint y (far_point at)). t.0) M.on

      swept-vertex : IsNearestMet p d (AtVertexNumber (complex_of c) k) (far_met_of (record { meet = AtVertex k; at = at }))
      swept-vertex = vertex-some s c S p d (axis-some h d A) k v a (far_met_of (record { meet = AtVertex k; at = at })) refl same M.ahead T.reached

  module _ (k : ℕ) (e : Edge) (u v : Vertex) (l : IsAt c.edges k e) (i : IsAt c.vertices e.low u) (j : IsAt c.vertices e.high v) where
    abbrev low : SpacePoint
    low = point_of u.point

    abbrev high : SpacePoint
    high = point_of v.point

    swept-no_edge : ((q : SpacePoint) → IsMetBetween (form_of h) p d low high q → AllHold c.carriers d low high) → IsMissed p d (AtEdgeNumber (complex_of c) (form_of h) d k)
    swept-no_edge N = edge-none s c S (form_of h) p d (axis-some h d A) k e u v l i j (λ q w b H. N q (record { holds = H; ahead = w; on = inl b }))

    module _ (at : FarHit) (M : IsMetBetween (form_of h) p d low high (far_point at)) (T : IsHitThrough p d low high (far_reach_of at)) where
      between : IsBetween low (far_point at) high
      between = ⊎_elim (λ (b : IsBetween low (far_point at) high). b)
          (λ (t : SamePoint low (far_point at) × SamePoint high (far_point at)). absurd (apart s c S k e u v l i j (point-toward low high (both-same low high (far_point at) t.0 t.1)))) M.on

      swept-edge : IsNearestMet p d (AtEdgeNumber (complex_of c) (form_of h) d k) (far_met_of (record { meet = AtEdge k; at = at }))
      swept-edge = edge-some s c S (form_of h) p d (axis-some h d A) k e u v l i j (far_met_of (record { meet = AtEdge k; at = at })) (form_of T.plane) T.holds T.crosses.passes between M.ahead refl M.holds T.reached

  -- ---- either
  abbrev AtIt : PlaneMeet → PlainMeet → SpacePoint → Type 0
  AtIt = AtMeet (complex_of c) (form_of h) d

  abbrev pub NoneSwept : PlaneMeet → Vertex → Vertex → Type 0
  NoneSwept m u v = ((q : SpacePoint) → IsMetBetween (form_of h) p d (point_of u.point) (point_of v.point) q → AllHold c.carriers d (point_of u.point) (point_of v.point)) → IsMissed p d (AtIt m)

  pub none-swept : (m : PlaneMeet) (u v : Vertex) → HasEndsAt c m u v → NoneSwept m u v
  none-swept = by-ends c NoneSwept (λ k v l. swept-no_vertex k v l) (λ k e u v l i j. swept-no_edge k e u v l i j)

  module _ (at : FarHit) where
    abbrev pub Swept : PlaneMeet → Vertex → Vertex → Type 0
    Swept m u v = IsMetBetween (form_of h) p d (point_of u.point) (point_of v.point) (far_point at) → IsHitThrough p d (point_of u.point) (point_of v.point) (far_reach_of at) → IsNearestMet p d (AtIt m) (far_met_of (record { meet = m; at = at }))

    pub swept : (m : PlaneMeet) (u v : Vertex) → HasEndsAt c m u v → Swept m u v
    swept = by-ends c Swept (λ k v l. swept-vertex k v l at) (λ k e u v l i j. swept-edge k e u v l i j at)
