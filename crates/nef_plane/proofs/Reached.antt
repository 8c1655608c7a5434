-- What a ray crosses of the planes that hold a vertex or an edge.
use Rattle.nef_plane.proofs.Prelude.{◌≡◌, ℕ, pos, ⊎_elim, inl, inr, Option, Some, None, refl, ◌↔◌, IsNone, IfSome, SpacePoint, SamePoint, IsAhead, IsBetween, form_at, slope, Set, Vector, IsDirection, IsCrossing, IsReached, form_of, point_of, hit_point, Hit, Plane, IsAt, between-same, same-point_sym, map-is_at, Shows, IsVertexPoint, IsEdgePoint, Vertex, Edge, Complex, PlaneMeet, AtVertex, AtEdge, vertex_of, edge_of, complex_of, HoldsBoth, vertex-same, listed_edge, ends, edge-inside, one-crossing, held-between, IsVertexOrLies, HasEndsAt, Reach, reach_of, near_met_of, IsHitThrough, AllHold, IsBetweenOrAt, AtVertexNumber, AtEdgeNumber, AtMeet, IsMeetPoint, IsNearestMet, IsMissed}
use Rattle.law_geometry.specs.complex.Skeleton.{PlaneMeet as PlainMeet}
use Rattle.nef_plane.proofs.Either.{by-ends}
use Rattle.nef_plane.proofs.Found.{both-same, vertex-some, vertex-none, edge-some, edge-none}
use Rattle.nef_plane.proofs.Listed.{held-edge}
use Rattle.law_geometry.proofs.near.Same.{level-same_point}
use Rattle.nef_space.proofs.Elementary.{same-itself}

-- a plane that holds both points holds what is within
pub within-level : (g : Plane) (a b y : SpacePoint) → HoldsBoth (form_of g) a b → IsBetweenOrAt a b y → form_at (form_of g) y ≡ pos 0
within-level g a b y H = ⊎_elim (λ (w : IsBetween a y b). held-between (form_of g) a b y w H) (λ (s : SamePoint a y × SamePoint b y). level-same_point (form_of g) a y s.0 H.0)

-- a plane that holds both points and isn't along the direction
module _ (o : Option Hit) (p : SpacePoint) (d : Vector) (g : Plane) (a b : SpacePoint) (A : HoldsBoth (form_of g) a b × (slope (form_of g) d ≡ pos 0 → ⊥)) where
  pub across-through : IfSome o (λ q. IsCrossing p d (form_of g) (hit_point q)) → IfSome o (λ q. IsReached p d q.num q.den q.den_sign (hit_point q)) → IfSome o (λ q. IsHitThrough p d a b (reach_of q))
  across-through = by o
    where
      by : (o : Option Hit) → IfSome o (λ q. IsCrossing p d (form_of g) (hit_point q)) → IfSome o (λ q. IsReached p d q.num q.den q.den_sign (hit_point q)) → IfSome o (λ q. IsHitThrough p d a b (reach_of q))
      by None c r = tt
      by (Some q) c r = record { plane = g; holds = A.0; crosses = c; reached = r }

  -- what the ray meets within the two points, it meets on the plane
  pub across-none : (IsNone o ↔ ((q : SpacePoint) → ¬ IsCrossing p d (form_of g) q)) → IsNone o → (y : SpacePoint) → IsAhead p d y → IsBetweenOrAt a b y → ⊥
  across-none n e y w m = n.0 e y (record { on = within-level g a b y A.0 m; ahead = w; passes = A.1 })

-- where a plane through both points is crossed, all that the ray meets within them is there
through-one : (p : SpacePoint) (d : Vector) (a b : SpacePoint) (q : Reach) → IsHitThrough p d a b q → (y : SpacePoint) → IsAhead p d y → IsBetweenOrAt a b y → SamePoint y q.place
through-one p d a b q T y w m = one-crossing (form_of T.plane) d p y q.place w.parallel T.crosses.ahead.parallel (within-level T.plane a b y T.holds m, T.crosses.on) T.crosses.passes

module _ (s : Set) (c : Complex) (S : Shows s (complex_of c)) (p : SpacePoint) (d : Vector) (some : IsDirection d) where
  -- ---- a vertex
  module _ (k : ℕ) (v : Vertex) (a : IsAt c.vertices k v) where
    abbrev y : SpacePoint
    y = point_of v.point

    -- it isn't met, where no plane through it is crossed
    uncrossed-vertex : ((q : SpacePoint) → IsAhead p d q → IsBetweenOrAt y y q → AllHold c.carriers d y y) → IsMissed p d (AtVertexNumber (complex_of c) k)
    uncrossed-vertex N = vertex-none s c S p d some k v a (λ q w o. N q w (inr (o, o)))

    module _ (at : Hit) (T : IsHitThrough p d y y (reach_of at)) where
      -- nor where one is crossed elsewhere
      missed-vertex : (IsVertexPoint (complex_of c) k (hit_point at) → ⊥) → IsMissed p d (AtVertexNumber (complex_of c) k)
      missed-vertex n = vertex-none s c S p d some k v a
          (λ q w o. absurd (n (vertex_of v, map-is_at vertex_of c.vertices k v a, both-same y (hit_point at) q o (same-point_sym q (hit_point at) (through-one p d y y (reach_of at) T q w (inr (o, o)))))))

      reached-vertex : IsVertexPoint (complex_of c) k (hit_point at) → IsNearestMet p d (AtVertexNumber (complex_of c) k) (near_met_of (record { meet = AtVertex k; at = at }))
      reached-vertex x = vertex-some s c S p d some k v a (near_met_of (record { meet = AtVertex k; at = at })) refl (vertex-same c k v a (hit_point at) x) T.crosses.ahead T.reached

  -- ---- an edge
  module _ (h : Plane) (k : ℕ) (e : Edge) (u v : Vertex) (l : IsAt c.edges k e) (i : IsAt c.vertices e.low u) (j : IsAt c.vertices e.high v) where
    abbrev low : SpacePoint
    low = point_of u.point

    abbrev high : SpacePoint
    high = point_of v.point

    -- it isn't met, where no plane through it is crossed
    uncrossed-edge : ((q : SpacePoint) → IsAhead p d q → IsBetweenOrAt low high q → AllHold c.carriers d low high) → IsMissed p d (AtEdgeNumber (complex_of c) (form_of h) d k)
    uncrossed-edge N = edge-none s c S (form_of h) p d some k e u v l i j (λ q w b H. N q w (inl b))

    module _ (at : Hit) (T : IsHitThrough p d low high (reach_of at)) where
      -- nor where one is crossed elsewhere
      missed-edge : (IsEdgePoint (complex_of c) k (hit_point at) → ⊥) → IsMissed p d (AtEdgeNumber (complex_of c) (form_of h) d k)
      missed-edge n = edge-none s c S (form_of h) p d some k e u v l i j
          (λ q w b H. absurd (n (
            edge_of e,
            vertex_of u,
            vertex_of v,
            listed_edge s c S k e u v l i j,
            ends s c S k e u v l i j,
            between-same low q high low (hit_point at) high (same-itself low) (through-one p d low high (reach_of at) T q w (inl b)) (same-itself high) b,
          )))

      reached-edge : HoldsBoth (form_of h) low high → IsEdgePoint (complex_of c) k (hit_point at) → IsNearestMet p d (AtEdgeNumber (complex_of c) (form_of h) d k) (near_met_of (record { meet = AtEdge k; at = at }))
      reached-edge H x = edge-some s c S (form_of h) p d some k e u v l i j (near_met_of (record { meet = AtEdge k; at = at })) (form_of T.plane) T.holds T.crosses.passes
          (edge-inside s c S k e u v l i j (hit_point at) x) T.crosses.ahead refl H T.reached

  -- ---- either: it isn't met where no plane through its ends is crossed, nor where one is crossed elsewhere
  module _ (h : Plane) where
    abbrev AtIt : PlaneMeet → PlainMeet → SpacePoint → Type 0
    AtIt = AtMeet (complex_of c) (form_of h) d

    abbrev pub Uncrossed : PlaneMeet → Vertex → Vertex → Type 0
    Uncrossed m u v = ((q : SpacePoint) → IsAhead p d q → IsBetweenOrAt (point_of u.point) (point_of v.point) q → AllHold c.carriers d (point_of u.point) (point_of v.point)) → IsMissed p d (AtIt m)

    pub uncrossed : (m : PlaneMeet) (u v : Vertex) → HasEndsAt c m u v → Uncrossed m u v
    uncrossed = by-ends c Uncrossed (λ k v l. uncrossed-vertex k v l) (λ k e u v l i j. uncrossed-edge h k e u v l i j)

    module _ (at : Hit) where
      abbrev pub Missed : PlaneMeet → Vertex → Vertex → Type 0
      Missed m u v = IsHitThrough p d (point_of u.point) (point_of v.point) (reach_of at) → (IsMeetPoint (complex_of c) m (hit_point at) → ⊥) → IsMissed p d (AtIt m)

      pub missed : (m : PlaneMeet) (u v : Vertex) → HasEndsAt c m u v → Missed m u v
      missed = by-ends c Missed (λ k v l. missed-vertex k v l at) (λ k e u v l i j. missed-edge h k e u v l i j at)

      abbrev pub Reached : PlaneMeet → Vertex → Vertex → Type 0
      Reached m u v = IsHitThrough p d (point_of u.point) (point_of v.point) (reach_of at) → IsVertexOrLies c (form_of h) m → IsMeetPoint (complex_of c) m (hit_point at) → IsNearestMet p d (AtIt m) (near_met_of (record { meet = m; at = at }))

      pub reached : (m : PlaneMeet) (u v : Vertex) → HasEndsAt c m u v → Reached m u v
      reached = by-ends c Reached (λ k v l T y. reached-vertex k v l at T)
          (λ k e u v l i j T y. reached-edge h k e u v l i j at T (held-edge c.vertices c.edges (form_of h) k e u v l i j y))
