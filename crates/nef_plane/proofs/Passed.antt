-- What the course of a ray within a plane passes over, the ray doesn't meet.
use Rattle.nef_plane.proofs.Prelude.{◌≡◌, ℕ, zero, suc, ◌+◌, ◌≤◌, ℤ, pos, negsuc, ◌<ℤ◌, ◌≤ℤ◌, List, ◌⊎◌, arith, inl, inr, ⊎_elim, sym, ◌∙◌, subst, MatchOption, ints, by_order, sign-plus, sign-minus, plus-is, minus-is, IsAt, SpacePoint, Form, form_at, SamePoint, InClosedFrame, IsAhead, IsBetween, Set, Vector, dot, IsDirection, form_of, point_of, Plane, Point, Minus, Plus, sign_of, sign-same, is-at_one, map-is_at, Shows, Vertex, Edge, Complex, PlaneMeet, vertex_of, edge_of, complex_of, LiesOn, EdgeLiesIn, listed_edge, ends, StartsAt, IsCourse, IsExcluding, IsCoursePassed, IsCourseFirst, IsCoursePast, MeetLiesIn, AreEnds, AtVertexNumber, AtEdgeNumber, AtMeet, AreOpposite, sweep_axis, sweep_form, IsMissed, ray_form}
use Rattle.nef_complex.proofs.Framed.{vertex-framed, edge-framed}
use Rattle.nef_plane.specs.declared.course.Course.{Course}
use Rattle.nef_plane.proofs.Either.{by-numbers}
use Rattle.nef_plane.proofs.Found.{vertex-none, edge-none}
use Rattle.nef_plane.proofs.Ordered.{start-level, swept, ahead-past, ahead-before, between-at_most, between-at_least, later-past, later-from}
use Rattle.nef_plane.proofs.RayPlanes.{beside-vertex, beside-edge}
use Rattle.nef_space.proofs.Elementary.{same-itself}

plus_sign : (z : ℤ) → sign_of z ≡ Plus → pos 0 <ℤ z
plus_sign (pos zero) e = cc
plus_sign (pos (suc n)) e = omega (arith, ints)
plus_sign (negsuc n) e = cc

minus_sign : (z : ℤ) → sign_of z ≡ Minus → z <ℤ pos 0
minus_sign (pos zero) e = cc
minus_sign (pos (suc n)) e = cc
minus_sign (negsuc n) e = omega (arith, ints)

-- ---- a vertex from which a ray starts
module _ (s : Set) (c : Complex) (S : Shows s (complex_of c)) (h : Plane) (P : Point) (d : Vector) (on : form_at (form_of h) (point_of P) ≡ pos 0) (n : ℕ) (start : StartsAt c.vertices n P) where
  abbrev from : SpacePoint
  from = point_of P

  abbrev across : Form
  across = sweep_form (form_of h) from

  abbrev first : Vertex
  first = start.0

  at-start : IsAt c.vertices n first
  at-start = start.1

  start-on : form_at (form_of h) (point_of first.point) ≡ pos 0
  start-on = subst (λ (r : Point). form_at (form_of h) (point_of r) ≡ pos 0) (sym start.2) on

  start-nought : form_at across (point_of first.point) ≡ pos 0
  start-nought = subst (λ (r : Point). form_at across (point_of r) ≡ pos 0) (sym start.2) (start-level h from)

  pub start-framed : InClosedFrame from
  start-framed = vertex-framed s (complex_of c) S n from (vertex_of first, map-is_at vertex_of c.vertices n first at-start, subst (λ (r : Point). SamePoint (point_of first.point) (point_of r)) start.2 (same-itself (point_of first.point)))

  -- no vertex of the plane up to it is past it, and a ray that goes on in the coordinate meets what is past it
  pub first-forward : sign_of (dot (sweep_axis (form_of h)) d) ≡ Plus → IsCourseFirst c.vertices (form_of h) from d (n + 1)
  first-forward e = (
    across,
    λ q i m. ahead-past h from d q m (plus_sign (dot (sweep_axis (form_of h)) d) e),
    λ j v l a o. by_order (form_at across (point_of v.point)) (pos 0) (λ m. omega (arith, ints)) (λ m. omega (arith, ints))
        (λ m. absurd (
        let z = start-nought in
        let y = later-past s c S h across (swept (form_of h) from) j n v first a at-start o start-on (omega (arith, l)) m in
        omega (arith, ints))),
  )

  -- none from it on is before it, and a ray that goes back meets what is before it
  pub past-back : sign_of (dot (sweep_axis (form_of h)) d) ≡ Minus → IsCoursePast c.vertices (form_of h) from d n
  past-back e = (
    across,
    λ q i m. ahead-before h from d q m (minus_sign (dot (sweep_axis (form_of h)) d) e),
    λ j v l a o m. let y = later-from s c S h across (swept (form_of h) from) n j first v at-start a start-on o l (let z = start-nought in omega (arith, ints)) in omega (arith, ints),
  )

-- ---- what the course passes over
-- the course, or the plane with its normal, tells that the ray meets nothing between the vertices with these numbers
abbrev pub IsOffCourse : List Vertex → Point → Course → ℕ → ℕ → Type 0
IsOffCourse vs p x low high = IsCoursePassed x low high
    ⊎ ((u v : Vertex) → IsAt vs low u → IsAt vs high v → MatchOption x.normal ⊥ (λ n. AreOpposite (ray_form n p) (point_of u.point) (point_of v.point) → ⊥))

module _ (s : Set) (c : Complex) (S : Shows s (complex_of c)) (h : Plane) (P : Point) (d : Vector) (some : IsDirection d) (x : Course) (K : IsCourse c.vertices (form_of h) P d x) where
  abbrev p : SpacePoint
  p = point_of P

  -- what the ray meets is seen on other sides than what is passed
  not-below : (q : SpacePoint) → InClosedFrame q → IsAhead p d q → form_at K.first.0 q ≤ℤ pos 0 → ⊥
  not-below q i m l = let y = K.first.1 q i m in omega (arith, ints)

  not-past : (q : SpacePoint) → InClosedFrame q → IsAhead p d q → pos 0 ≤ℤ form_at K.past.0 q → ⊥
  not-past q i m l = let y = K.past.1 q i m in omega (arith, ints)

  past-not : (n : ℕ) (v : Vertex) → IsAt c.vertices n v → form_at (form_of h) (point_of v.point) ≡ pos 0 → x.past ≤ n → pos 0 ≤ℤ form_at K.past.0 (point_of v.point)
  past-not n v a o l = by_order (form_at K.past.0 (point_of v.point)) (pos 0)
      (λ m. absurd (K.past.2 n v l a o m)) (λ m. omega (arith, ints)) (λ m. omega (arith, ints))

  passed-vertex : (n : ℕ) (v : Vertex) → IsAt c.vertices n v → form_at (form_of h) (point_of v.point) ≡ pos 0 → IsCoursePassed x n n → IsMissed p d (AtVertexNumber (complex_of c) n)
  passed-vertex n v a o f = vertex-none s c S p d some n v a (λ q m e. absurd (never q m e f))
    where
      framed : (q : SpacePoint) → SamePoint (point_of v.point) q → InClosedFrame q
      framed q e = vertex-framed s (complex_of c) S n q (vertex_of v, map-is_at vertex_of c.vertices n v a, e)

      never : (q : SpacePoint) → IsAhead p d q → SamePoint (point_of v.point) q → IsCoursePassed x n n → ⊥
      never q m e (inl l) =
          let k = K.first.0 in
          let z = K.first.2 n v l a o in
          not-below q (framed q e) m (by_order (form_at k q) (pos 0) (λ y. omega (arith, ints)) (λ y. omega (arith, ints))
          (λ y. absurd (let u = plus-is (form_at k (point_of v.point)) (sign-same k (point_of v.point) q e ∙ sign-plus (form_at k q) y) in omega (arith, ints))))
      never q m e (inr l) =
          let k = K.past.0 in
          let z = past-not n v a o l in
          not-past q (framed q e) m (by_order (form_at k q) (pos 0)
          (λ y. absurd (let u = minus-is (form_at k (point_of v.point)) (sign-same k (point_of v.point) q e ∙ sign-minus (form_at k q) y) in omega (arith, ints)))
          (λ y. omega (arith, ints)) (λ y. omega (arith, ints)))

  module _ (n : ℕ) (e : Edge) (l : IsAt c.edges n e) (u v : Vertex) (i : IsAt c.vertices e.low u) (j : IsAt c.vertices e.high v) (on_u : form_at (form_of h) (point_of u.point) ≡ pos 0) (on_v : form_at (form_of h) (point_of v.point) ≡ pos 0) where
    upward : e.low ≤ e.high
    upward = let E = S.edges.edges n (edge_of e) (listed_edge s c S n e u v l i j) in let m = E.upward in omega (arith, m)

    framed : (q : SpacePoint) → IsBetween (point_of u.point) q (point_of v.point) → InClosedFrame q
    framed q b = edge-framed s (complex_of c) S n q (edge_of e, vertex_of u, vertex_of v, listed_edge s c S n e u v l i j, ends s c S n e u v l i j, b)

    never : (q : SpacePoint) → IsAhead p d q → IsBetween (point_of u.point) q (point_of v.point) → IsCoursePassed x e.low e.high → ⊥
    never q m b (inl o) =
        let t = upward in
        not-below q (framed q b) m
        (between-at_most K.first.0 (point_of u.point) q (point_of v.point) b (K.first.2 e.low u (omega (arith, o, t)) i on_u) (K.first.2 e.high v o j on_v))
    never q m b (inr o) =
        let t = upward in
        not-past q (framed q b) m
        (between-at_least K.past.0 (point_of u.point) q (point_of v.point) b (past-not e.low u i on_u o) (past-not e.high v j on_v (omega (arith, o, t))))

    none-met : IsCoursePassed x e.low e.high → IsMissed p d (AtEdgeNumber (complex_of c) (form_of h) d n)
    none-met f = edge-none s c S (form_of h) p d some n e u v l i j (λ q m b o. absurd (never q m b f))

  passed-edge : (n : ℕ) (e : Edge) → IsAt c.edges n e → EdgeLiesIn c.vertices c.edges (form_of h) n → IsCoursePassed x e.low e.high → IsMissed p d (AtEdgeNumber (complex_of c) (form_of h) d n)
  passed-edge n e l (f, a, (u, i, o), (v, j, r)) =
      let g = is-at_one c.edges n f e a l in
      none-met n e l u v (subst (λ (r : Edge). IsAt c.vertices r.low u) g i) (subst (λ (r : Edge). IsAt c.vertices r.high v) g j) o r

  -- nor does it meet what a plane through it with the course's normal has on one side
  off-vertex : (n : ℕ) → LiesOn c.vertices (form_of h) n → IsOffCourse c.vertices P x n n → IsMissed p d (AtVertexNumber (complex_of c) n)
  off-vertex n (v, l, o) = let a = l in ⊎_elim (passed-vertex n v a o) (λ f. beside-vertex s c S P d some x.normal n v a K.across (f v v l l))

  off-edge : (n : ℕ) (e : Edge) → IsAt c.edges n e → EdgeLiesIn c.vertices c.edges (form_of h) n → IsOffCourse c.vertices P x e.low e.high → IsMissed p d (AtEdgeNumber (complex_of c) (form_of h) d n)
  off-edge n e l (f, a, (u, i, o), (v, j, r)) =
      let g = is-at_one c.edges n f e a l in
      let i' = subst (λ (r : Edge). IsAt c.vertices r.low u) g i in let j' = subst (λ (r : Edge). IsAt c.vertices r.high v) g j in
      ⊎_elim (passed-edge n e l (f, a, (u, i, o), (v, j, r)))
      (λ t. beside-edge s c S P d some x.normal h n e u v l i' j' K.across (t u v i' j'))

  -- so it meets neither a vertex nor an edge that is off the course
  abbrev pub IsOff : PlaneMeet → ℕ → ℕ → Type 0
  IsOff m i j = MeetLiesIn c (form_of h) m → IsOffCourse c.vertices P x i j → IsMissed p d (AtMeet (complex_of c) (form_of h) d m)

  pub off-course : (m : PlaneMeet) (i j : ℕ) → AreEnds c m i j → IsOff m i j
  off-course = by-numbers c IsOff off-vertex (λ k e l. off-edge k e l)

  pub excluding-course : IsExcluding c (form_of h) (point_of P) d x
  excluding-course = record { holds = K.holds; first = λ m i j E H k l. off-course m i j E H (inl (inl l)); past = λ m i j E H l. off-course m i j E H (inl (inr l)) }
