-- The vertices of a plane beside a line along its axis, and what the line doesn't meet of the plane.
use Rattle.nef_plane.proofs.Prelude.{◌≡◌, ℕ, zero, suc, ◌+◌, ◌<◌, ◌≤◌, length, ℤ, pos, negsuc, Bool, true, false, ◌↔◌, IsTrue, List, arith, inl, inr, ⊎_elim, refl, subst, eq-or-lt_of_le, cases_lt, ints, by_order, IsAt, SpacePoint, Form, form_at, IsAhead, IsBetween, Set, Vector, form_of, point_of, sign_of, Plane, Minus, Zero, Plus, between-turned, same-point_sym, Shows, between-level, between-level_minus, is-at_one, is-at_within, Vertex, Edge, Complex, PlaneMeet, edge_of, complex_of, LiesOn, EdgeLiesIn, AreNumbersWith, map-is_at, IsBeforePlane, AreShortBelow, AreFarFrom, IsExcluding, IsLevel, IsUnparted, IsSwept, MeetLiesIn, AreEnds, IsParallelToAxis, AtVertexNumber, AtEdgeNumber, AtMeet, sweep_form, IsMissed}
use Rattle.nef_plane.specs.declared.course.Course.{Course}
use Rattle.nef_plane.proofs.Axes.{axis-level, axis-some}
use Rattle.nef_plane.proofs.Either.{by-numbers}
use Rattle.nef_plane.proofs.Found.{vertex-none, edge-none}
use Rattle.nef_plane.proofs.Listed.{held-vertex, lying-ends}
use Rattle.nef_plane.proofs.Meeting.{ahead-kept}
use Rattle.nef_plane.proofs.Ordered.{later-past, later-from}
use Rattle.law_geometry.proofs.near.Same.{level-same_point}

-- ---- the sides
pub minus-short : (b : Bool) (z : ℤ) → Minus ≡ sign_of z → IsTrue true ↔ IsBeforePlane b z
minus-short true (negsuc n) e = (λ t. omega (arith, ints), λ t. refl)
minus-short false (negsuc n) e = (λ t. omega (arith, ints), λ t. refl)
minus-short b (pos zero) e = cc
minus-short b (pos (suc n)) e = cc

pub zero-short : (b : Bool) (z : ℤ) → Zero ≡ sign_of z → IsTrue b ↔ IsBeforePlane b z
zero-short true (pos zero) e = (λ t. omega (arith, ints), λ t. refl)
zero-short false (pos zero) e = (λ t. absurd cc, λ t. absurd (omega (arith, ints)))
zero-short b (pos (suc n)) e = cc
zero-short b (negsuc n) e = cc

pub plus-short : (b : Bool) (z : ℤ) → Plus ≡ sign_of z → IsTrue false ↔ IsBeforePlane b z
plus-short true (pos (suc n)) e = (λ t. absurd cc, λ t. absurd (omega (arith, ints)))
plus-short false (pos (suc n)) e = (λ t. absurd cc, λ t. absurd (omega (arith, ints)))
plus-short b (pos zero) e = cc
plus-short b (negsuc n) e = cc

-- ---- the vertices of the plane, in order
-- the vertices with the first n of the numbers are short of the plane
abbrev pub AreShort : List Vertex → List ℕ → Form → Bool → ℕ → Type 0
AreShort vs ns k b n = (i j : ℕ) (v : Vertex) → i < n → IsAt ns i j → IsAt vs j v → IsBeforePlane b (form_at k (point_of v.point))

-- those with the other numbers aren't
abbrev pub AreFar : List Vertex → List ℕ → Form → Bool → ℕ → Type 0
AreFar vs ns k b n = (i j : ℕ) (v : Vertex) → n ≤ i → IsAt ns i j → IsAt vs j v → IsBeforePlane b (form_at k (point_of v.point)) → ⊥

module _ (s : Set) (c : Complex) (S : Shows s (complex_of c)) (h : Plane) (k : Form) (K : IsSwept (form_of h) k) (ns : List ℕ) (N : AreNumbersWith (LiesOn c.vertices (form_of h)) ns) (b : Bool) where
  earlier-short : (t : Bool) (i j : ℕ) (u v : Vertex) → IsAt c.vertices i u → IsAt c.vertices j v → form_at (form_of h) (point_of u.point) ≡ pos 0 → form_at (form_of h) (point_of v.point) ≡ pos 0 → i ≤ j
      → IsBeforePlane t (form_at k (point_of v.point)) → IsBeforePlane t (form_at k (point_of u.point))
  earlier-short true i j u v a e o r l m = by_order (form_at k (point_of u.point)) (pos 0) (λ x. omega (arith, ints)) (λ x. omega (arith, ints))
      (λ x. absurd (let y = later-past s c S h k K i j u v a e o r l x in omega (arith, ints)))
  earlier-short false i j u v a e o r l m = by_order (form_at k (point_of u.point)) (pos 0) (λ x. x)
      (λ x. absurd (let y = later-from s c S h k K i j u v a e o r l (omega (arith, ints)) in omega (arith, ints)))
      (λ x. absurd (let y = later-from s c S h k K i j u v a e o r l (omega (arith, ints)) in omega (arith, ints)))

  in-order : (i m n j : ℕ) → i ≤ m → IsAt ns i n → IsAt ns m j → n ≤ j
  in-order i m n j l a e = ⊎_elim
      (λ o. let f : n ≡ j = is-at_one ns m n j (subst (λ x. IsAt ns x n) o a) e in omega (arith, f))
      (λ o. let f = N.ordered i m n j o a e in omega (arith, f)) (eq-or-lt_of_le {n = i} {m = m} l)

  on : (i n : ℕ) (u : Vertex) → IsAt ns i n → IsAt c.vertices n u → form_at (form_of h) (point_of u.point) ≡ pos 0
  on i n u a e = held-vertex c.vertices (form_of h) n u e (N.each i n a)

  pub short-up_to : (m j : ℕ) (v : Vertex) → IsAt ns m j → IsAt c.vertices j v → IsBeforePlane b (form_at k (point_of v.point)) → AreShort c.vertices ns k b (m + 1)
  short-up_to m j v a e short i n u l f g = earlier-short b n j u v g e (on i n u f g) (on m j v a e) (in-order i m n j (omega (arith, l)) f a) short

  pub far-from : (m j : ℕ) (v : Vertex) → IsAt ns m j → IsAt c.vertices j v → (IsBeforePlane b (form_at k (point_of v.point)) → ⊥) → AreFar c.vertices ns k b m
  far-from m j v a e far i n u l f g short = far (earlier-short b j n v u e g (on m j v a e) (on i n u f g) (in-order m i j n l a f) short)

  pub short-below : (m r : ℕ) → IsAt ns m r → AreShort c.vertices ns k b m → AreShortBelow c.vertices (form_of h) k b r
  short-below m r a A j v l e o =
      let (i, f) = N.all j (v, e, o) in
      ⊎_elim (λ t. A i j v t f e) (λ t. absurd (let x = in-order m i r j t a f in omega (arith, l, x))) (cases_lt i m)

  pub far-above : (m r : ℕ) → IsAt ns m r → AreFar c.vertices ns k b m → AreFarFrom c.vertices (form_of h) k b r
  far-above m r a A j v l e o =
      let (i, f) = N.all j (v, e, o) in
      ⊎_elim (λ t. absurd (let x = N.ordered i m j r t f a in omega (arith, l, x))) (λ t. A i j v t f e) (cases_lt i m)

  pub all-short : (m : ℕ) → length ns ≤ m → AreShort c.vertices ns k b m → AreShortBelow c.vertices (form_of h) k b (length c.vertices)
  all-short m n A j v l e o =
      let (i, f) = N.all j (v, e, o) in
      A i j v (let x = is-at_within ns i j f in omega (arith, n, x)) f e

  pub none-far : AreFarFrom c.vertices (form_of h) k b (length c.vertices)
  none-far j v l e o x = let y = is-at_within c.vertices j v e in omega (arith, l, y)

-- ---- what a ray along the axis doesn't meet
module _ (s : Set) (c : Complex) (S : Shows s (complex_of c)) (h : Plane) (p : SpacePoint) (d : Vector) (A : IsParallelToAxis (form_of h) d) (on : form_at (form_of h) p ≡ pos 0) (x : Course) (L : IsLevel c.vertices (form_of h) p x) where
  abbrev line : Form
  line = sweep_form (form_of h) p

  unparted-vertex : (n : ℕ) → LiesOn c.vertices (form_of h) n → IsUnparted x n n → IsMissed p d (AtVertexNumber (complex_of c) n)
  unparted-vertex n (v, l, o) f = vertex-none s c S p d (axis-some h d A) n v l
      (λ q w e. absurd (let z = level-same_point line q (point_of v.point) (same-point_sym (point_of v.point) q e) (ahead-kept h p d A on q w) in
      ⊎_elim (λ (m, t). let y = L.before n v m l o in omega (arith, ints)) (λ (t, m). L.past n v m l o (omega (arith, ints))) f))

  module _ (n : ℕ) (e : Edge) (l : IsAt c.edges n e) (u v : Vertex) (i : IsAt c.vertices e.low u) (j : IsAt c.vertices e.high v) (on_u : form_at (form_of h) (point_of u.point) ≡ pos 0) (on_v : form_at (form_of h) (point_of v.point) ≡ pos 0) where
    never : (q : SpacePoint) → IsAhead p d q → IsBetween (point_of u.point) q (point_of v.point) → IsUnparted x e.low e.high → ⊥
    never q w m (inl (f, g)) =
        let y = between-level line (point_of u.point) q (point_of v.point) m (ahead-kept h p d A on q w) (L.before e.low u f i on_u) in
        let z = L.not_past e.high v g j on_v in omega (arith, ints)
    never q w m (inr (f, g)) = by_order (form_at line (point_of v.point)) (pos 0)
        (λ y. L.past e.high v g j on_v (omega (arith, ints))) (λ y. L.past e.high v g j on_v (omega (arith, ints)))
        (λ y. L.not_before e.low u f i on_u (between-level_minus line (point_of v.point) q (point_of u.point) (between-turned (point_of u.point) (point_of v.point) q m) (ahead-kept h p d A on q w) y))

    none-met : IsUnparted x e.low e.high → IsMissed p d (AtEdgeNumber (complex_of c) (form_of h) d n)
    none-met f = edge-none s c S (form_of h) p d (axis-some h d A) n e u v l i j (λ q w m o. absurd (never q w m f))

  unparted-edge : (n : ℕ) (e : Edge) → IsAt c.edges n e → EdgeLiesIn c.vertices c.edges (form_of h) n → IsUnparted x e.low e.high → IsMissed p d (AtEdgeNumber (complex_of c) (form_of h) d n)
  unparted-edge n e l (f, a, (u, i, o), (v, j, r)) =
      let g = is-at_one c.edges n f e a l in
      none-met n e l u v (subst (λ (r : Edge). IsAt c.vertices r.low u) g i) (subst (λ (r : Edge). IsAt c.vertices r.high v) g j) o r

  -- so it meets neither a vertex nor an edge that the level tells off
  abbrev pub IsOff : PlaneMeet → ℕ → ℕ → Type 0
  IsOff m i j = MeetLiesIn c (form_of h) m → IsUnparted x i j → IsMissed p d (AtMeet (complex_of c) (form_of h) d m)

  pub unparted : (m : PlaneMeet) (i j : ℕ) → AreEnds c m i j → IsOff m i j
  unparted = by-numbers c IsOff unparted-vertex (λ k e l. unparted-edge k e l)

  -- nor one whose first end has the level's second number, or a greater one
  from-first : (n : ℕ) (v : Vertex) → IsAt c.vertices n v → form_at (form_of h) (point_of v.point) ≡ pos 0 → x.past ≤ n → x.first ≤ n
  from-first n v l o g = ⊎_elim (λ t. absurd (let y = L.before n v t l o in L.past n v g l o (omega (arith, ints)))) (λ t. t) (cases_lt n x.first)

  abbrev pub IsMissedPast : PlaneMeet → ℕ → ℕ → Type 0
  IsMissedPast m i j = MeetLiesIn c (form_of h) m → x.past ≤ i → IsMissed p d (AtMeet (complex_of c) (form_of h) d m)

  past-edge : (n : ℕ) (e : Edge) → IsAt c.edges n e → EdgeLiesIn c.vertices c.edges (form_of h) n → x.past ≤ e.low → IsMissed p d (AtEdgeNumber (complex_of c) (form_of h) d n)
  past-edge n e l M g =
      let a = l in
      let (u, i, o) = (lying-ends c.vertices c.edges (form_of h) n e l M).0 in
      let E = S.edges.edges n (edge_of e) (map-is_at edge_of c.edges n e a) in let m = E.upward in
      unparted-edge n e a M (inr (from-first e.low u i o g, omega (arith, g, m)))

  past-missed : (m : PlaneMeet) (i j : ℕ) → AreEnds c m i j → IsMissedPast m i j
  past-missed = by-numbers c IsMissedPast (λ n (v, l, o) g. unparted-vertex n (v, l, o) (inr (from-first n v l o g, g))) past-edge

  -- nor one whose ends both have numbers below the level's first
  to-past : (n : ℕ) (v : Vertex) → IsAt c.vertices n v → form_at (form_of h) (point_of v.point) ≡ pos 0 → n < x.first → n < x.past
  to-past n v l o t = ⊎_elim (λ g. g) (λ g. absurd (let y = L.before n v t l o in L.past n v g l o (omega (arith, ints)))) (cases_lt n x.past)

  abbrev pub IsShortOf : PlaneMeet → ℕ → ℕ → Type 0
  IsShortOf m i j = MeetLiesIn c (form_of h) m → i < x.first → j < x.first → IsMissed p d (AtMeet (complex_of c) (form_of h) d m)

  short-edge : (n : ℕ) (e : Edge) → IsAt c.edges n e → EdgeLiesIn c.vertices c.edges (form_of h) n → e.low < x.first → e.high < x.first → IsMissed p d (AtEdgeNumber (complex_of c) (form_of h) d n)
  short-edge n e l M f g =
      let (v, j, r) = (lying-ends c.vertices c.edges (form_of h) n e l M).1 in
      unparted-edge n e l M (inl (f, to-past e.high v j r g))

  first-missed : (m : PlaneMeet) (i j : ℕ) → AreEnds c m i j → IsShortOf m i j
  first-missed = by-numbers c IsShortOf (λ n (v, l, o) f g. unparted-vertex n (v, l, o) (inl (f, to-past n v l o f))) short-edge

  pub excluding-level : IsExcluding c (form_of h) p d x
  excluding-level = record { holds = (on, axis-level h d A); first = first-missed; past = past-missed }
