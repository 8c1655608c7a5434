-- The claims hold at each vertex of a slice, and with them the converse for volumes. The whole argument:
--
-- A point p with three flat directions names the side above the place at which the ray down from p ends; all the points of a side's class are to name that class.
-- Outside the frame all sides are linked; so let all be in the frame. Two points that are joined are so by segments of such points; so it is enough that (1) some
-- point at each side names a side of its class (SidesName), and (2) the ends of a segment name sides of one class (FreeSegments).
--
-- Slices. A plane that holds up cuts the set in a planar figure. The set with the plane's points exchanged has that figure for a facet (Slice): where three
-- directions are flat for the set, just the plane's are for the slice; what the plane cuts of the set's facets, and the edges in it, are edges of the slice; what it cuts of
-- edges, and vertices, are its vertices. None of its edges runs along up but an edge of the set, since no facet does.
--
-- Sides beside a point. What lies off a skeleton point y toward f lies close to a vertex, so sides of that vertex touch y toward f (Touch). Directions between
-- which all are free are touched by linked sides. What lies above equal points, or above points of one edge or facet, is linked: for facets by the converse for items (OneOver).
-- So is what touches y toward f, and what lies above the edge or facet that leaves y in the first direction down from f that isn't free (Leaves). An edge
-- of which y is the higher end is passed by the item of its first facet, or, without facets, by the link along it.
--
-- Falls. Let y and b be points of a slice such that all is free between them, and let no vertex of the slice lie on the lines along up beyond y's as far as b's. Let the
-- fall from y end at y', all free before. By third sides of triangles (Planar, Strip) all is free between b and y'. If y' lies on an edge of the slice, that runs
-- under b, and what falls from b lands on it (Land), so both name sides above one edge or facet. If y' is a vertex of the slice, this is the
-- claim at y': what falls from a point b that y' sees, beside no vertex, names a side of the class of each that touches y' toward b (Claims).
-- So (2) follows from the claims at the vertices of the slices by planes through the segment: cut it at the lines of those vertices, and halve each part.
--
-- The claim at a vertex y of a slice (Vertices). Turn from b down. If an edge leaves y to that side, what falls from b lands on the first one: see Leaves. If none does:
-- * Down is free at y. Let the ray down from y end at r. By the fall beside it b names a side of the class of what lies above r, by the claim at r if that is a vertex of
--   the slice. What touches y toward b touches it downward too. If y is a vertex, that is linked down to what lies above r. If y lies on an edge: the points just below the
--   edge lead, by segments in the slice along the edge, to its lower end v, since with y's own fall all is free in a triangle as slender as one likes (EdgeFalls). These name one class, by the claims at
--   the vertices of that slice below the edge; close to v this is the class of what touches v there, by the claim at v.
-- * Down isn't free. Then a lone edge runs down from y, along up, to a vertex v; b falls beside it, and the claim at v is that at y, by the link along the edge (Upright, UprightVertex).
--
-- The claims that are used come before. Events are the vertices of the set and those of the slices through two of them: finitely many. In the order of points,
-- what lies below comes before, and so do an edge's points before its higher end. Claims at v, and at the vertices below an edge, are at events before y, so fewer events come before them.
-- The claim at r needs no more events, and fewer carriers lie ahead of r downward than of y: r lies on one that up crosses, or up would be flat there. So induction on both, in that order, ends.
use Rattle.nef_conn.proofs.Prelude.{◌≡◌, ℕ, zero, suc, ◌+◌, ◌<◌, ◌≤◌, ℤ, pos, ◌-ℤ◌, ◌*ℤ◌, ◌<ℤ◌, ◌≤ℤ◌, arith, refl, sym, ◌∙◌, ◌⊎◌, inl, inr, ⊎_elim, List, ◌∷◌, ◌++◌, subst, [], ints, nought, sign, Lies, lies-left, lies-right, ring, at, num, ◌⊖◌, ◌⊗◌, by_order, nought-is, mul_nonneg, nought-or, plus-of, minus-of, Chained, Flat, FlatDim, IsVertex, IsEven, SpacePoint, Form, form_at, normal_of, slope, SamePoint, InFrame, toward, IsBetween, IsPointBelow, Set, Vector, blend, opposite, cross, IsZero, IsDirection, SameDirection, up, sign_at, carriers, between-inner, is_nought, Decided, decided-to, decided-both, decided-or, every, Flat-from_cone, FlatCone-from_flat, FlatCone-from_carriers, point_below-trans, same-point_below, point_below-apart, signs-same, same-point_sym, all-vertices, point-toward, between-same, slope-toward, gather, IsAt, MapVertex, gather-has, same-plus, same-minus, Vertex, Edge, Complex, HasEnds, Shows, VertexSide, RayDown, through-at, between-way, between-outer, same-point_trans, VolumeLink, IsUpright, edge-ways, AreLinkedWhereJoined, opposite_form, sliced, FlatDim-one, FlatDim-by_germs, ahead, near-ahead, span-1, near-of_flat, steep, forms, amount, is-at_one, dir-at, near_point, near-between, edge-points, IsEvenAfter, free-dim, ahead-cells, dim-cell, tied-ray, tied-turned, dot-zero, SameDirection-turned, SameDirection-trans, dir-self, dir-signs, dot-opposite, direction-left, direction-right}
use Rattle.nef_conn.proofs.Claims.{Claim, not-flat}
use Rattle.nef_conn.proofs.Downs.{vertex-down, svertex-down, vertex-falls, down-some}
use Rattle.nef_conn.proofs.EdgeFalls.{plane_of, hn, level, edge-falls}
use Rattle.nef_conn.proofs.FreeSegments.{segment-in, minus-off, minus-slice}
use Rattle.nef_conn.proofs.Leaves.{Beside-point}
use Rattle.nef_conn.proofs.Lexical.{normal-below, before-between, down-before, below-decided}
use Rattle.nef_conn.proofs.NearOver.{up-some}
use Rattle.nef_conn.proofs.OneNamed.{one-vertex}
use Rattle.nef_conn.proofs.Tally.{tally, tally-mono, tally-strict}
use Rattle.nef_conn.proofs.Near.{Wedge}
use Rattle.nef_conn.proofs.RaysEnd.{tied-dim}
use Rattle.nef_conn.proofs.SliceStrip.{lam, Clear}
use Rattle.nef_conn.proofs.Touch.{edge-frame}
use Rattle.nef_conn.proofs.UprightVertex.{down-edge}
use Rattle.nef_conn.proofs.Vertices.{claim-at}
use Rattle.nef_space.proofs.Elementary.{minor-opposite, same-itself}
use Rattle.law_geometry.proofs.near.Normals.{toward-normal, normal-kept}
use Rattle.law_geometry.proofs.near.Same.{dim-same}

-- ---- the measures
abbrev pub slice_events : Set → SpacePoint → SpacePoint → List SpacePoint
slice_events s p q = (all-vertices (sliced s (plane_of p q))).0

abbrev pub events : Set → Complex → List SpacePoint
events s C = (all-vertices s).0 ++ gather (λ v. gather (λ w. slice_events s v.point w.point) C.vertices) C.vertices

abbrev pub before : Set → Complex → SpacePoint → ℕ
before s C y = tally (λ q. IsPointBelow q y) (λ q. below-decided q y) (events s C)

-- the carrier lies ahead of y downward
abbrev pub Ahead : SpacePoint → Form → Type 0
Ahead y f = ((pos 0 <ℤ form_at f y) × (slope f (opposite up) <ℤ pos 0)) ⊎ ((form_at f y <ℤ pos 0) × (pos 0 <ℤ slope f (opposite up)))

pub less-decided : (a b : ℤ) → Decided (a <ℤ b)
less-decided a b = by_order a b (λ l. inl l) (λ e. inr (λ l. omega (arith, ints))) (λ l. inr (λ m. omega (arith, ints)))

pub ahead-decided : (y : SpacePoint) (f : Form) → Decided (Ahead y f)
ahead-decided y f = decided-or (decided-both (less-decided (pos 0) (form_at f y)) (less-decided (slope f (opposite up)) (pos 0))) (decided-both (less-decided (form_at f y) (pos 0)) (less-decided (pos 0) (slope f (opposite up))))

abbrev pub ahead-of : Set → SpacePoint → ℕ
ahead-of s y = tally (Ahead y) (ahead-decided y) (carriers s)

-- ---- below a point fewer carriers lie ahead
module _ (y r : SpacePoint) (down : SameDirection (toward y r) (opposite up)) where
  module _ (f : Form) where
    same : sign (slope f (toward y r)) ≡ sign (slope f (opposite up))
    same = dir-signs (opposite up) (toward y r) (normal_of f) down-some (SameDirection-turned (toward y r) (opposite up) down)

    -- from the values at both
    falls-plain : (a b m : ℤ) → m ≡ pos y.w *ℤ b -ℤ pos r.w *ℤ a → m <ℤ pos 0 → pos 0 ≤ℤ b → pos 0 <ℤ a
    falls-plain a b m e l h =
        let u = mul_nonneg (pos y.w) b (let k = y.proper in omega (arith, ints)) h in
        plus-of (pos r.w) a (let k = r.proper in omega (arith, ints)) (omega (arith, ints))

    rises-plain : (a b m : ℤ) → m ≡ pos y.w *ℤ b -ℤ pos r.w *ℤ a → pos 0 <ℤ m → b ≤ℤ pos 0 → a <ℤ pos 0
    rises-plain a b m e l h =
        let u = mul_nonneg (pos y.w) (pos 0 -ℤ b) (let k = y.proper in omega (arith, ints)) (omega (arith, ints)) in
        let x = ring (b ∷ pos y.w ∷ []) (at 1 ⊗ (num (pos 0) ⊖ at 0)) (num (pos 0) ⊖ at 1 ⊗ at 0) tt in
        minus-of (pos r.w) a (let k = r.proper in omega (arith, ints)) (omega (arith, ints))

    pub still-ahead : Ahead r f → Ahead y f
    still-ahead (inl (a, b)) = inl (falls-plain (form_at f y) (form_at f r) (slope f (toward y r)) (slope-toward f y r) (same-minus (slope f (opposite up)) (slope f (toward y r)) same b) (omega (arith, ints)), b)
    still-ahead (inr (a, b)) = inr (rises-plain (form_at f y) (form_at f r) (slope f (toward y r)) (slope-toward f y r) (same-plus (slope f (opposite up)) (slope f (toward y r)) same b) (omega (arith, ints)), b)

    -- one on which r lies, and which up crosses, lay ahead
    pub was-ahead : form_at f r ≡ pos 0 → (slope f up ≡ pos 0 → ⊥) → Ahead y f
    was-ahead z n =
        let e = dot-opposite (normal_of f) up in
        by_order (slope f (opposite up)) (pos 0)
        (λ l. inl (falls-plain (form_at f y) (form_at f r) (slope f (toward y r)) (slope-toward f y r) (same-minus (slope f (opposite up)) (slope f (toward y r)) same l) (omega (arith, ints)), l))
        (λ l. absurd (n (omega (arith, ints))))
        (λ l. inr (rises-plain (form_at f y) (form_at f r) (slope f (toward y r)) (slope-toward f y r) (same-plus (slope f (opposite up)) (slope f (toward y r)) same l) (omega (arith, ints)), l))

    pub not-ahead : form_at f r ≡ pos 0 → Ahead r f → ⊥
    not-ahead z (inl (a, b)) = omega (arith, ints)
    not-ahead z (inr (a, b)) = omega (arith, ints)

-- along up is along down
along-down : (d : Vector) → IsZero (cross d up) → IsZero (cross d (opposite up))
along-down d z = (minor-opposite d.y d.z up.y up.z z.0, minor-opposite d.z d.x up.z up.x z.1, minor-opposite d.x d.y up.x up.y z.2)

-- ---- along an edge
module _ (s : Set) (C : Complex) (S : Shows s C) (k : ℕ) (e : Edge) (v w : Vertex) (a : IsAt C.edges k e) (H : HasEnds C e v w) where
  edge-some : IsDirection (edge-ways s C S k e v w a H).low.dir
  edge-some = let W = edge-ways s C S k e v w a H in direction-right (toward v.point w.point) W.low.dir W.onward

  edge-flat : (y : SpacePoint) → IsBetween v.point y w.point → Flat s y (edge-ways s C S k e v w a H).low.dir
  edge-flat y b =
      let W = edge-ways s C S k e v w a H in
      let E = edge-points s C k e v w y S a H b in
      (E.1 W.low.dir).1 (subst (λ (r : Vector). IsZero (cross r W.low.dir)) (sym (dir-at v.map.svertices e.low_svertex W.low W.is_low)) (let o = dir-self W.low.dir edge-some in o.parallel))

  -- toward a direction along it the set is no flatter
  edge-not_up : (y : SpacePoint) → IsBetween v.point y w.point → (d : Vector) → IsZero (cross (edge-ways s C S k e v w a H).low.dir d) → FlatDim s (ahead s y d) 3 → ⊥
  edge-not_up y b d z f =
      let g = span-1 s y (edge-ways s C S k e v w a H).low.dir d edge-some (edge-flat y b) z in
      let one = (edge-points s C k e v w y S a H b).0 in
      let o = FlatDim-by_germs s s y (ahead s y d) (λ p l. let i = near-of_flat s y d (FlatCone-from_flat s y d g) p l in let h = near-ahead s y d p l in (λ m. h.1 (i.0 m), λ m. i.1 (h.0 m))) 1 one in
      let j = FlatDim-one s (ahead s y d) 1 3 o f in
      absurd (omega arith)

module _ (s : Set) (C : Complex) (S : Shows s C) (upright : IsUpright C) (linked : AreLinkedWhereJoined s C) where
  abbrev pub Good : SpacePoint → Type 0
  Good y = (h : Form) (hn : IsDirection (normal_of h)) (level : slope h up ≡ pos 0) → form_at h y ≡ pos 0 → FlatDim (sliced s h) y 0 → Claim s C S upright linked h hn level y

  -- ---- what comes before
  before-mono : (p y : SpacePoint) → IsPointBelow p y → before s C p ≤ before s C y
  before-mono p y l = tally-mono (λ q. IsPointBelow q p) (λ q. IsPointBelow q y) (λ q. below-decided q p) (λ q. below-decided q y) (events s C) (λ q i m. point_below-trans q p y m l)

  before-strict : (p y q : SpacePoint) → IsPointBelow p y → Lies (events s C) q → SamePoint q p → before s C p < before s C y
  before-strict p y q l i e = tally-strict (λ q. IsPointBelow q p) (λ q. IsPointBelow q y) (λ q. below-decided q p) (λ q. below-decided q y) (events s C) (λ q j m. point_below-trans q p y m l) q i
      (same-point_below q p y e l) (λ m. point_below-apart q p m e)

  vertex-event : (v : SpacePoint) → IsVertex s v → (q : SpacePoint) × Lies (events s C) q × SamePoint q v
  vertex-event v f = let A = (all-vertices s).2 v f in (A.0, lies-left (all-vertices s).0 (gather (λ v. gather (λ w. slice_events s v.point w.point) C.vertices) C.vertices) A.0 A.1, A.2)

  slice-event : (i j : ℕ) (v w : Vertex) → IsAt C.vertices i v → IsAt C.vertices j w → (r : SpacePoint) → IsVertex (sliced s (plane_of v.point w.point)) r → (q : SpacePoint) × Lies (events s C) q × SamePoint q r
  slice-event i j v w a b r f =
      let A = (all-vertices (sliced s (plane_of v.point w.point))).2 r f in (
        A.0,
        lies-right (all-vertices s).0 (gather (λ v. gather (λ w. slice_events s v.point w.point) C.vertices) C.vertices) A.0
            (gather-has (λ v. gather (λ w. slice_events s v.point w.point) C.vertices) C.vertices i v A.0 a (gather-has (λ w. slice_events s v.point w.point) C.vertices j w A.0 b A.1)),
        A.2,
      )

  -- ---- one step
  module _ (y : SpacePoint) (first : (p : SpacePoint) → before s C p < before s C y → Good p) (second : (p : SpacePoint) → before s C p ≤ before s C y → ahead-of s p < ahead-of s y → Good p) where
    -- what lies below y
    below : (h : Form) (hn : IsDirection (normal_of h)) (level : slope h up ≡ pos 0) (r : SpacePoint) → form_at h r ≡ pos 0 → SameDirection (toward y r) (opposite up) → FlatDim (sliced s h) r 0 → Claim s C S upright linked h hn level r
    below h hn level r on down f = second r (before-mono r y (down-before y r down)) fewer h hn level on f
      where
        Q : Form → Type 0
        Q g = sign_at g r ≡ nought → slope g up ≡ pos 0

        holds-up : ((g : Form) → Lies (carriers s) g → sign_at g r ≡ nought → slope g up ≡ pos 0) → ⊥
        holds-up all = not-flat s C S upright linked h hn level r up on level up-some f (Flat-from_cone s r up (FlatCone-from_carriers s r up all))

        by-carrier : (g : Form) → Lies (carriers s) g → (sign_at g r ≡ nought) ⊎ (sign_at g r ≡ nought → ⊥) → ((sign_at g r ≡ nought → slope g up ≡ pos 0) → ⊥) → ahead-of s r < ahead-of s y
        by-carrier g l (inl z) n = let o = nought-is (form_at g r) z in
            tally-strict (Ahead r) (Ahead y) (ahead-decided r) (ahead-decided y) (carriers s) (λ k i. still-ahead y r down k) g l (was-ahead y r down g o (λ e. n (λ i. e))) (not-ahead y r down g o)
        by-carrier g l (inr m) n = absurd (n (λ i. absurd (m i)))

        fewer : ahead-of s r < ahead-of s y
        fewer = ⊎_elim (λ x. by-carrier x.0 x.1 (is_nought (sign_at x.0 r)) x.2) (λ all. absurd (holds-up all))
            (every (carriers s) (λ g. sign_at g r ≡ nought → slope g up ≡ pos 0) (λ g. decided-to (is_nought (sign_at g r)) (nought-or (slope g up))))

    -- what falls from an edge
    module _ (k : ℕ) (e : Edge) (v w : Vertex) (a : IsAt C.edges k e) (H : HasEnds C e v w) (b : IsBetween v.point y w.point) (aside : IsDirection (cross (edge-ways s C S k e v w a H).low.dir up)) where
      abbrev hA : Form
      hA = plane_of v.point w.point

      on-v : form_at hA v.point ≡ pos 0
      on-v = through-at (cross up (toward v.point w.point)) v.point v.point ∙ dot-zero (cross up (toward v.point w.point)) (toward v.point v.point) (point-toward v.point v.point (same-itself v.point))

      v-before : IsPointBelow v.point y
      v-before = normal-below v.point y (normal-kept (toward v.point w.point) (toward v.point y) (SameDirection-turned (toward v.point y) (toward v.point w.point) (between-way v.point y w.point b))
          (toward-normal v.point w.point (S.ordered e.low e.high v w (let E = S.edges.edges k e a in E.upward) H.low H.high)))

      fewer-v : before s C v.point < before s C y
      fewer-v = let A = vertex-event v.point (S.vertices e.low v H.low) in before-strict v.point y A.0 v-before A.1 A.2

      abbrev Allowed : Form → Type 0
      Allowed f = (f ≡ plane_of v.point w.point) ⊎ (f ≡ opposite_form (plane_of v.point w.point))

      slice-there : (f : Form) → Allowed f → (r : SpacePoint) → form_at f r ≡ pos 0 → FlatDim (sliced s f) r 0 → FlatDim (sliced s (plane_of v.point w.point)) r 0
      slice-there f (inl o) r on d = subst (λ (g : Form). FlatDim (sliced s g) r 0) o d
      slice-there f (inr o) r on d = minus-slice s hA r (minus-off hA r (subst (λ (g : Form). form_at g r ≡ pos 0) o on)) 0 (subst (λ (g : Form). FlatDim (sliced s g) r 0) o d)

      good-below : (f : Form) → Allowed f → (hn : IsDirection (normal_of f)) (level : slope f up ≡ pos 0) (r : SpacePoint) → form_at f r ≡ pos 0 → FlatDim (sliced s f) r 0 → IsPointBelow r y → Claim s C S upright linked f hn level r
      good-below f al hn level r on d l =
          let A = slice-event e.low e.high v w H.low H.high r (slice-there f al r on d) in
          first r (before-strict r y A.0 l A.1 A.2) f hn level on d

      names : (p q : SpacePoint) (z z' : VertexSide) → form_at hA p ≡ pos 0 → form_at hA q ≡ pos 0 → InFrame p → IsEven s 3 p q → IsBetween v.point p q → SameDirection (toward y q) (opposite up) → RayDown C p z → RayDown C q z' → Chained (VolumeLink C) z z'
      names p q z z' on-p on-q inside even c down R T =
          segment-in s C S upright linked Allowed (λ r. IsPointBelow r y) good-below hA (inl refl) (inr refl) (hn s C S upright linked k e v w a H aside) (level s C S upright linked k e v w a H aside) p q z z' on-p on-q inside even overs R T
        where
          q-before : IsPointBelow q y
          q-before = down-before y q down

          inner : (u : SpacePoint) → IsBetween v.point u q → IsPointBelow u y
          inner u m = before-between y v.point u q v-before q-before m

          on-segment : (u : SpacePoint) → SamePoint u p ⊎ IsBetween p u q ⊎ SamePoint u q → IsPointBelow u y
          on-segment u (inl o) = inner u (between-same v.point p q v.point u q (same-itself v.point) (same-point_sym u p o) (same-itself q) c)
          on-segment u (inr (inl m)) = inner u (between-outer v.point p u q c m)
          on-segment u (inr (inr o)) = same-point_below u q y o q-before

          overs : (u : SpacePoint) → SamePoint u p ⊎ IsBetween p u q ⊎ SamePoint u q → (r : SpacePoint) → SameDirection (toward u r) (opposite up) → IsPointBelow r y
          overs u o r d = point_below-trans r u y (down-before u r d) (on-segment u o)

    falls : (x x2 : VertexSide) → Beside-point s C S upright linked y (opposite up) x → (R : RayDown C y x2) → ((r : SpacePoint) → IsBetween y r R.place → FlatDim s r 3 × InFrame r) → Chained (VolumeLink C) x x2
    falls x x2 (inl A) R free = vertex-falls s C S upright linked y x x2 A R free
    falls x x2 (inr (k, e, v, w, a, H, b, T)) R free = edge-falls s C S upright linked k e v w a H aside y b x x2 T R free
        (λ f. first v.point (fewer-v k e v w a H b aside) (plane_of v.point w.point) (hn s C S upright linked k e v w a H aside) (level s C S upright linked k e v w a H aside) (on-v k e v w a H b aside) f)
        (names k e v w a H b aside)
      where
        some : IsDirection (toward y R.place)
        some = direction-left (toward y R.place) (opposite up) R.ahead

        half : IsBetween y (near_point s y R.place) R.place
        half = near-between s y R.place some

        to-half : SameDirection (toward y (near_point s y R.place)) (opposite up)
        to-half = SameDirection-trans (toward y (near_point s y R.place)) (toward y R.place) (opposite up) (between-way y (near_point s y R.place) R.place half) R.ahead

        even : IsEvenAfter s 3 y (near_point s y R.place)
        even r (inl m) = (free r (between-inner y (near_point s y R.place) R.place r half m)).0
        even r (inr o) = dim-same s (near_point s y R.place) r 3 (same-point_sym r (near_point s y R.place) o) (free (near_point s y R.place) half).0

        free-down : FlatDim s (ahead s y (opposite up)) 3
        free-down = tied-dim s (near_point s y R.place) (ahead s y (opposite up)) 3 (tied-ray s 3 y (near_point s y R.place) (opposite up) to-half even) (free (near_point s y R.place) half).0

        aside : IsDirection (cross (edge-ways s C S k e v w a H).low.dir up)
        aside z = edge-not_up s C S k e v w a H y b (opposite up) (along-down (edge-ways s C S k e v w a H).low.dir z) free-down

    -- ---- where down isn't free an edge runs down
    module _ (h : Form) (hn : IsDirection (normal_of h)) (level : slope h up ≡ pos 0) (on : form_at h y ≡ pos 0) (corner : FlatDim (sliced s h) y 0) where
      abbrev Aside : Type 0
      Aside = (b : SpacePoint) (x z : VertexSide) → form_at h b ≡ pos 0 → pos 0 <ℤ lam (normal_of h) y b → Clear (sliced s h) h hn level y b → ((r : SpacePoint) → IsBetween y r b → FlatDim s r 3) → FlatDim s b 3 → InFrame b
          → Beside-point s C S upright linked y (toward y b) x → RayDown C b z → Wedge s 3 y (toward y b) (opposite up) → Wedge (sliced s h) 2 y (toward y b) (opposite up) → Chained (VolumeLink C) x z

      claims-below : (p : SpacePoint) → form_at h p ≡ pos 0 → IsPointBelow p y → IsVertex s p → FlatDim (sliced s h) p 0 → Claim s C S upright linked h hn level p
      claims-below p on-p l vertex f = let A = vertex-event p vertex in first p (before-strict p y A.0 l A.1 A.2) h hn level on-p f

      -- at a vertex of the set
      down-vertex : (i : ℕ) (v : Vertex) (a : IsAt C.vertices i v) (e : SamePoint v.point y) → FlatDim s (ahead s y (opposite up)) 3 ⊎ Aside
      down-vertex i v a e = ⊎_elim
          (λ F. inl (dim-cell s (ahead s v.point (opposite up)) (ahead s y (opposite up)) 3 (ahead-cells s v.point y (opposite up) (signs-same (carriers s) v.point y e)) (free-dim v.map s v.point (S.cones i v a) (opposite up) F)))
          (λ q. inr (λ b x z on-b side clear first-free three inside B R w3 w2. by q.0 q.1 q.2 q.3 b x z on-b side clear first-free three inside B R w3 w2))
          (vertex-down s C S upright linked i v a)
        where
          by : (k : ℕ) (u : MapVertex) → IsAt v.map.svertices k u → SameDirection u.dir (opposite up) → Aside
          by k u hu runs b x z on-b side clear first-free three inside (inl (i', v', a', e', T)) R w3 w2 =
              let p = one-vertex s C S i i' v v' a a' (same-point_trans v.point y v'.point e (same-point_sym v'.point y e')) in
              let a1 = subst (λ (q : ℕ). IsAt C.vertices q v') (sym p) a' in
              let one = is-at_one C.vertices i v v' a a1 in
              let hu' = subst (λ (q : Vertex). IsAt q.map.svertices k u) one hu in
              down-edge s C S upright linked h hn level y on i' v' a' e' k u hu' runs claims-below b x z on-b side clear first-free three inside T R w3 w2
          by k u hu runs b x z on-b side clear first-free three inside (inr (k', e', v', w', a', H, m, T)) R w3 w2 =
              let o = (edge-points s C k' e' v' w' y S a' H m).0 in
              let g = FlatDim-one s y 1 0 o (dim-same s v.point y 0 e (S.vertices i v a)) in
              absurd (omega arith)

      down-or : (f : Vector) (x : VertexSide) → Beside-point s C S upright linked y f x → FlatDim s (ahead s y (opposite up)) 3 ⊎ Aside
      down-or f x (inl (i, v, a, e, T)) = down-vertex i v a e
      down-or f x (inr (k, e, v, w, a, H, b, T)) = inl (
          let W = edge-ways s C S k e v w a H in
          let K = amount (forms v.map) (opposite up) + steep (carriers s) (opposite up) in
          let F = edge-frame s C S k e v w y a H b in
          tied-dim s (ahead s v.point (blend K W.low.dir 1 (opposite up))) (ahead s y (opposite up)) 3 (tied-turned s (ahead s y (opposite up)) (ahead s v.point (blend K W.low.dir 1 (opposite up))) (F.tied (opposite up) K (omega arith)))
          (free-dim v.map s v.point (S.cones e.low v H.low) (blend K W.low.dir 1 (opposite up)) (svertex-down s C S upright linked e.low v H.low e.low_svertex W.low W.is_low aside K (omega arith)))
          )
        where
          aside : IsDirection (cross (edge-ways s C S k e v w a H).low.dir up)
          aside z = not-flat s C S upright linked h hn level y up on level up-some corner (span-1 s y (edge-ways s C S k e v w a H).low.dir up (edge-some s C S k e v w a H) (edge-flat s C S k e v w a H y b) z)

    pub good-step : Good y
    good-step h hn level on f b x z on-b side clear first-free three inside B R =
        claim-at s C S upright linked h hn level y on f (down-or h hn level on f (toward y b) x B) (below h hn level) falls b x z on-b side clear first-free three inside B R

  -- ---- the induction
  inner : (M : ℕ) → ((p : SpacePoint) → before s C p < M → Good p) → (K : ℕ) (y : SpacePoint) → before s C y ≤ M → ahead-of s y < K → Good y
  inner M ih zero y l m = absurd (omega arith)
  inner M ih (suc K) y l m = good-step y (λ p i. ih p (omega arith)) (λ p i j. inner M ih K p (omega arith) (omega arith))

  outer : (M : ℕ) (y : SpacePoint) → before s C y < M → Good y
  outer zero y l = absurd (omega arith)
  outer (suc M) y l = inner M (outer M) (suc (ahead-of s y)) y (omega arith) (omega arith)

  pub all-good : (y : SpacePoint) → Good y
  all-good y = outer (suc (before s C y)) y (omega arith)
