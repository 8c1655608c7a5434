-- What holds of vertices and of edges, said of either by its ends.
use Rattle.nef_plane.proofs.Prelude.{◌≡◌, ℕ, List, sym, refl, subst, IsAt, Form, Set, point_of, Plane, Shows, is-at_one, is-at_some, Vertex, Edge, Complex, PlaneMeet, AtVertex, AtEdge, complex_of, AreHolders, HoldsBoth, low-within, high-within, HasMeet, MeetLiesIn, AreEnds, HasEndsAt}
use Rattle.nef_plane.proofs.Listed.{held-vertex, held-edge}

module _ (c : Complex) where
  -- what holds of a vertex twice, and of the ends of an edge, holds of the ends of either
  pub by-numbers : (Q : PlaneMeet → ℕ → ℕ → Type 0) → ((k : ℕ) → Q (AtVertex k) k k) → ((k : ℕ) (e : Edge) → IsAt c.edges k e → Q (AtEdge k) e.low e.high) → (m : PlaneMeet) (i j : ℕ) → AreEnds c m i j → Q m i j
  by-numbers Q f g (AtVertex k) i j (e, o) = subst (λ (n : ℕ). Q (AtVertex k) n j) (sym e) (subst (λ (n : ℕ). Q (AtVertex k) k n) (sym o) (f k))
  by-numbers Q f g (AtEdge k) i j (r, l, e, o) = subst (λ (n : ℕ). Q (AtEdge k) n j) (sym e) (subst (λ (n : ℕ). Q (AtEdge k) r.low n) (sym o) (g k r l))

  pub by-ends : (Q : PlaneMeet → Vertex → Vertex → Type 0) → ((k : ℕ) (v : Vertex) → IsAt c.vertices k v → Q (AtVertex k) v v)
      → ((k : ℕ) (e : Edge) (u v : Vertex) → IsAt c.edges k e → IsAt c.vertices e.low u → IsAt c.vertices e.high v → Q (AtEdge k) u v) → (m : PlaneMeet) (u v : Vertex) → HasEndsAt c m u v → Q m u v
  by-ends Q f g m u v (i, j, E, a, b) = by-numbers (λ m i j. IsAt c.vertices i u → IsAt c.vertices j v → Q m u v)
      (λ k a b. subst (λ (w : Vertex). Q (AtVertex k) u w) (is-at_one c.vertices k u v a b) (f k u a)) (λ k e l a b. g k e u v l a b) m i j E a b

  -- where it lies in the plane, both ends lie on it
  pub ends-held : (h : Form) (m : PlaneMeet) (u v : Vertex) → HasEndsAt c m u v → MeetLiesIn c h m → HoldsBoth h (point_of u.point) (point_of v.point)
  ends-held h = by-ends (λ m u v. MeetLiesIn c h m → HoldsBoth h (point_of u.point) (point_of v.point))
      (λ k v l o. let e = held-vertex c.vertices h k v l o in (e, e)) (λ k e u v l i j. held-edge c.vertices c.edges h k e u v l i j)

  -- where both ends lie on the plane, it lies there
  pub ends-lie : (h : Form) (m : PlaneMeet) (u v : Vertex) → HasEndsAt c m u v → HoldsBoth h (point_of u.point) (point_of v.point) → MeetLiesIn c h m
  ends-lie h = by-ends (λ m u v. HoldsBoth h (point_of u.point) (point_of v.point) → MeetLiesIn c h m)
      (λ k v l o. (v, l, o.0)) (λ k e u v l i j o. (e, l, (u, i, o.0), (v, j, o.1)))

  -- there are ends, and the carriers listed are those that hold both
  module _ (s : Set) (S : Shows s (complex_of c)) where
    has-ends : (m : PlaneMeet) → HasMeet c m → (u : Vertex) × (v : Vertex) × HasEndsAt c m u v
    has-ends (AtVertex k) l = let v = is-at_some c.vertices k l in (v.0, v.0, (k, k, (refl, refl), v.1, v.1))
    has-ends (AtEdge k) l =
        let e = is-at_some c.edges k l in
        let a = e.1 in
        let u = is-at_some c.vertices e.0.low (low-within s c S k e.0 a) in
        let v = is-at_some c.vertices e.0.high (high-within s c S k e.0 a) in
        (u.0, v.0, (e.0.low, e.0.high, (e.0, e.1, refl, refl), u.1, v.1))

    pub has-holders : (m : PlaneMeet) → HasMeet c m → (gs : List Plane) (ns : List ℕ) → gs ≡ c.carriers → ((u v : Vertex) → HasEndsAt c m u v → AreHolders c.carriers (point_of u.point) (point_of v.point) ns)
        → (u : Vertex) × (v : Vertex) × HasEndsAt c m u v × AreHolders gs (point_of u.point) (point_of v.point) ns
    has-holders m l gs ns e H = let (u, v, E) = has-ends m l in (u, v, E, subst (λ (hs : List Plane). AreHolders hs (point_of u.point) (point_of v.point) ns) (sym e) (H u v E))
