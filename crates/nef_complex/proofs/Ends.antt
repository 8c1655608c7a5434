-- The ends of an edge, and the planes that hold both.
use Rattle.nef_complex.proofs.Prelude.{◌≡◌, ℕ, ◌<◌, length, pos, ap, ◌∙◌, subst, [], ◌∷◌, at, num, ◌⊖◌, ◌⊗◌, given, none, follows_times, SpacePoint, Form, form_at, slope, toward, SamePoint, IsBetween, Set, IsDirection, point_of, slope-toward, start, start-toward, IsAt, is-at_one, map-is_at, is-at_map, is-at_within, HasEnds, Shows, IsVertexPoint, IsEdgePoint, Vertex, Edge, Complex, vertex_of, edge_of, complex_of, HoldsBoth, direction-left}
use Rattle.law_geometry.specs.complex.Complexes.{Vertex as PlainVertex, Edge as PlainEdge}
use Rattle.nef_space.proofs.Elementary.{weight-positive}

-- a plane through a point between two others, which holds the direction from the one to the other, holds both
pub through-both : (h : Form) (p q : SpacePoint) → form_at h (start 1 p q) ≡ pos 0 → slope h (toward p q) ≡ pos 0 → HoldsBoth h p q
through-both h p q e f = (first, second)
  where
    first : form_at h p ≡ pos 0
    first = follows_times (form_at h p ∷ form_at h (start 1 p q) ∷ slope h (toward p (start 1 p q)) ∷ pos p.w ∷ pos (start 1 p q).w ∷ []) (at 4) (at 0) (num (pos 0))
        (given (num (pos 1)) (at 2) (at 3 ⊗ at 1 ⊖ at 4 ⊗ at 0) (slope-toward h p (start 1 p q))
        (given (at 3) (at 1) (num (pos 0)) e (given (num (pos 0) ⊖ num (pos 1)) (at 2) (num (pos 0)) (ap (slope h) (start-toward 1 p q) ∙ f) none))) (weight-positive (start 1 p q)) tt

    second : form_at h q ≡ pos 0
    second = follows_times (form_at h p ∷ form_at h q ∷ slope h (toward p q) ∷ pos p.w ∷ pos q.w ∷ []) (at 3) (at 1) (num (pos 0))
        (given (num (pos 0) ⊖ num (pos 1)) (at 2) (at 3 ⊗ at 1 ⊖ at 4 ⊗ at 0) (slope-toward h p q)
        (given (at 4) (at 0) (num (pos 0)) first (given (num (pos 1)) (at 2) (num (pos 0)) f none))) (weight-positive p) tt

-- ---- the ends of an edge exist
module _ (s : Set) (c : Complex) (S : Shows s (complex_of c)) (k : ℕ) (e : Edge) (a : IsAt c.edges k e) where
  pub low-within : e.low < length c.vertices
  low-within = let E = S.edges.edges k (edge_of e) (map-is_at edge_of c.edges k e a) in let v = is-at_map vertex_of c.vertices e.low E.low_vertex E.is_low in is-at_within c.vertices e.low v.0 v.1

  pub high-within : e.high < length c.vertices
  high-within = let E = S.edges.edges k (edge_of e) (map-is_at edge_of c.edges k e a) in let v = is-at_map vertex_of c.vertices e.high E.high_vertex E.is_high in is-at_within c.vertices e.high v.0 v.1

-- ---- the point of a vertex, and the ends of an edge
pub vertex-same : (c : Complex) (k : ℕ) (v : Vertex) → IsAt c.vertices k v → (y : SpacePoint) → IsVertexPoint (complex_of c) k y → SamePoint (point_of v.point) y
vertex-same c k v a y (x, l, o) = subst (λ (r : PlainVertex). SamePoint r.point y) (is-at_one (complex_of c).vertices k x (vertex_of v) l (map-is_at vertex_of c.vertices k v a)) o

module _ (s : Set) (c : Complex) (S : Shows s (complex_of c)) (k : ℕ) (e : Edge) (u v : Vertex) (l : IsAt c.edges k e) (i : IsAt c.vertices e.low u) (j : IsAt c.vertices e.high v) where
  abbrev low : SpacePoint
  low = point_of u.point

  abbrev high : SpacePoint
  high = point_of v.point

  pub listed_edge : IsAt (complex_of c).edges k (edge_of e)
  listed_edge = map-is_at edge_of c.edges k e l

  pub ends : HasEnds (complex_of c) (edge_of e) (vertex_of u) (vertex_of v)
  ends = record { low = map-is_at vertex_of c.vertices e.low u i; high = map-is_at vertex_of c.vertices e.high v j }

  pub apart : IsDirection (toward low high)
  apart =
      let E = S.edges.edges k (edge_of e) listed_edge in
      let f = is-at_one (complex_of c).vertices e.low E.low_vertex (vertex_of u) E.is_low ends.low in
      let g = is-at_one (complex_of c).vertices e.high E.high_vertex (vertex_of v) E.is_high ends.high in
      subst (λ (w : PlainVertex). IsDirection (toward low w.point)) g (subst (λ (w : PlainVertex). IsDirection (toward w.point E.high_vertex.point)) f
      (direction-left (toward E.low_vertex.point E.high_vertex.point) E.low_end.dir E.ahead))

  -- what holds of the ends of the edge with this number
  pub of-ends : (P : SpacePoint → SpacePoint → Type 0) (f : PlainEdge) (x z : PlainVertex) → IsAt (complex_of c).edges k f → HasEnds (complex_of c) f x z → P x.point z.point → P low high
  of-ends P f x z g H m =
      let eq = is-at_one (complex_of c).edges k f (edge_of e) g listed_edge in
      let first = is-at_one (complex_of c).vertices e.low x (vertex_of u) (subst (λ (r : PlainEdge). IsAt (complex_of c).vertices r.low x) eq H.low) ends.low in
      let second = is-at_one (complex_of c).vertices e.high z (vertex_of v) (subst (λ (r : PlainEdge). IsAt (complex_of c).vertices r.high z) eq H.high) ends.high in
      subst (λ (r : PlainVertex). P low r.point) second (subst (λ (r : PlainVertex). P r.point z.point) first m)

  pub edge-inside : (y : SpacePoint) → IsEdgePoint (complex_of c) k y → IsBetween low y high
  edge-inside y (f, x, z, g, H, m) = of-ends (λ r t. IsBetween r y t) f x z g H m
