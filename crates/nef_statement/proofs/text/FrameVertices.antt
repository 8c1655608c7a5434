-- The vertices of a set that holds all of the frame or nothing of it, written out.
use Rattle.nef_statement.proofs.text.Prelude.{◌≡◌, ℕ, ◌+◌, refl, sym, ◌∙◌, ap, cond, List, map, subst, Some, slice_get, IsVertex, SpacePoint, SamePoint, IsPointBelow, Set, Label, point_below-trans, point_below-apart, same_points_equal, point_of, Point, InOrder, Least, Ordered, Cone, IsAt, Map, same-lists, cone-unique, Vertex as PlainVertex, turned_point, turned_set, cone-turned, least-turned, map-is_at, is-at_map, vertex_of, FrameCorner, all_ends, IsFrameCornerAt, IsOneLabelSet, corner-vertex, vertex-corner, corner_point, corner-is, corner-same, same-corner, corner-below, ends-order}
use Rattle.nef_complex.specs.declared.complex.Vertex.{Vertex}
use Rattle.nef_statement.proofs.text.Corners.{each-corner, each-listed}
use Rattle.nef_statement.proofs.text.Octants.{octant, octant-ordered, octant_turned, lowest, turn_to}
use Rattle.nef_statement.proofs.text.LowestCorner.{lowest-shaped, lowest-cone, lowest-least}

abbrev pub corner_vertex : Label → FrameCorner → PlainVertex
corner_vertex l k = record { point = point_of (corner_point k); map = octant l k }

abbrev pub number : FrameCorner → ℕ
number k = cond k.x 4 0 + cond k.y 2 0 + cond k.z 1 0

abbrev pub frame_vertices : Label → List PlainVertex
frame_vertices l = map (corner_vertex l) all_ends

pub ends-at : (k : FrameCorner) → IsAt all_ends (number k) k
ends-at k = (each-corner (λ j. slice_get all_ends (number j)) (λ j. Some j) refl k)

pub frame-vertex : (l : Label) (k : FrameCorner) → IsAt (frame_vertices l) (number k) (corner_vertex l k)
frame-vertex l k = map-is_at (corner_vertex l) all_ends (number k) k (ends-at k)

pub each-vertex : (l : Label) (P : ℕ → PlainVertex → Type 0) → ((k : FrameCorner) → P (number k) (corner_vertex l k)) → (n : ℕ) (v : PlainVertex) → IsAt (frame_vertices l) n v → P n v
each-vertex l = each-listed (corner_vertex l) number all_ends refl

-- the vertices are those of the set, in order, with least maps
pub record AreOf (s : Set) (vs : List PlainVertex) : Type 0 where
  pub vertices : (n : ℕ) (v : PlainVertex) → IsAt vs n v → IsVertex s v.point
  pub complete : (p : SpacePoint) → IsVertex s p → (n : ℕ) × (v : PlainVertex) × IsAt vs n v × SamePoint v.point p
  pub ordered : InOrder (λ (u v : PlainVertex). IsPointBelow u.point v.point) vs
  pub cones : (n : ℕ) (v : PlainVertex) → IsAt vs n v → Cone v.map s v.point
  pub least : (n : ℕ) (v : PlainVertex) → IsAt vs n v → Least v.map
  pub maps_ordered : (n : ℕ) (v : PlainVertex) → IsAt vs n v → Ordered v.map

abbrev Below : PlainVertex → PlainVertex → Type 0
Below u v = IsPointBelow u.point v.point

never-both : (u v : PlainVertex) → Below u v → Below v u → ⊥
never-both u v h k = point_below-apart u.point u.point (point_below-trans u.point v.point u.point h k) (record { along_x = refl; along_y = refl; along_z = refl })

frame-ordered : (l : Label) → InOrder Below (frame_vertices l)
frame-ordered l i n u v h a b =
    let k = is-at_map (corner_vertex l) all_ends i u a in
    let j = is-at_map (corner_vertex l) all_ends n v b in
    subst (λ (w : PlainVertex). Below u w) j.2 (subst (λ (w : PlainVertex). Below w (corner_vertex l j.0)) k.2
    (corner-below k.0 j.0 (point_of (corner_point k.0)) (point_of (corner_point j.0)) (ends-order i n k.0 j.0 h k.1 j.1) (corner-is k.0) (corner-is j.0)))

-- the set is its image under each turn
module _ (s : Set) (l : Label) (W : IsOneLabelSet s l) (turned : (n : ℕ) → turned_set n s ≡ s) where
  corner-cone : (k : FrameCorner) → Cone (octant l k) s (point_of (corner_point k))
  corner-cone k = subst (λ (p : SpacePoint). Cone (octant l k) s p) (each-corner (λ j. turned_point (turn_to j) (point_of (corner_point lowest))) (λ j. point_of (corner_point j)) refl k)
      (subst (λ (t : Set). Cone (octant l k) t (turned_point (turn_to k) (point_of (corner_point lowest)))) (turned (turn_to k))
      (cone-turned (turn_to k) (octant l lowest) (octant l k) (octant_turned l k) s (point_of (corner_point lowest)) (lowest-cone s l W (point_of (corner_point lowest)) (corner-is lowest))))

  corner-least : (k : FrameCorner) → Least (octant l k)
  corner-least k = least-turned (turn_to k) (octant l lowest) (octant l k) (octant_turned l k) (lowest-shaped l) (lowest-least s l W (point_of (corner_point lowest)) (corner-is lowest))

  module _ (vs : List Vertex) (A : AreOf s (map vertex_of vs)) where
    -- a vertex at a corner is the one written out
    at-corner : (n : ℕ) (v : Vertex) (k : FrameCorner) → IsAt (map vertex_of vs) n (vertex_of v) → IsFrameCornerAt k (point_of v.point) → vertex_of v ≡ corner_vertex l k
    at-corner n v k h c =
        let e = same_points_equal v.point (corner_point k) (same-corner k (point_of v.point) (point_of (corner_point k)) c (corner-is k)) in
        let C = subst (λ (p : Point). Cone (octant l k) s (point_of p)) (sym e) (corner-cone k) in
        let f = cone-unique (vertex_of v).map (octant l k) s (point_of v.point) (A.cones n (vertex_of v) h) C (A.maps_ordered n (vertex_of v) h) (octant-ordered l k) (A.least n (vertex_of v) h) (corner-least k) in
        ap (λ (p : Point). record { point = point_of p; map = (vertex_of v).map }) e ∙ ap (λ (m : Map). record { point = point_of (corner_point k); map = m }) f

    pub vertices-listed : map vertex_of vs ≡ frame_vertices l
    vertices-listed = same-lists Below never-both (map vertex_of vs) (frame_vertices l) A.ordered (frame-ordered l)
        (λ n v h.
        let u = is-at_map vertex_of vs n v h in
        let i = map-is_at vertex_of vs n u.0 u.1 in
        let k = vertex-corner s l W (point_of u.0.point) (A.vertices n (vertex_of u.0) i) in
        (number k.0, subst (λ (w : PlainVertex). IsAt (frame_vertices l) (number k.0) w) (sym (at-corner n u.0 k.0 i k.1) ∙ u.2) (frame-vertex l k.0)))
        (each-vertex l (λ n (v : PlainVertex). (m : ℕ) × IsAt (map vertex_of vs) m v) (λ k.
        let f = A.complete (point_of (corner_point k)) (corner-vertex s k (point_of (corner_point k)) (corner-is k)) in
        let u = is-at_map vertex_of vs f.0 f.1 f.2 in
        let i = map-is_at vertex_of vs f.0 u.0 u.1 in
        let same = subst (λ (w : PlainVertex). SamePoint w.point (point_of (corner_point k))) (sym u.2) f.3 in
        (f.0, subst (λ (w : PlainVertex). IsAt (map vertex_of vs) f.0 w) (at-corner f.0 u.0 k i (corner-same k (point_of u.0.point) same)) i)))
