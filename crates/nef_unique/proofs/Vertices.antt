-- Complexes that show one set have the same vertices and edges.
use Rattle.nef_unique.proofs.Prelude.{◌≡◌, ℕ, arith, refl, sym, List, map, inl, inr, subst, ints, SameSet, SpacePoint, SamePoint, IsPointBelow, Set, SameCone, cones-of_same, FlatDim-by_cone, point_below-trans, point_below-apart, point_of, Point, same_points_equal, Cone, InOrder, IsAt, Map, same-lists, cone-unique, map_of, map-is_at, is-at_map, Edge as PlainEdge, IsEdgeBelow, Edges, Shows, Vertex, vertex_of, edge_of, complex_of}
use Rattle.law_geometry.specs.complex.Complexes.{Vertex as PlainVertex}
use Rattle.nef_complex.specs.declared.complex.Complex.{Complex}
use Rattle.nef_unique.proofs.Injective.{map-one, map_of-one, vertex-equal, edge-one}

-- ---- edges
below-apart : (e f : PlainEdge) → IsEdgeBelow e f → IsEdgeBelow f e → ⊥
below-apart e f (inl h) (inl k) = omega (arith, ints)
below-apart e f (inl h) (inr k) = let q = k.0 in omega (arith, ints)
below-apart e f (inr h) (inl k) = let q = h.0 in omega (arith, ints)
below-apart e f (inr (p, inl h)) (inr (q, inl k)) = omega (arith, ints)
below-apart e f (inr (p, inl h)) (inr (q, inr k)) = absurd k.1
below-apart e f (inr (p, inr h)) k = absurd h.1

-- vertices have one list of edges
pub edges-one : (vs : List PlainVertex) (es fs : List PlainEdge) → Edges vs es → Edges vs fs → es ≡ fs
edges-one vs es fs E F = same-lists IsEdgeBelow below-apart es fs E.ordered F.ordered (λ k e a. F.complete e (E.edges k e a)) (λ k e a. E.complete e (F.edges k e a))

-- ---- vertices
pub cone-carried : (M : Map) (s t : Set) (p : SpacePoint) → SameCone s t p → Cone M s p → Cone M t p
cone-carried M s t p c C = record {
  valid = C.valid;
  mark = (c.label M.mark).0 C.mark;
  labels = λ d f. let x = C.labels d f in (x.0, x.1, (c.germs d x.0).0 x.2);
}

abbrev IsBelow : Vertex → Vertex → Type 0
IsBelow v u = IsPointBelow (point_of v.point) (point_of u.point)

never-both : (v u : Vertex) → IsBelow v u → IsBelow u v → ⊥
never-both v u h k = let p = point_of v.point in point_below-apart p p (point_below-trans p (point_of u.point) p h k) (record { along_x = refl; along_y = refl; along_z = refl })

in-order : (s : Set) (a : Complex) → Shows s (complex_of a) → InOrder IsBelow a.vertices
in-order s a S i k v u l x y = S.ordered i k (vertex_of v) (vertex_of u) l (map-is_at vertex_of a.vertices i v x) (map-is_at vertex_of a.vertices k u y)

module _ (s t : Set) (a b : Complex) (S : Shows s (complex_of a)) (T : Shows t (complex_of b)) (same : SameSet s t) where
  -- the other complex has the vertex at the same point, where both maps show the set
  vertex-carried : (k : ℕ) (v : Vertex) → IsAt a.vertices k v → (l : ℕ) × IsAt b.vertices l v
  vertex-carried k v h =
      let p = point_of v.point in
      let c = cones-of_same s t same p in
      let i = map-is_at vertex_of a.vertices k v h in
      let f = T.complete p ((FlatDim-by_cone s t p 0 c).0 (S.vertices k (vertex_of v) i)) in
      let u = is-at_map vertex_of b.vertices f.0 f.1 f.2 in
      let j = map-is_at vertex_of b.vertices f.0 u.0 u.1 in
      let e : v.point ≡ u.0.point = sym (same_points_equal u.0.point v.point (subst (λ (r : PlainVertex). SamePoint r.point p) (sym u.2) f.3)) in
      let C = cone-carried (map_of v.map) s t p c (S.cones k (vertex_of v) i) in
      let D = subst (λ (r : Point). Cone (map_of u.0.map) t (point_of r)) (sym e) (T.cones f.0 (vertex_of u.0) j) in
      let m = cone-unique (map_of v.map) (map_of u.0.map) t p C D (S.maps_ordered k (vertex_of v) i) (T.maps_ordered f.0 (vertex_of u.0) j)
      (S.least k (vertex_of v) i) (T.least f.0 (vertex_of u.0) j) in
      (f.0, subst (λ (r : Vertex). IsAt b.vertices f.0 r) (sym (vertex-equal v u.0 e (map_of-one v.map u.0.map m))) u.1)

module _ (s t : Set) (a b : Complex) (S : Shows s (complex_of a)) (T : Shows t (complex_of b)) (same : SameSet s t) where
  vertices-same : a.vertices ≡ b.vertices
  vertices-same =
      same-lists IsBelow never-both a.vertices b.vertices (in-order s a S) (in-order t b T) (vertex-carried s t a b S T same)
      (vertex-carried t s b a T S (λ p l. let x = same p l in (x.1, x.0)))

  edges-same : a.edges ≡ b.edges
  edges-same =
      let E = subst (λ (r : List Vertex). Edges (map vertex_of r) (map edge_of a.edges)) vertices-same S.edges in
      map-one edge_of edge-one a.edges b.edges (edges-one (map vertex_of b.vertices) (map edge_of a.edges) (map edge_of b.edges) E T.edges)

  pub set-vertices : (a.vertices ≡ b.vertices) × (a.edges ≡ b.edges)
  set-vertices = (vertices-same, edges-same)
