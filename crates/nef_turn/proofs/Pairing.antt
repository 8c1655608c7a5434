-- The turned planes and vertices of a program's complex are those of the turned set, which are ready to be paired.
use Rattle.nef_turn.proofs.Prelude.{ℕ, false, sym, subst, List, map, normal_limit, svertex_limit, Set, Vector, IsAtMost, form_of, Plane, MapVertex, Map, Shaped, Ordered, is-at_map, map-is_at, map_of, IsSmall, IsLeastMap, SphereMap, vertex_of, complex_of, ShowsSet, AreVerticesOf, Vertex, Complex, turned_set, IsTurnedMap, AreTurnedPlanes, AreTurnedVertices, at_most-turned}
use Rattle.law_geometry.specs.complex.Complexes.{Vertex as PlainVertex}
use Rattle.law_geometry.proofs.turns.TurnedMaps.{svertex-from, item-from, item-normal, valid-turned, least-turned}
use Rattle.law_geometry.proofs.turns.Complexes.{shows-turned}

module _ (k : ℕ) where
  pub small-turned : (M N : Map) → Shaped M → IsTurnedMap k M N → IsSmall M → IsSmall N
  small-turned M N V R S = record {
    svertices = λ j u a.
        let (v, b, e, i) = svertex-from k M N V R j u a in
        subst (λ (r : MapVertex). IsAtMost svertex_limit r.dir) (sym e) (at_most-turned k false svertex_limit v.dir (S.svertices (R.vertex_back j) v b));
    normals = λ j y a.
        let (x, b, t, i) = item-from k M N V R j y a in
        subst (λ (r : Vector). IsAtMost normal_limit r) (sym (item-normal k M N V R (R.flip (R.item_back j)) x y t)) (at_most-turned k (R.flip (R.item_back j)) normal_limit _ (S.normals (R.item_back j) x b));
  }

  pub least_map-turned : (m n : SphereMap) → IsLeastMap m → IsTurnedMap k (map_of m) (map_of n) → Ordered (map_of n) → IsLeastMap n
  least_map-turned m n L R O = record {
    sphere_map = record {
      valid = valid-turned k (map_of m) (map_of n) R L.sphere_map.valid;
      ordered = O;
      small = small-turned (map_of m) (map_of n) L.sphere_map.valid.shaped R L.sphere_map.small;
    };
    least = least-turned k (map_of m) (map_of n) R L.sphere_map.valid.shaped L.least;
  }

  pub paired-turned : (s : Set) (c : Complex) (hs : List Plane) (vs : List Vertex) → ShowsSet s c → AreTurnedPlanes k (map form_of c.carriers) (map form_of hs) → AreTurnedVertices k (map vertex_of c.vertices) (map vertex_of vs)
      → AreVerticesOf (turned_set k s) hs vs
  paired-turned s c hs vs S P T = record {
    sorted = λ i j u v l a b. T.ordered i j (vertex_of u) (vertex_of v) l (map-is_at vertex_of vs i u a) (map-is_at vertex_of vs j v b);
    maps = λ j v a.
        let b = map-is_at vertex_of vs j v a in
        let (i, u, l, e, R) = T.each j (vertex_of v) b in
        let (w, m, same) = is-at_map vertex_of c.vertices i u l in
        least_map-turned w.map v.map (S.maps i w m) (subst (λ (r : PlainVertex). IsTurnedMap k r.map (map_of v.map)) (sym same) R) (T.maps_ordered j (vertex_of v) b);
    shown = λ es E. shows-turned k s (complex_of c) (record { carriers = map form_of hs; vertices = map vertex_of vs; edges = es }) S.shows (record { planes = P; vertices = T; edges = E });
  }
