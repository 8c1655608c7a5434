-- The turned complex shows the turned set.
use Rattle.law_geometry.proofs.turns.Prelude.{ℕ, List, SamePoint, Set, IsVertex, carriers, same-point_sym, IsAt, Vertex, Complex, Shows, same-point_trans, turned_point, turned_set, AreTurnedVertices, IsTurnedComplex, ShowsVertices}
use Rattle.law_geometry.proofs.turns.Points.{every-point, same_point-turned}
use Rattle.law_geometry.proofs.turns.Meaning.{flat_dim-turned}
use Rattle.law_geometry.proofs.turns.TurnedMaps.{cone-turned, least-turned}
use Rattle.law_geometry.proofs.turns.Carriers.{carriers-turned}
use Rattle.law_geometry.proofs.near.Same.{IsVertex-same}
use Rattle.law_geometry.proofs.sphere.Dimensions.{cone-same}

module _ (k : ℕ) (s : Set) where
  pub vertices-turned : (us vs : List Vertex) → ShowsVertices s us → AreTurnedVertices k us vs → ShowsVertices (turned_set k s) vs
  vertices-turned us vs S T = record {
    vertices = λ j v a.
        let (i, u, b, e, m) = T.each j v a in
        IsVertex-same (turned_set k s) (turned_point k u.point) v.point (same-point_sym v.point (turned_point k u.point) e) ((flat_dim-turned k s u.point 0).1 (S.vertices i u b));
    complete = every-point k (λ q. IsVertex (turned_set k s) q → (j : ℕ) × (v : Vertex) × IsAt vs j v × SamePoint v.point q)
        (λ p h.
        let (i, u, b, e) = S.complete p ((flat_dim-turned k s p 0).0 h) in
        let (j, v, a, d) = T.all i u b in
        (j, v, a, same-point_trans v.point (turned_point k u.point) (turned_point k p) d ((same_point-turned k u.point p).1 e)));
    cones = λ j v a.
        let (i, u, b, e, m) = T.each j v a in
        cone-same v.map (turned_set k s) (turned_point k u.point) v.point (same-point_sym v.point (turned_point k u.point) e) (cone-turned k u.map v.map m s u.point (S.cones i u b));
    least = λ j v a.
        let (i, u, b, e, m) = T.each j v a in
        least-turned k u.map v.map m (S.cones i u b).valid.shaped (S.least i u b);
  }

  pub shows-turned : (C D : Complex) → Shows s C → IsTurnedComplex k C D → Shows (turned_set k s) D
  shows-turned C D S T =
      let V = vertices-turned C.vertices D.vertices (record { vertices = S.vertices; complete = S.complete; cones = S.cones; least = S.least }) T.vertices in
      record {
        vertices = V.vertices;
        complete = V.complete;
        ordered = T.vertices.ordered;
        cones = V.cones;
        least = V.least;
        maps_ordered = T.vertices.maps_ordered;
        edges = T.edges;
        carriers = carriers-turned k s C.carriers D.carriers S.carriers T.planes;
      }
