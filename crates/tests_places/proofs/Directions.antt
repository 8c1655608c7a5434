-- Directions of svertices, and where a ray may begin.
use Rattle.tests_places.proofs.Prelude.{◌≡◌, ◌+◌, length, arith, sym, subst, ⊎_elim, eq-or-lt_of_le, SpacePoint, SamePoint, SameDirection, point_of, vector_of, Dir, same_directions_equal, IsAt, MapVertex, svertex_of, is-at_map, is-at_within, IsEdgePoint, Vertex, Complex, complex_of, vertex_of, edge_of, HasNoSvertex, FromVertex, IsClearVertex}
use Rattle.std.proofs.Common.{ℕ, ◌<◌}
use Rattle.law_geometry.specs.complex.Complexes.{Vertex as PlainVertex}
use Rattle.nef_plane.proofs.Found.{both-same, from-vertex}

-- with none of the first k numbers, and not the next, none of the first k + 1
pub none-next : (P : ℕ → Type 0) (i : ℕ) → ((k : ℕ) → k < i → P k → ⊥) → (P i → ⊥) → (k : ℕ) → k < i + 1 → P k → ⊥
none-next P i f n k m = ⊎_elim (λ o. λ x. n (subst P o x)) (λ o. f k o) (eq-or-lt_of_le {n = k} {m = i} (omega (arith, m)))

pub clear-next : (c : Complex) (p : SpacePoint) (d : Dir) (i : ℕ) → ((k : ℕ) → k < i → IsClearVertex c p d k) → IsClearVertex c p d i → (k : ℕ) → k < i + 1 → IsClearVertex c p d k
clear-next c p d i f n k m = ⊎_elim (λ o. subst (IsClearVertex c p d) (sym o) n) (λ o. f k o) (eq-or-lt_of_le {n = k} {m = i} (omega (arith, m)))

pub edge-listed : (c : Complex) (k : ℕ) (y : SpacePoint) → IsEdgePoint (complex_of c) k y → k < length c.edges
edge-listed c k y (e, v, w, a, H, m) = let f = is-at_map edge_of c.edges k e a in is-at_within c.edges k f.0 f.1

pub no-svertex : (c : Complex) (p : SpacePoint) (d : Dir) → ((k : ℕ) → IsClearVertex c p d k) → HasNoSvertex (complex_of c) p (vector_of d)
no-svertex c p d N k j v u a o b w =
    let x = is-at_map vertex_of c.vertices k v a in
    by x.0 x.1 x.2
  where
    by : (y : Vertex) → IsAt c.vertices k y → vertex_of y ≡ v → ⊥
    by y l e =
        let r = is-at_map svertex_of y.map.svertices j u (subst (λ (t : PlainVertex). IsAt t.map.svertices j u) (sym e) b) in
        N k y l (v, a, o) j r.0 r.1 (same_directions_equal r.0.dir d (subst (λ (t : MapVertex). SameDirection t.dir (vector_of d)) (sym r.2) w))

pub all-clear : (c : Complex) (p : SpacePoint) (d : Dir) → ((k : ℕ) → k < length c.vertices → IsClearVertex c p d k) → HasNoSvertex (complex_of c) p (vector_of d)
all-clear c p d f = no-svertex c p d (λ k v a. f k (is-at_within c.vertices k v a) v a)

-- the same seen from an equal point
pub no-svertex_at : (c : Complex) (k : ℕ) (v : Vertex) → IsAt c.vertices k v → (p : SpacePoint) (d : Dir) → SamePoint p (point_of v.point) → HasNoSvertex (complex_of c) p (vector_of d)
    → FromVertex (complex_of c) k (λ q. HasNoSvertex (complex_of c) q (vector_of d))
no-svertex_at c k v a p d s N = from-vertex c k v a (λ q. HasNoSvertex (complex_of c) q (vector_of d)) (λ i j w u l o. N i j w u l (both-same w.point p (point_of v.point) o s))
