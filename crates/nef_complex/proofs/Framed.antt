-- What stands on the skeleton lies in the closed frame.
use Rattle.nef_complex.proofs.Prelude.{ℕ, ◌*◌, ◌<◌, ◌≤◌, nat_abs, arith, inl, inr, ⊎_elim, cases_lt, half_side, FlatDim, SpacePoint, Form, InClosedFrame, Set, FlatDim-one, IsSkeletonIn, Shows, IsVertexPoint, IsEdgePoint, meets_vertex, meets_edge, edge-points, Complex, complex_of, ShowsSet}
use Rattle.law_geometry.proofs.near.Frames.{flat_dim-outside}
use Rattle.law_geometry.specs.complex.Complexes.{Complex as PlainComplex}
use Rattle.law_geometry.proofs.near.Same.{dim-same}

-- outside the closed frame all directions are flat
dim-outside : (s : Set) (y : SpacePoint) (n : ℕ) → n < 3 → (InClosedFrame y → ⊥) → FlatDim s y n → ⊥
dim-outside s y n l o f = let e = FlatDim-one s y n 3 f (flat_dim-outside s y o) in omega (arith, l)

pub dim-framed : (s : Set) (y : SpacePoint) (n : ℕ) → n < 3 → FlatDim s y n → InClosedFrame y
dim-framed s y n m f = record {
  along_x = within (nat_abs y.x) (λ l. dim-outside s y n m (λ i. let k = i.along_x in omega arith) f);
  along_y = within (nat_abs y.y) (λ l. dim-outside s y n m (λ i. let k = i.along_y in omega arith) f);
  along_z = within (nat_abs y.z) (λ l. dim-outside s y n m (λ i. let k = i.along_z in omega arith) f);
}
  where
    within : (n : ℕ) → (half_side * y.w < n → ⊥) → n ≤ half_side * y.w
    within n never = ⊎_elim (λ l. absurd (never l)) (λ l. l) (cases_lt (half_side * y.w) n)

module _ (s : Set) (C : PlainComplex) (S : Shows s C) (k : ℕ) (y : SpacePoint) where
  pub vertex-framed : IsVertexPoint C k y → InClosedFrame y
  vertex-framed (v, a, e) = dim-framed s y 0 (omega arith) (dim-same s v.point y 0 e (S.vertices k v a))

  pub edge-framed : IsEdgePoint C k y → InClosedFrame y
  edge-framed (e, v, w, a, H, b) = dim-framed s y 1 (omega arith) (edge-points s C k e v w y S a H b).0

pub skeleton-framed : (s : Set) (c : Complex) → ShowsSet s c → (h : Form) (y : SpacePoint) → IsSkeletonIn s (complex_of c) h y → InClosedFrame y
skeleton-framed s c S h y (inl (meets_vertex k, x)) = vertex-framed s (complex_of c) S.shows k y x
skeleton-framed s c S h y (inl (meets_edge k, x)) = edge-framed s (complex_of c) S.shows k y x.0
skeleton-framed s c S h y (inr f) = dim-framed s y 2 (omega arith) f.0
