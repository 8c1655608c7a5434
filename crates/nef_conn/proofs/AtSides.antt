-- A point with three flat directions is joined to a point close to a vertex: beside the first vertex, edge point or facet point that some way from it meets.
-- Off the vertex all germs are one, so toward it the map has no svertex and no item, and a side sees it.
use Rattle.nef_conn.proofs.Prelude.{◌≡◌, ℕ, zero, suc, ◌*◌, ℤ, pos, ◌+ℤ◌, ◌*ℤ◌, arith, refl, sym, inl, ◌∷◌, subst, [], ring, at, num, ◌⊕◌, ◌⊗◌, Germ, FlatDim, Joined, SpacePoint, SamePoint, toward, Set, Vector, zero_vector, blend, IsZero, IsDirection, Label, carriers, flat-germ, FlatDim-by_germs, FlatDim-one, label_of, ahead, near-ahead, joined-germs, flat_dim-of, sample, steep, signs-same, same-point_sym, near-germ_zero, NearPlain, IsAt, MapLabel, at_svertex, on_item, seen, SeenAs, on-direction, svertex-neither, Vertex, Complex, Shows, VertexSide, germ-label, near-label, edges-complete, facet-of, IsAtSide, ahead-cells, IsTied, tied-cell, tied-both, tied-ahead, tied-ray, facet-near, corner_of_numbers, edge-ways, tied-low, tied-turn, at-side, PointsReachSides, dir-self}
use Rattle.nef_conn.proofs.AtItems.{facet-even}
use Rattle.nef_conn.proofs.FirstMet.{all-flat, first-met}
use Rattle.law_geometry.proofs.near.Same.{dim-same}

-- no way leads from a point to itself
pub ahead-zero : (s : Set) (p : SpacePoint) (d : Vector) → IsZero d → SamePoint p (ahead s p d)
ahead-zero s p d z = record { along_x = one p.x d.x z.0; along_y = one p.y d.y z.1; along_z = one p.z d.z z.2 }
  where
    one : (x e : ℤ) → e ≡ pos 0 → x *ℤ pos (p.w * (sample s p d).b) ≡ (x *ℤ pos (sample s p d).b +ℤ pos 1 *ℤ pos p.w *ℤ e) *ℤ pos p.w
    one x e h = subst (λ (r : ℤ). x *ℤ pos (p.w * (sample s p d).b) ≡ (x *ℤ pos (sample s p d).b +ℤ pos 1 *ℤ pos p.w *ℤ r) *ℤ pos p.w) (sym h)
        (ring (pos p.w ∷ x ∷ pos (sample s p d).b ∷ []) (at 1 ⊗ (at 0 ⊗ at 2)) ((at 1 ⊗ at 2 ⊕ num (pos 1) ⊗ at 0 ⊗ num (pos 0)) ⊗ at 0) tt)

-- ---- points close to a vertex
-- p is tied to the point close to a vertex in some direction
record NearVertex (s : Set) (C : Complex) (p : SpacePoint) : Type 0 where
  number : ℕ
  vertex : Vertex
  listed : IsAt C.vertices number vertex
  dir : Vector
  tied : IsTied s p (ahead s vertex.point dir)

module _ (s : Set) (C : Complex) (S : Shows s C) where
  -- what lies off a point that is tied to one close to a vertex, lies close to the vertex
  module _ (y : SpacePoint) (f : Vector) (i : ℕ) (v : Vertex) (a : IsAt C.vertices i v) (u : Vector) (t : IsTied s y (ahead s v.point u)) where
    turned-near : NearVertex s C (ahead s y f)
    turned-near =
        let n = steep (carriers s) f in
        record {
          number = i;
          vertex = v;
          listed = a;
          dir = blend n u 1 f;
          tied = tied-both s (ahead s y f) (ahead s (ahead s v.point u) f) (ahead s v.point (blend n u 1 f)) (tied-ahead s y (ahead s v.point u) f t) (tied-turn s v.point u f n (omega arith));
        }

  off-met : (y : SpacePoint) → (FlatDim s y 3 → ⊥) → (f : Vector) → NearVertex s C (ahead s y f)
  off-met y not f = let k = flat_dim-of s y in by k.0 k.1
    where
      by : (k : ℕ) → FlatDim s y k → NearVertex s C (ahead s y f)
      by zero g =
          let (i, v, a, e) = S.complete y g in
          record {
            number = i;
            vertex = v;
            listed = a;
            dir = f;
            tied = tied-cell s (ahead s y f) (ahead s v.point f) (ahead-cells s y v.point f (signs-same (carriers s) y v.point (same-point_sym v.point y e)));
          }
      by (suc zero) g =
          let (k, p) = edges-complete s C S y g in
          let (e, v, w, a, H, b) = p in
          let W = edge-ways s C S k e v w a H in
          turned-near y f e.low v H.low W.low.dir (tied-low s C S k e v w a H y b)
      by (suc (suc zero)) g =
          let (k, v, x, c, F) = facet-of s C S y g in
          let u = toward v.point y in
          turned-near y f k.vertex v c.vertex u (tied-ray s 2 v.point y u (dir-self u (on-direction v.map x u F.on_item)) (facet-even s C S k v x y c F))
      by (suc (suc (suc zero))) g = absurd (not g)
      by (suc (suc (suc (suc k)))) g = absurd g.0

  near-vertex : (p : SpacePoint) → FlatDim s p 3 → NearVertex s C p
  near-vertex p f =
      let M = first-met s p f in
      let d = toward M.place p in
      let N = off-met M.place M.not_flat d in
      let t = tied-ray s 3 M.place p d (dir-self d M.apart) M.even in
      record {
        number = N.number;
        vertex = N.vertex;
        listed = N.listed;
        dir = N.dir;
        tied = tied-both s p (ahead s M.place d) (ahead s N.vertex.point N.dir) t N.tied;
      }

  -- ---- some side sees the direction
  -- off the vertex toward d all germs are l
  module _ (i : ℕ) (v : Vertex) (a : IsAt C.vertices i v) (d : Vector) (f : FlatDim s (ahead s v.point d) 3) (l : Label) (germs : (e : Vector) → Germ s (ahead s v.point d) e l) where
    -- the vertex itself isn't flat
    some : IsDirection d
    some z =
        let e = FlatDim-one s (ahead s v.point d) 0 3 (dim-same s v.point (ahead s v.point d) 0 (ahead-zero s v.point d z) (S.vertices i v a)) f in
        omega arith

    label-there : MapLabel v.map d l
    label-there = germ-label v.map s v.point (S.cones i v a) d l some ((near-germ_zero s v.point d zero_vector l (refl, refl, refl)).0 ((near-ahead s v.point d zero_vector l).0 (germs zero_vector)))

    plain : NearPlain v.map d
    plain = record {
      label = l;
      at_d = label-there;
      near = λ e h. near-label v.map s v.point (S.cones i v a) d e l some ((near-ahead s v.point d e l).0 (germs e));
    }

    seen-by : (m : Label) → MapLabel v.map d m → SeenAs v.map d m
    seen-by m (at_svertex k u b w e) = absurd (svertex-neither v.map (S.cones i v a).valid (S.least i v a) d k u b w (inl plain))
    seen-by m (on_item k x b o e) =
        let F = facet-near s C S (corner_of_numbers i k) v x (record { vertex = a; item = b }) d o in
        let z = FlatDim-one s (ahead s v.point d) 2 3 F.dim f in
        absurd (omega arith)
    seen-by m (seen h) = h

    pub side-toward : SeenAs v.map d l
    side-toward = seen-by l label-there

  -- so the point is at some side
  reaches : (p : SpacePoint) → FlatDim s p 3 → NearVertex s C p → (x : VertexSide) × (q : SpacePoint) × IsAtSide s C x q × Joined s p q
  reaches p f N =
      let v = N.vertex in
      let q = ahead s v.point N.dir in
      let g = FlatDim-by_germs s s p q (joined-germs s p q N.tied.0) 3 f in
      let l = label_of s q in
      let o = side-toward N.number v N.listed N.dir g l.0 (λ e. flat-germ s q e l.0 (all-flat s q g e) l.1) in
      let x : VertexSide = record { vertex = N.number; side = o.side } in
      (x, q, at-side s C S x v l.0 N.listed o.has N.dir o.sees, N.tied.0)

-- POINTS IN VOLUMES REACH SIDES
pub points-reach_sides : PointsReachSides
points-reach_sides s C p S f = reaches s C S p f (near-vertex s C S p f)
