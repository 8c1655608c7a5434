-- The kind of the least map of a set at a point is the dimension of the set's flat directions there.
use Rattle.law_geometry.proofs.sphere.Prelude.{pos, arith, sym, ◌∙◌, inl, inr, ⊎_elim, subst, ints, SpacePoint, Vector, IsDirection, cross, vector, IsZero, Set, Label, Germ, Flat, FlatDim, HasFlat, Germ-unique, label-one, germ_of, FlatCone-from_flat, Flat-from_cone, combination, Map, MapLabel, Least, Cone, Full, FlatMap, IsInVolume, IsInFacet, IsOnEdge, dot-comm, zero-decided, dot-zero, self-pos, cross-turned, apart, parallel-trans, level_cross_second}
use Rattle.nef_space.proofs.ArithmeticExamples.{in_plane}
use Rattle.law_geometry.proofs.near.Alike.{germs-by_cell}
use Rattle.law_geometry.proofs.near.Germs.{Label-cells}
use Rattle.law_geometry.proofs.near.Rays.{Germ-zero, signs-same}
use Rattle.law_geometry.specs.near.Cells.{carriers}
use Rattle.nef_space.specs.Points.{SamePoint}
use Rattle.law_geometry.proofs.sphere.Vectors.{normal-is}
use Rattle.law_geometry.proofs.sphere.Parallel.{circle-point}
use Rattle.law_geometry.proofs.sphere.Direct.{cross-self}
use Rattle.law_geometry.proofs.sphere.Labels.{label-direction, label-unique}
use Rattle.law_geometry.proofs.sphere.Arcs.{at-sloop}
use Rattle.law_geometry.proofs.sphere.KindFlats.{volume-flat, facet-flat, facet-only}
use Rattle.law_geometry.proofs.sphere.KindLaws.{KindOf, flat-kind, edge-flat, edge-only}
use Rattle.nef_space.proofs.Vectors.{self-not_nought}

module _ (M : Map) (s : Set) (p : SpacePoint) (C : Cone M s p) where
  -- the map's labels are the germs, toward nought too
  pub germ-full : (e : Vector) (m : Label) → Full M e m → Germ s p e m
  germ-full e m (inl z) = let g = germ_of s p e in subst (Germ s p e) (label-one s p g.0 M.mark ((Germ-zero s p e g.0 z.0).0 g.1) C.mark ∙ z.1) g.1
  germ-full e m (inr l) = let x = C.labels e (label-direction M e m l) in subst (Germ s p e) (label-unique M C.valid e x.0 m x.1 l) x.2

  pub full-germ : (e : Vector) (m : Label) → Germ s p e m → Full M e m
  full-germ e m g = ⊎_elim
      (λ z. inl (z, label-one s p M.mark m C.mark ((Germ-zero s p e m z).0 g)))
      (λ f. let x = C.labels e f in inr (subst (λ (r : Label). MapLabel M e r) (Germ-unique s p e x.0 m x.2 g) x.1))
      (zero-decided e)

  pub map-flat : (d : Vector) → Flat s p d → FlatMap M d
  map-flat d f e b a sb m =
      let c = FlatCone-from_flat s p d f e b a sb m in
      (λ x. full-germ (combination (pos b) e a d) m (c.0 (germ-full e m x)), λ x. full-germ e m (c.1 (germ-full (combination (pos b) e a d) m x)))

  pub flat-map : (d : Vector) → FlatMap M d → Flat s p d
  flat-map d F = Flat-from_cone s p d (λ e b a sb m. (λ x. germ-full (combination (pos b) e a d) m ((F e b a sb m).0 (full-germ e m x)), λ x. germ-full e m ((F e b a sb m).1 (full-germ (combination (pos b) e a d) m x))))

  pub volume-dimension : IsInVolume M → FlatDim s p 3
  volume-dimension K = (
    (
      vector (pos 1) (pos 0) (pos 0),
      vector (pos 0) (pos 1) (pos 0),
      vector (pos 0) (pos 0) (pos 1),
      (λ e. omega (arith, ints)),
      flat-map _ (volume-flat M C.valid K _),
      flat-map _ (volume-flat M C.valid K _),
      flat-map _ (volume-flat M C.valid K _),
    ),
    λ x. x,
  )

  pub facet-dimension : Least M → (n : Vector) → IsInFacet M n → FlatDim s p 2
  facet-dimension L n K = (two, none)
    where
      hn : IsDirection n
      hn = let V = C.valid in let i = at-sloop M.arcs M.sloop K.sloop K.has_sloop in subst IsDirection K.normal (normal-is V.shaped i.0 _ i.1)

      two : HasFlat s p 2
      two =
          let y = circle-point n hn in
          let o = y.1 in
          let off = apart n n y.0 (self-not_nought n hn) o.level o.direction in
          let r = apart y.0 y.0 (cross y.0 n) (self-not_nought y.0 o.direction) (dot-comm y.0 (cross y.0 n) ∙ cross-self y.0 n) (λ z. off (cross-turned y.0 n z)) in
          (y.0, cross y.0 n, r, flat-map y.0 (facet-flat M C.valid n K y.0 o.level), flat-map (cross y.0 n) (facet-flat M C.valid n K (cross y.0 n) (level_cross_second y.0 n)))

      none : HasFlat s p 3 → ⊥
      none (d, e, f, t, x, y, z) =
          let level = λ (g : Vector) (h : Flat s p g). facet-only M C.valid L n K g (map-flat g h) in
          t (in_plane n.x n.y n.z d.x d.y d.z e.x e.y e.z f.x f.y f.z (self-pos n hn) (level d x) (level e y) (level f z))

  pub edge-dimension : Least M → (d : Vector) → IsOnEdge M d → FlatDim s p 1
  edge-dimension L d K = ((d, hd, flat-map d (edge-flat M C.valid d K)), none)
    where
      hd : IsDirection d
      hd z = let o = K.opposite in let b = o.backward in let e = dot-zero K.first.dir K.second.dir (subst IsZero (sym K.named) z) in omega (arith, ints)

      none : HasFlat s p 2 → ⊥
      none (e, f, t, x, y) = t (parallel-trans e d f hd (cross-turned d e (edge-only M C.valid L d K e (map-flat e x))) (edge-only M C.valid L d K f (map-flat f y)))

  pub vertex-dimension : Least M → (KindOf M → ⊥) → FlatDim s p 0
  vertex-dimension L n = (tt, λ x. n (flat-kind M C.valid L x.0 x.1 (map-flat x.0 x.2)))

-- a point that is the same has the same cone
pub cone-same : (M : Map) (s : Set) (p q : SpacePoint) → SamePoint p q → Cone M s p → Cone M s q
cone-same M s p q e K =
    let same = signs-same (carriers s) p q e in
    record {
      valid = K.valid;
      mark = Label-cells s M.mark p q same K.mark;
      labels = λ d f. let l = K.labels d f in (l.0, l.1, (germs-by_cell s p q same d l.0).0 l.2);
    }
