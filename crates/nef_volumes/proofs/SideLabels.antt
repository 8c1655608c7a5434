-- The sides of a volume have one label.
use Rattle.nef_volumes.proofs.Prelude.{◌≡◌, ℕ, refl, subst, Chained, IsAt, HasLabel, SpacePoint, Set, zero_vector, Label, ahead, near-ahead, label-one, Germ-zero, near-germ_zero, joined-germs, labels-by_germs, item_normal, seen, IsSmall, IsLeastMap, is-at_map, label-germ, Vertex, Complex, Shows, VertexSide, HasSideLabel, vertex_of, complex_of, ShowsSet, VolumeLink, IsAtSide, IsUpright, side-sees, at-side, sides-joined}
use Rattle.nef_complex.specs.declared.complex.Complex.{Complex as ProgramComplex}
use Rattle.nef_complex.specs.declared.complex.Vertex.{Vertex as ProgramVertex}
use Rattle.nef_smap.proofs.Upward.{normal-ahead}

-- the maps of the program's complex are least, and within their limits
abbrev pub HasLeastMaps : ProgramComplex → Type 0
HasLeastMaps c = (k : ℕ) (v : ProgramVertex) → IsAt c.vertices k v → IsLeastMap v.map

-- the upward direction is above each item of the program's complexes
pub upright-by_maps : (s : Set) (c : ProgramComplex) → Shows s (complex_of c) → HasLeastMaps c → IsUpright (complex_of c)
upright-by_maps s c S maps k v x K =
    let M = S.cones k.vertex v K.vertex in
    normal-ahead (item_normal x) (M.valid.shaped.normals k.item x K.item) ((small k.vertex v K.vertex).normals k.item x K.item)
  where
    small : (i : ℕ) (v : Vertex) → IsAt (complex_of c).vertices i v → IsSmall v.map
    small i v a =
        let u = is-at_map vertex_of c.vertices i v a in
        subst (λ (w : Vertex). IsSmall w.map) u.2 (maps i u.0 u.1).sphere_map.small

pub upright : (s : Set) (c : ProgramComplex) → ShowsSet s c → IsUpright (complex_of c)
upright s c S = upright-by_maps s c S.shows S.maps

module _ (s : Set) (C : Complex) (S : Shows s C) where
  -- a point at the side, which has its label
  pub side-point : (x : VertexSide) (l : Label) → HasSideLabel C x l → (p : SpacePoint) × IsAtSide s C x p × HasLabel s p l
  side-point x l (v, a, h) =
      let K = S.cones x.vertex v a in
      let o = side-sees v.map K.valid.shaped x.side l h in
      let d = o.0 in
      let g = label-germ v.map s v.point K d l (seen (record { side = x.side; has = h; sees = o.1 })) in
      let p = ahead s v.point d in
      (p, at-side s C S x v l a h d o.1, (Germ-zero s p zero_vector l (refl, refl, refl)).0 ((near-ahead s v.point d zero_vector l).1 ((near-germ_zero s v.point d zero_vector l (refl, refl, refl)).1 g)))

  -- SIDES OF ONE VOLUME HAVE ONE LABEL
  pub chain-label : IsUpright C → (x y : VertexSide) (l m : Label) → Chained (VolumeLink C) x y → HasSideLabel C x l → HasSideLabel C y m → l ≡ m
  chain-label u x y l m c h i =
      let P = side-point x l h in
      let Q = side-point y m i in
      let j = sides-joined s C x y P.0 Q.0 S u c P.1 Q.1 in
      label-one s Q.0 l m ((labels-by_germs s P.0 Q.0 (joined-germs s P.0 Q.0 j) l).0 P.2) Q.2
