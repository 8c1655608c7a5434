-- What a set has of the frame close to a vertex, and to the points of an edge, of a facet and of a volume.
use Rattle.nef_ops.proofs.Prelude.{◌≡◌, ℕ, Some, arith, refl, slice_get, subst, Sign, minus, nought, plus, sign, HasLabel, Germ, FlatDim, SpacePoint, IsBetween, Set, Vector, zero_vector, blend, dot, Label, Not, In, flat-germ, span-3, label-one, Germ-unique, Germ-zero, Cone, by_side, IsAt, Item, item_normal, item_pos, item_mark, item_neg, dir_of, label-direction, is-at_one, Edge, Corner, HasEnds, IsCorner, Shows, HasCorner, label-germ, edge-points, map_of, vertex_of, complex_of, ShowsSet, Complex as ShownComplex, Vertex as ShownVertex, IsPlaceAt, corner-labels, image-read, Share, Nothing, Everything, InShare, HasShare, ItemLacks}
use Rattle.law_geometry.specs.complex.Complexes.{Vertex, Complex}
use Rattle.nef_locate.specs.declared.point.Place.TheVariants as place
use Rattle.law_geometry.proofs.sphere.Dimensions.{cone-same}

-- the labels close to a vertex are those of its map
pub vertex-share : (c : ShownComplex) (k : ℕ) (u : ShownVertex) (f : Share) → slice_get c.vertices k ≡ Some u → ((s : Set) (p : SpacePoint) → Cone (map_of u.map) s p → HasShare f s p)
    → (s : Set) (y : SpacePoint) → ShowsSet s c → IsPlaceAt (complex_of c) y (place.Vertex k) → HasShare f s y
vertex-share c k u f here by s y S p =
    let e = is-at_one (complex_of c).vertices k p.0 (vertex_of u) p.1 (image-read vertex_of c.vertices k u here) in
    let K = subst (λ (v : Vertex). Cone v.map s p.0.point) e (S.shows.cones k p.0 p.1) in
    by s y (cone-same (map_of u.map) s p.0.point y p.2 K)

-- the labels close to a point of an edge are labels close to its lower end
pub edge-share : (f : Share) (s : Set) (C : Complex) → Shows s C → (k : ℕ) (e : Edge) (v w : Vertex) (y : SpacePoint) → IsAt C.edges k e → HasEnds C e v w → IsBetween v.point y w.point
    → HasShare f s v.point → HasShare f s y
edge-share f s C S k e v w y a H b F = record { mark = λ l h. along zero_vector l ((Germ-zero s y zero_vector l (refl, refl, refl)).1 h); germs = λ d l _ g. along d l g }
  where
    along : (d : Vector) (l : Label) → Germ s y d l → InShare f l
    along d l g =
        let n = ((edge-points s C k e v w y S a H b).3 d l).0 g in
        let x = blend n.0 (dir_of v.map.svertices e.low_svertex) 1 d in
        let h = n.1 n.0 (omega arith) in
        F.germs x l (label-direction v.map x l h) (label-germ v.map s v.point (S.cones e.low v H.low) x l h)

-- close to a point of a facet are the labels of its item alone
corner-share : (f : Share) (s : Set) (C : Complex) → Shows s C → (y : SpacePoint) (k : Corner) (v : Vertex) (x : Item) → HasCorner C y k → IsCorner C k v x
    → InShare f (item_pos x) → InShare f (item_mark x) → InShare f (item_neg x) → HasShare f s y
corner-share f s C S y k v x H c above on below =
    let g = corner-labels s C S y k v x H c in
    record {
      mark = λ l h. subst (InShare f) (label-one s y (item_mark x) l g.0 h) on;
      germs = λ d l _ h. let r = sign (dot (item_normal x) d) in subst (InShare f) (Germ-unique s y d (by_side (item_pos x) (item_mark x) (item_neg x) r) l (g.1 d) h) (by r);
    }
  where
    by : (r : Sign) → InShare f (by_side (item_pos x) (item_mark x) (item_neg x) r)
    by plus = above
    by nought = on
    by minus = below

module _ (s : Set) (C : Complex) (S : Shows s C) (y : SpacePoint) (k : Corner) (v : Vertex) (x : Item) (H : HasCorner C y k) (c : IsCorner C k v x) where
  pub corner-nothing : ItemLacks In x → HasShare Nothing s y
  corner-nothing L = corner-share Nothing s C S y k v x H c L.pos L.mark L.neg

  pub corner-everything : ItemLacks Not x → HasShare Everything s y
  corner-everything L = corner-share Everything s C S y k v x H c L.pos L.mark L.neg

-- where all directions are flat there is one label
pub flat-share : (f : Share) (s : Set) (y : SpacePoint) (l : Label) → HasLabel s y l → FlatDim s y 3 → InShare f l → HasShare f s y
flat-share f s y l h flat i = record {
  mark = λ k g. subst (InShare f) (label-one s y l k h g) i;
  germs = λ d k _ g.
      let e = flat.0 in
      subst (InShare f) (Germ-unique s y d l k (flat-germ s y d l (span-3 s y e.0 e.1 e.2 d e.3 e.4 e.5 e.6) h) g) i;
}
