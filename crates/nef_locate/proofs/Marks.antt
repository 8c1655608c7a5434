-- The vertices, edges and items that a place names, and that their labels are those of its points.
use Rattle.nef_locate.proofs.Prelude.{◌≡◌, ℕ, ◌<◌, List, map, length, Some, slice_get, sym, ap, subst, ◌∙◌, HasLabel, SpacePoint, Set, Label, IsAt, Item, Side, is-at_one, map-is_at, is-at_map, is-at_within, side-has, LabelledSide, IsSide, sides_of, Vertex as PlainVertex, Corner as PlainCorner, IsCorner, at_vertex, on_edge, facet-at, facet-of, spot-mark, Complex, vertex_of, complex_of, corner_of, ShowsSet, IsPlaceAt, IsPlaceLabel, HasVolumeSide}
use Rattle.law_geometry.specs.complex.Complexes.{Complex as PlainComplex}
use Rattle.nef_complex.specs.declared.complex.Vertex.{Vertex}
use Rattle.nef_locate.specs.declared.point.Place.{Place}
use Rattle.nef_locate.specs.declared.point.Place.TheVariants as place
use Rattle.nef_locate.proofs.Cones.{corner-labels}
use Rattle.nef_locate.proofs.VolumeLabels.{side-label}
use Rattle.nef_smap.proofs.Lists.{map-within}

-- ---- lists
pub image-read : {A B : Type 0} (f : A → B) (xs : List A) (k : ℕ) (x : A) → slice_get xs k ≡ Some x → IsAt (map f xs) k (f x)
image-read f xs k x e = map-is_at f xs k x e

pub side-within : {X : Type 0} (xs : List X) (k : ℕ) (x : X) → slice_get xs k ≡ Some x → k < length xs
side-within xs k x e = is-at_within xs k x e

-- the vertex of a corner is the one that was read
pub corner-read : (vs : List Vertex) (C : PlainComplex) (k : PlainCorner) (u : Vertex) (x : Item) → C.vertices ≡ map vertex_of vs → slice_get vs k.vertex ≡ Some u
    → (v : PlainVertex) → IsCorner C k v x → IsCorner C k (vertex_of u) x
corner-read vs C k u x same e v c =
    let f = is-at_one C.vertices k.vertex v (vertex_of u) c.vertex (subst (λ (ws : List PlainVertex). IsAt ws k.vertex (vertex_of u)) (sym same) (image-read vertex_of vs k.vertex u e)) in
    subst (λ (w : PlainVertex). IsCorner C k w x) f c

-- ---- labels
one-side : (x z : LabelledSide) → Some x ≡ Some z → x.0 ≡ z.0
one-side x z e = let f : x ≡ z = cc in ap (λ (q : LabelledSide). q.0) f

pub label-holds : (c : Complex) (p : Place) (l : Label) → IsPlaceLabel (complex_of c) p l → (s : Set) (y : SpacePoint) → ShowsSet s c → IsPlaceAt (complex_of c) y p → HasLabel s y l
label-holds c (place.Vertex k) l m s y S a = spot-mark s (complex_of c) S.shows (facet-at s (complex_of c) S.shows) (facet-of s (complex_of c) S.shows) (at_vertex k) y a l m
label-holds c (place.OnEdge k) l m s y S a = spot-mark s (complex_of c) S.shows (facet-at s (complex_of c) S.shows) (facet-of s (complex_of c) S.shows) (on_edge k) y a l m
label-holds c (place.InFacet k) l (v, x, i, e) s y S a = subst (HasLabel s y) e (corner-labels s (complex_of c) S.shows y (corner_of k) v x a i).0
label-holds c (place.InVolume i j) l (p, (v, b, m)) s y S (o, r, (u, d, n), H) =
    let e = is-at_one (complex_of c).vertices i u v d b in
    let k = subst (λ (w : PlainVertex). IsSide w.map j o r) e n in
    let f : slice_get (sides_of v.map) j ≡ Some (p, l) = m in
    let g = one-side (o, r) (p, l) (sym k ∙ f) in
    side-label s c S i p l v b (side-has v.map j p l m) y (subst (λ (q : Side). HasVolumeSide (complex_of c) y (record { vertex = i; side = q })) g H)
