-- The side above what the ray down first meets is that of the point; each place has its number of flat directions.
use Rattle.nef_locate.proofs.Prelude.{◌≡◌, ℕ, pos, arith, refl, sym, inl, inr, Option, Some, None, IfSome, subst, slice_get, ints, FlatDim, SpacePoint, Form, SamePoint, InClosedFrame, IsAhead, Set, up, opposite, plane_axis, Label, IsAt, Item, arc_item, items, item_normal, item_pos, Side, pos_item, BoundsSector, at-arc, map_of, side_number, IsSide, SideSees, side-has, side-number, IsSkeletonIn, at_vertex, on_edge, in_facet, IsVertexPoint, IsEdgePoint, IsSkeletonPoint, PlaneMeet, meets_vertex, meets_edge, IsCornerAt, HasCorner, item_plane, RayDown, edge-points, edge-same, corner-same, flat-same, facet-at, facet-of, way-ends, Complex, Edge, vertex_of, edge_of, complex_of, corner_of, AreSorted, ShowsSet, IsPlaceIn, IsPlaceAt, IsFirstHit, place_dimension, IsSkeletonAt, IsSideAbove, IsPointBelow}
use Rattle.law_geometry.specs.complex.Complexes.{Complex as PlainComplex}
use Rattle.law_geometry.proofs.complex.EqualPoints.{vertex-same}
use Rattle.nef_complex.specs.declared.complex.Corner.{Corner}
use Rattle.nef_complex.specs.declared.complex.Vertex.{Vertex}
use Rattle.nef_locate.specs.declared.point.Place.{Place}
use Rattle.nef_locate.specs.declared.point.Place.TheVariants as place
use Rattle.nef_locate.proofs.CarrierPoints.{closed-inside}
use Rattle.nef_locate.proofs.Marks.{image-read}
use Rattle.nef_locate.proofs.VolumeLabels.{volume-flat}
use Rattle.law_geometry.proofs.near.Same.{dim-same}
use Rattle.nef_smap.proofs.SortedOnce.{map-in_order}

-- ---- the sides above
module _ (c : Complex) where
  abbrev C : PlainComplex
  C = complex_of c

  pub above-vertex : (k j : ℕ) (u : Vertex) → slice_get c.vertices k ≡ Some u → SideSees (map_of u.map) j up → IsSideAbove (complex_of c) (place.Vertex k) k j
  above-vertex k j u r (o, l, i, sees) =
      let a = image-read vertex_of c.vertices k u r in
      (o, l, (vertex_of u, a, i), λ y t p. (at_vertex k, p, (vertex_of u, a, refl, sees)))

  pub above-edge : (k j : ℕ) (e : Edge) (u : Vertex) → slice_get c.edges k ≡ Some e → slice_get c.vertices e.low ≡ Some u
      → (o : Side) × (l : Label) × IsSide (map_of u.map) j o l × BoundsSector (map_of u.map) e.low_svertex up o
      → IsSideAbove (complex_of c) (place.OnEdge k) e.low j
  above-edge k j e u q r (o, l, i, near) =
      let b = image-read edge_of c.edges k e q in
      let a = image-read vertex_of c.vertices e.low u r in
      (o, l, (vertex_of u, a, i), λ y t p. (on_edge k, p, (edge_of e, vertex_of u, b, a, refl, near)))

  pub above-facet : (k : Corner) (j : ℕ) (u : Vertex) (x : Item) → slice_get c.vertices k.vertex ≡ Some u → IsAt (items (map_of u.map)) k.item x → j ≡ side_number (map_of u.map) (pos_item k.item)
      → IsSideAbove (complex_of c) (place.InFacet k) k.vertex j
  above-facet k j u x r i n =
      let a = image-read vertex_of c.vertices k.vertex u r in
      let s = subst (λ (m : ℕ). IsSide (map_of u.map) m (pos_item k.item) (item_pos x)) (sym n) (side-number (map_of u.map) (pos_item k.item) (item_pos x) (x, i, refl)) in
      (pos_item k.item, item_pos x, (vertex_of u, a, s), λ y t H. (in_facet H.beside, (H.vertex, H.item, H.is_beside, H.facet_point), (corner_of k, H, refl, refl)))

  pub above-volume : (i j : ℕ) → IsPlaceIn (complex_of c) (place.InVolume i j) → IsSideAbove (complex_of c) (place.InVolume i j) i j
  above-volume i j (o, l, r) = (o, l, r, λ y t h. absurd (h.3.0 t))

-- ---- volumes
module _ (D : PlainComplex) (p : SpacePoint) (off : IsSkeletonPoint D p → ⊥) (floor : Place) (F : IsFirstHit D p (opposite up) floor) where
  pub volume-in : (i j : ℕ) → IsSideAbove D floor i j → IsPlaceIn D (place.InVolume i j)
  volume-in i j (o, l, s, f) = (o, l, s)

  pub volume-at : (i j : ℕ) → IsSideAbove D floor i j → IsPlaceAt D p (place.InVolume i j)
  volume-at i j (o, l, (v, b, s), f) =
      let t = f F.place F.skeleton F.at in
      let down : RayDown D p (record { vertex = i; side = o }) = record {
        place = F.place;
        spot = t.0;
        ahead = F.ahead;
        is_spot = t.1;
        first = F.first;
        above = t.2;
        label = l;
        has = (v, b, side-has v.map j o l s);
      } in
      (o, l, (v, b, s), (off, down))

pub up-some : (opposite up).z ≡ pos 0 → ⊥
up-some z = omega (arith, ints)

module _ (s : Set) (c : Complex) (S : ShowsSet s c) (p : SpacePoint) where
  -- from a point of the frame off the skeleton the ray down meets something
  pub some-below : InClosedFrame p → (IsSkeletonPoint (complex_of c) p → ⊥) → ((q : SpacePoint) → IsAhead p (opposite up) q → IsSkeletonPoint (complex_of c) q → ⊥) → ⊥
  some-below i off none =
      let w = way-ends s (complex_of c) S.shows (facet-at s (complex_of c) S.shows) (facet-of s (complex_of c) S.shows) p (opposite up) (λ z. up-some z.2) (closed-inside s p (volume-flat s c S p off) i) off in
      none w.place w.ahead (w.spot, w.is_spot)

  -- the number of flat directions at each place
  pub dimension : (a : Place) → IsPlaceAt (complex_of c) p a → FlatDim s p (place_dimension a)
  dimension (place.Vertex k) (v, a, e) = dim-same s v.point p 0 e (S.shows.vertices k v a)
  dimension (place.OnEdge k) (e, v, w, a, H, b) = (edge-points s (complex_of c) k e v w p S.shows a H b).0
  dimension (place.InFacet k) H = (facet-at s (complex_of c) S.shows H.beside H.vertex H.item p H.is_beside H.facet_point).0
  dimension (place.InVolume i j) h = volume-flat s c S p h.3.0

-- ---- the skeleton
-- the corner of a point is one of the complex, and the point one of the skeleton
pub corner-at : (D : PlainComplex) (y : SpacePoint) (k : Corner) → HasCorner D y (corner_of k) → IsSkeletonAt D y (place.InFacet k)
corner-at D y k H = record { has = in-complex H.named.0 H.named.2; at = H; skeleton = (in_facet H.beside, (H.vertex, H.item, H.is_beside, H.facet_point)) }
  where
    in-complex : (m : PlaneMeet) → IsCornerAt D (item_plane H.vertex H.item) (opposite (plane_axis (item_normal H.item))) m (corner_of k) → IsPlaceIn D (place.InFacet k)
    in-complex (meets_vertex i) (v, x, e, a, n, o) = (v, x, a)
    in-complex (meets_edge i) (e, v, b, l, f, a, g, n, o) = (v, arc_item b, record { vertex = subst (λ (j : ℕ). IsAt D.vertices j v) (sym f) a; item = at-arc v.map.arcs v.map.sloop k.item b g })

pub vertex-at : (D : PlainComplex) (y : SpacePoint) (k : ℕ) → IsVertexPoint D k y → IsSkeletonAt D y (place.Vertex k)
vertex-at D y k (v, a, e) = record { has = (v, a); at = (v, a, e); skeleton = (at_vertex k, (v, a, e)) }

pub edge-at : (D : PlainComplex) (y : SpacePoint) (k : ℕ) → IsEdgePoint D k y → IsSkeletonAt D y (place.OnEdge k)
edge-at D y k (e, v, w, a, H, b) = record { has = (e, a); at = (e, v, w, a, H, b); skeleton = (on_edge k, (e, v, w, a, H, b)) }

-- what lies at a spot lies there with each equal point
pub skeleton-same : (D : PlainComplex) (x y : SpacePoint) → SamePoint x y → (a : Place) → IsSkeletonAt D x a → IsSkeletonAt D y a
skeleton-same D x y e (place.Vertex k) A = vertex-at D y k (vertex-same x y e D k A.at)
skeleton-same D x y e (place.OnEdge k) A = edge-at D y k (edge-same x y e D k A.at)
skeleton-same D x y e (place.InFacet k) A = corner-at D y k (corner-same D x y e (corner_of k) A.at)
skeleton-same D x y e (place.InVolume i j) A = let h = A.at in absurd (h.3.0 A.skeleton)

pub same-found : (D : PlainComplex) (x y : SpacePoint) → SamePoint x y → (found : Option Place) → IfSome found (IsSkeletonAt D x) → IfSome found (IsSkeletonAt D y)
same-found D x y e None A = tt
same-found D x y e (Some a) A = skeleton-same D x y e a A

-- and what a plane holds of the skeleton there
pub held-same : (s : Set) (D : PlainComplex) (h : Form) (x y : SpacePoint) → SamePoint x y → IsSkeletonIn s D h x → IsSkeletonIn s D h y
held-same s D h x y e (inl (meets_vertex k, v)) = inl (meets_vertex k, vertex-same x y e D k v)
held-same s D h x y e (inl (meets_edge k, (p, l))) = inl (meets_edge k, (edge-same x y e D k p, l))
held-same s D h x y e (inr f) = inr (flat-same s x y e h f)

-- the vertices stand in order
pub vertices-sorted : (s : Set) (c : Complex) → ShowsSet s c → AreSorted c.vertices
vertices-sorted s c S = map-in_order (λ u v. IsPointBelow u.point v.point) vertex_of c.vertices S.shows.ordered
