-- What is found at the points of an edge.
use Rattle.nef_locate.proofs.Prelude.{◌≡◌, ℕ, zero, suc, ◌<◌, ◌*◌, List, map, length, arith, sym, ap, subst, ◌∙◌, slice_get, Some, None, ints, IsPermutation, svertex_limit, normal_limit, HasLabel, SpacePoint, toward, IsAhead, IsBetween, Set, Vector, IsNormal, IsAtMost, opposite, flat-germ, IsAt, MapVertex as PlainSvertex, Map, MapLabel, Item, items, item_normal, arc_item, sloop_item, Valid, Cone, Least, Ordered, InOrder, at-arc, sloop-at, is-at_one, arc-at, SVertex, SArc, SphereMap, svertex_of, arc_of, map_of, IsSmall, IsLeastMap, Vertex as PlainVertex, IsEdge, Shows, IsEdgePoint, label-germ, germ-label, IsAlongSvertex, along-svertex, near_point, near-between, ahead-normal, Edge, Complex, vertex_of, edge_of, complex_of, ShowsSet, IsArcBelow, two_ends, AreHalves, dir-self, direction-left, is-at_none, is-at_first}
use Rattle.law_geometry.proofs.sphere.cones.Cones.{point-map}
use Rattle.law_geometry.proofs.sphere.Dimensions.{map-flat}
use Rattle.law_geometry.specs.complex.Complexes.{Edge as PlainEdge, Complex as PlainComplex}
use Rattle.nef_complex.specs.declared.complex.Vertex.{Vertex}
use Rattle.nef_locate.proofs.Marks.{image-read}
use Rattle.nef_locate.proofs.FlatLabels.{label-is}
use Rattle.nef_locate.proofs.EdgeLabels.{HasLabelsAlong, L}
use Rattle.nef_locate.proofs.EdgeMaps.{AreHalfArcs, edge-built, edge-ordered}
use Rattle.nef_locate.proofs.EdgeHalves.{half-arcs}
use Rattle.nef_smap.proofs.Lists.{map-within}

-- ---- the lower end of an edge
pub record Ends (C : PlainComplex) (e : PlainEdge) (v w : PlainVertex) : Type 0 where
  pub low_end : PlainSvertex
  pub is_low : IsAt C.vertices e.low v
  pub is_high : IsAt C.vertices e.high w
  pub leaves : IsAt v.map.svertices e.low_svertex low_end
  pub ahead : IsAhead v.point low_end.dir w.point
  pub first : (k : ℕ) (x : PlainVertex) → IsAt C.vertices k x → IsBetween v.point x.point w.point → ⊥
  pub mark : e.mark ≡ low_end.mark
  pub normal : IsNormal low_end.dir

ends-of : (s : Set) (C : PlainComplex) → Shows s C → (e : PlainEdge) → (E : IsEdge C.vertices e) → (v : PlainVertex) → IsAt C.vertices e.low v → Ends C e v E.high_vertex
ends-of s C S e E v a =
    subst (λ (x : PlainVertex). Ends C e x E.high_vertex) (is-at_one C.vertices e.low E.low_vertex v E.is_low a) (record {
      low_end = E.low_end;
      is_low = E.is_low;
      is_high = E.is_high;
      leaves = E.leaves;
      ahead = E.ahead;
      first = E.first;
      mark = E.mark;
      normal = ahead-normal E.low_vertex.point E.high_vertex.point E.low_end.dir (S.ordered e.low e.high E.low_vertex E.high_vertex E.upward E.is_low E.is_high) E.ahead;
    })

-- ---- at a point of the edge
module _ (s : Set) (C : PlainComplex) (S : Shows s C) (e : PlainEdge) (v w : PlainVertex) (D : Ends C e v w) (y : SpacePoint) (b : IsBetween v.point y w.point) where
  abbrev u : PlainSvertex
  u = D.low_end

  point-along : IsAlongSvertex s v u u.mark y
  point-along = along-svertex s C S e.low e.low_svertex v u D.is_low D.leaves w.point y D.ahead b D.first

  abbrev N : Map
  N = (point-map s y).0

  cone : Cone N s y
  cone = (point-map s y).1

  is-along : HasLabelsAlong v.map e.low_svertex u N
  is-along =
      let V = (S.cones e.low v D.is_low).valid in
      let some = V.shaped.svertex_dirs e.low_svertex u D.leaves in
      let l = point-along in
      let flat = (l.1 u.dir).1 (let d = dir-self u.dir some in d.parallel) in
      let K = cone in
      record {
        valid = V;
        least = S.least e.low v D.is_low;
        ordered = S.maps_ordered e.low v D.is_low;
        listed = D.leaves;
        along_valid = K.valid;
        flat = map-flat N s y K u.dir flat;
        same = λ d m h. (λ x. (l.3 d m).0 (label-germ N s y K d m x), λ x. germ-label N s y K d m h ((l.3 d m).1 x));
        own = germ-label N s y K u.dir u.mark some (flat-germ s y u.dir u.mark flat l.2);
        normal = D.normal;
      }

-- ---- small numbers
turned-small : (k : ℕ) (v : Vector) → IsAtMost k v → IsAtMost k (opposite v)
turned-small k v h = record {
  of_x = (let g = h.of_x in omega (arith, ints, g));
  of_y = (let g = h.of_y in omega (arith, ints, g));
  of_z = (let g = h.of_z in omega (arith, ints, g));
}

two-small : (k : ℕ) (u : PlainSvertex) → IsAtMost k u.dir → (i : ℕ) (z : PlainSvertex) → IsAt (two_ends u) i z → IsAtMost k z.dir
two-small k u h zero z e = subst (λ (x : PlainSvertex). IsAtMost k x.dir) (is-at_first e) (turned-small k u.dir h)
two-small k u h (suc zero) z e = subst (λ (x : PlainSvertex). IsAtMost k x.dir) (is-at_first e) h
two-small k u h (suc (suc i)) z e = absurd (is-at_none e)

module _ (s : Set) (c : Complex) (S : ShowsSet s c) (number : ℕ) (e : Edge) (read : slice_get c.edges number ≡ Some e) where
  edge : IsEdge (complex_of c).vertices (edge_of e)
  edge = S.shows.edges.edges number (edge_of e) (image-read edge_of c.edges number e read)

  pub low-within : e.low < length c.vertices
  low-within = let E = edge in map-within vertex_of c.vertices e.low E.low_vertex E.is_low

  module _ (v : Vertex) (low : slice_get c.vertices e.low ≡ Some v) where
    pub low-map : IsLeastMap v.map
    low-map = S.maps e.low v low

    pub low-svertex : e.low_svertex < length v.map.svertices
    low-svertex =
        let E = edge in
        let f = is-at_one (complex_of c).vertices e.low E.low_vertex (vertex_of v) E.is_low (image-read vertex_of c.vertices e.low v low) in
        map-within svertex_of v.map.svertices e.low_svertex E.low_end (subst (λ (x : PlainVertex). IsAt x.map.svertices e.low_svertex E.low_end) f E.leaves)

    module _ (x : SVertex) (found : slice_get v.map.svertices e.low_svertex ≡ Some x) (vs : List SVertex) (both : map svertex_of vs ≡ two_ends (svertex_of x)) (n : ℕ) (hs ys : List SArc)
        (H : AreHalves v.map.arcs e.low_svertex n hs) (all : n ≡ 2 * length v.map.arcs) (moved : IsPermutation hs ys) (ordered : InOrder IsArcBelow ys) where
      abbrev k : ℕ
      k = e.low_svertex

      abbrev V : Map
      V = map_of v.map

      here : IsAt V.svertices k (svertex_of x)
      here = image-read svertex_of v.map.svertices k x found

      abbrev m : SphereMap
      m = record { mark = e.mark; svertices = vs; arcs = ys; sloop = None; ground = None }

      high : PlainVertex
      high = let E = edge in E.high_vertex

      D : Ends (complex_of c) (edge_of e) (vertex_of v) high
      unfolding edge high
      D = ends-of s (complex_of c) S.shows (edge_of e) edge (vertex_of v) (image-read vertex_of c.vertices e.low v low)

      end-is : (let d = D in d.low_end) ≡ svertex_of x
      end-is = let d = D in is-at_one V.svertices k d.low_end (svertex_of x) d.leaves here

      halves : AreHalfArcs V k (map arc_of ys)
      halves = let l = low-map in half-arcs v.map l.sphere_map.valid k (svertex_of x) here n hs ys H all moved ordered

      abbrev shaped : List PlainSvertex → Map
      shaped us = record { mark = e.mark; svertices = us; arcs = map arc_of ys; sloop = None; ground = None }

      same : (d : PlainSvertex) → d ≡ svertex_of x → shaped (two_ends d) ≡ map_of m
      same d f = ap (λ (us : List PlainSvertex). shaped us) (ap two_ends f ∙ sym both)

      module _ (y : SpacePoint) (b : IsBetween (vertex_of v).point y (let h = high in h.point)) where
        abbrev K : Cone (point-map s y).0 s y
        K = (point-map s y).1

        along : (let d = D in HasLabelsAlong V k d.low_end (point-map s y).0)
        along = is-along s (complex_of c) S.shows (edge_of e) (vertex_of v) high D y b

        valid : Valid (map_of m)
        valid = let d = D in subst Valid (same d.low_end end-is) (edge-built V k d.low_end (point-map s y).0 along e.mark (map arc_of ys) halves).0

        least : Least (map_of m)
        least = let d = D in subst Least (same d.low_end end-is) (edge-built V k d.low_end (point-map s y).0 along e.mark (map arc_of ys) halves).1

        in-order : Ordered (map_of m)
        in-order = let d = D in subst Ordered (same d.low_end end-is) (edge-ordered V k d.low_end (point-map s y).0 along e.mark (map arc_of ys) halves)

        cone-there : Cone (map_of m) s y
        cone-there =
            let d = D in
            let A = along in
            let l = L V k d.low_end (point-map s y).0 A in
            let p = point-along s (complex_of c) S.shows (edge_of e) (vertex_of v) high D y b in
            record {
              valid = valid;
              mark = subst (HasLabel s y) (sym d.mark) p.2;
              labels = λ f i. (
                l f,
                subst (λ (M : Map). MapLabel M f (l f)) (same d.low_end end-is) ((edge-built V k d.low_end (point-map s y).0 A e.mark (map arc_of ys) halves).2 f i),
                label-germ (point-map s y).0 s y K f (l f) (label-is (point-map s y).0 A.along_valid f i),
              );
            }

      -- there is a point on the edge
      inner : SpacePoint
      inner = let h = high in near_point s (vertex_of v).point h.point

      inner-between : IsBetween (vertex_of v).point (near_point s (vertex_of v).point (let h = high in h.point)) (let h = high in h.point)
      inner-between = let d = D in let h = high in near-between s (vertex_of v).point h.point (direction-left (toward (vertex_of v).point h.point) d.low_end.dir d.ahead)

      small : IsSmall (map_of m)
      small = record {
        svertices = λ i z h. let l = low-map in two-small svertex_limit (svertex_of x) (l.sphere_map.small.svertices k (svertex_of x) here) i z (subst (λ (us : List PlainSvertex). IsAt us i z) both h);
        normals = λ i z h. normals i z h;
      }
        where
          normals : (i : ℕ) (z : Item) → IsAt (items (map_of m)) i z → IsAtMost normal_limit (item_normal z)
          normals i (arc_item h) l =
              let H = halves in
              let r = H.each i h (arc-at (map arc_of ys) None i h l) in
              let q = r.0 in let I = r.1 in
              let w = low-map in
              subst (IsAtMost normal_limit) (sym I.normal) (w.sphere_map.small.normals q.number (arc_item q.arc) (at-arc V.arcs V.sloop q.number q.arc q.listed))
          normals i (sloop_item l) h = let z : None ≡ Some l = sloop-at (map arc_of ys) None i l h in cc

      pub edge-least : IsLeastMap m
      edge-least =
          let h = high in
          let y = near_point s (vertex_of v).point h.point in
          record { sphere_map = record { valid = valid y inner-between; ordered = in-order y inner-between; small = small }; least = least y inner-between }

      pub edge-cone : (y : SpacePoint) → IsEdgePoint (complex_of c) number y → Cone (map_of m) s y
      edge-cone y (f, z, t, a, J, b) =
          let C = complex_of c in
          let d = D in
          let h = high in
          let g = is-at_one C.edges number f (edge_of e) a (image-read edge_of c.edges number e read) in
          let i = is-at_one C.vertices e.low z (vertex_of v) (subst (λ (r : PlainEdge). IsAt C.vertices r.low z) g J.low) d.is_low in
          let j = is-at_one C.vertices e.high t h (subst (λ (r : PlainEdge). IsAt C.vertices r.high t) g J.high) d.is_high in
          cone-there y (subst (λ (r : PlainVertex). IsBetween r.point y h.point) i (subst (λ (r : PlainVertex). IsBetween z.point y r.point) j b))
