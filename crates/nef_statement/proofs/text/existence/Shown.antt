-- Every set whose carriers are planes of the program, and not too many, has a complex of the program that shows it. In each complex of the program that shows a set the maps are within their limits.
use Rattle.nef_statement.proofs.text.existence.Prelude.{◌≡◌, ℕ, ◌≤◌, ◌^◌, refl, sym, ap, ◌∙◌, List, length, map, subst, [], each, SpacePoint, Form, Set, IsAt, Map, Vertex as PlainVertex, Edge as PlainEdge, SamePlane, Shows, form_of, point_of, Plane, map_of, map-is_at, is-at_map, vertex_of, edge_of, complex_of, HasLeastMaps, AreCarried, EveryCarriedSetIsShown, at-lies}
use Rattle.nef_complex.specs.Index.{indexed_lists}
use Rattle.nef_complex.specs.declared.complex.Complex.{Complex}
use Rattle.nef_complex.specs.declared.complex.Vertex.{Vertex}
use Rattle.nef_index.specs.declared.skeleton.Edge.{Edge}
use Rattle.nef_statement.proofs.text.existence.Complexes.{VerticesAt, vertices-at, vertex_edges, shown-by}
use Rattle.nef_statement.proofs.text.existence.Lifted.{lifted, sphere-map}
use Rattle.nef_statement.proofs.text.existence.Planes.{lies-image, planes, PointList, points}
use Rattle.nef_statement.proofs.text.existence.Small.{svertex-short, item-short, short-map}

-- ---- edges
edge-from : (k : ℕ) (e : PlainEdge) → (f : Edge) × (edge_of f ≡ e)
edge-from k e = (record { low = e.low; low_svertex = e.low_svertex; high = e.high; high_svertex = e.high_svertex; mark = e.mark }, refl)

module _ (s : Set) (hs : List Plane) (few : length hs ≤ 2 ^ 32) (A : AreCarried s hs) where
  -- ---- what the complex is put together from
  record Lists : Type 0 where
    carriers : List Plane
    vertices : List Vertex
    edges : List Edge
    shows : Shows s (record { carriers = map form_of carriers; vertices = map vertex_of vertices; edges = map edge_of edges })

  lists : Lists
  lists =
      let P = planes s hs A in
      let Q = points s hs A in
      let V = vertices-at s (each point_of Q.list) Q.sound Q.complete in
      let E = vertex_edges s V.list V.are in
      by P.list Q V E.0 (shown-by s (map form_of P.list) V.list E.0 P.carriers V.are E.1)
    where
      by : (gs : List Plane) (Q : PointList s hs A) (V : VerticesAt s (each point_of Q.list)) (es : List PlainEdge) → Shows s (record { carriers = map form_of gs; vertices = V.list; edges = es }) → Lists
      by gs Q V es S = record {
        carriers = gs;
        vertices = vs.0;
        edges = fs.0;
        shows = subst (λ (ws : List PlainVertex). Shows s (record { carriers = map form_of gs; vertices = ws; edges = map edge_of fs.0 })) (sym vs.1)
            (subst (λ (ds : List PlainEdge). Shows s (record { carriers = map form_of gs; vertices = V.list; edges = ds })) (sym fs.1) S);
      }
        where
          vertex-from : (k : ℕ) (v : PlainVertex) → IsAt V.list k v → (u : Vertex) × (vertex_of u ≡ v)
          vertex-from k v a =
              let q = lies-image point_of Q.list v.point (V.point k v a) in
              let m = sphere-map v.map (short-map s hs A gs V.list es S k v a few) in (
                record { point = q.0; map = m.0 },
                ap (λ (p : SpacePoint). let r : PlainVertex = record { point = p; map = map_of m.0 } in r) q.2 ∙ ap (λ (n : Map). let r : PlainVertex = record { point = v.point; map = n } in r) m.1,
              )

          vs : (us : List Vertex) × (map vertex_of us ≡ V.list)
          vs = lifted vertex_of V.list vertex-from

          fs : (ds : List Edge) × (map edge_of ds ≡ es)
          fs = lifted edge_of es (λ k e a. edge-from k e)

-- EVERY SUCH SET HAS A COMPLEX
pub carried-shown : EveryCarriedSetIsShown
carried-shown s hs few A = let L = lists s hs few A in (record { carriers = L.carriers; vertices = L.vertices; edges = L.edges; has_item = []; index = indexed_lists L.carriers L.vertices L.edges }, L.shows)

-- ---- the maps of a complex that shows a set
-- its carriers are planes of the program
shown-carried : (s : Set) (c : Complex) → Shows s (complex_of c) → AreCarried s c.carriers
shown-carried s c S f l =
    let (k, g, a, same) = S.carriers.all f l in
    let h = is-at_map form_of c.carriers k g a in
    (h.0, at-lies c.carriers k h.0 h.1, subst (λ (e : Form). SamePlane e f) (sym h.2) same)

-- so the maps are least, and within their limits
pub shown-maps : (s : Set) (c : Complex) → Shows s (complex_of c) → HasLeastMaps c
shown-maps s c S i v a =
    let b : IsAt (map vertex_of c.vertices) i (vertex_of v) = map-is_at vertex_of c.vertices i v a in
    let A = shown-carried s c S in
    record {
      sphere_map = record {
        valid = (S.cones i (vertex_of v) b).valid;
        ordered = S.maps_ordered i (vertex_of v) b;
        small = record {
          svertices = λ k u at. (svertex-short s c.carriers A c.carriers (map vertex_of c.vertices) (map edge_of c.edges) S i (vertex_of v) b k u at).small;
          normals = λ k x at. (item-short s c.carriers A c.carriers (map vertex_of c.vertices) (map edge_of c.edges) S i (vertex_of v) b k x at).small;
        };
      };
      least = S.least i (vertex_of v) b;
    }
