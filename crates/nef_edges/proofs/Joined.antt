-- The vertices of a set are joined: their svertices are ends of edges.
use Rattle.nef_edges.proofs.Prelude.{◌≡◌, ℕ, ◌<◌, List, map, length, sym, subst, IsAt, IsPointBelow, Set, form_of, Plane, Shaped, InOrder, Complex as PlainComplex, Edges, Shows, Vertex, Edge, vertex_of, edge_of, AreVerticesOf, ShowsSet, AreFlagged, IsIndexed, ItemsAreHeld, AreInOrder, HaveEnds, AreJoined}
use Rattle.law_geometry.specs.complex.Complexes.{Vertex as PlainVertex}
use Rattle.nef_complex.specs.declared.complex.Complex.{Complex}
use Rattle.nef_complex.proofs.Carried.{items-held}
use Rattle.nef_edges.proofs.Existing.{edges-exist}
use Rattle.nef_edges.proofs.Partners.{partner, partner-back}
use Rattle.nef_space.proofs.Lists.{is-at_map, is-at_within, map-is_at}
use Rattle.nef_smap.proofs.SortedOnce.{in-order_map}

module _ (s : Set) (carriers : List Plane) (vertices : List Vertex) (V : AreVerticesOf s carriers vertices) where
  ordered : InOrder (λ u v. IsPointBelow u.point v.point) (map vertex_of vertices)
  ordered = in-order_map (λ u v. IsPointBelow u.point v.point) vertex_of vertices V.sorted

  shaped : (k : ℕ) (v : PlainVertex) → IsAt (map vertex_of vertices) k v → Shaped v.map
  shaped k v a = let u = is-at_map vertex_of vertices k v a in subst (λ (w : PlainVertex). Shaped w.map) u.2 (V.maps k u.0 u.1).sphere_map.valid.shaped

  pub are-joined : AreJoined (map vertex_of vertices)
  are-joined =
      let es = edges-exist (map vertex_of vertices) ordered shaped in
      let C : PlainComplex = record { carriers = map form_of carriers; vertices = map vertex_of vertices; edges = es.0 } in
      record { ordered = ordered; shaped = shaped; joined = partner s C (V.shown es.0 es.1); arrived = partner-back s C (V.shown es.0 es.1) }

  pub carriers-ordered : AreInOrder carriers
  carriers-ordered i j g h l a b =
      let es = edges-exist (map vertex_of vertices) ordered shaped in
      let shown = V.shown es.0 es.1 in
      shown.carriers.ordered i j (form_of g) (form_of h) l (map-is_at form_of carriers i g a) (map-is_at form_of carriers j h b)

  -- what a complex is put together from
  module _ (es : List Edge) (E : Edges (map vertex_of vertices) (map edge_of es)) where
    shown : Shows s (record { carriers = map form_of carriers; vertices = map vertex_of vertices; edges = map edge_of es })
    shown = V.shown (map edge_of es) E

    pub all-held : ItemsAreHeld carriers vertices
    all-held = items-held s carriers vertices (map edge_of es) shown

    pub have-ends : HaveEnds vertices es
    have-ends k e a =
        let F = E.edges k (edge_of e) (map-is_at edge_of es k e a) in
        (vertex-within e.low F.low_vertex F.is_low, vertex-within e.high F.high_vertex F.is_high)
      where
        vertex-within : (i : ℕ) (v : PlainVertex) → IsAt (map vertex_of vertices) i v → i < length vertices
        vertex-within i v b = let u = is-at_map vertex_of vertices i v b in is-at_within vertices i u.0 u.1

    pub shows-set : (c : Complex) → c.carriers ≡ carriers → c.vertices ≡ vertices → c.edges ≡ es → AreFlagged c.carriers c.vertices c.has_item → IsIndexed c → ShowsSet s c
    shows-set c h v e F I = record {
      shows = subst (λ (hs : List Plane). Shows s (record { carriers = map form_of hs; vertices = map vertex_of c.vertices; edges = map edge_of c.edges })) (sym h)
          (subst (λ (vs : List Vertex). Shows s (record { carriers = map form_of carriers; vertices = map vertex_of vs; edges = map edge_of c.edges })) (sym v)
          (subst (λ (fs : List Edge). Shows s (record { carriers = map form_of carriers; vertices = map vertex_of vertices; edges = map edge_of fs })) (sym e) shown));
      maps = λ k u a. V.maps k u (subst (λ (vs : List Vertex). IsAt vs k u) v a);
      flagged = F;
      indexed = I;
    }
