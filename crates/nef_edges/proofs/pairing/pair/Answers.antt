use Rattle.nef_edges.proofs.Prelude.{List, map, IfOk, sym, subst, ◌∙◌, Set, Plane, Edges, vertex_of, edge_of, AreVerticesOf, ShowsSet, AreVertexHolders, Vertex, AreJoined}
use Rattle.nef_complex.specs.declared.complex.Complex.{Complex}
use Rattle.nef_edges.proofs.Joined.{are-joined, carriers-ordered}
use Rattle.nef_edges.proofs.pairing.pair.Goals as goal

pub of-requires : goal.of-requires
of-requires c = record { ordered = let V = c.requires.vertices in carriers-ordered V.0 c.args.carriers c.args.vertices V.1 }

pub edges_of-requires : goal.edges_of-requires
edges_of-requires c = record { joined = let V = c.requires.vertices in subst (λ (vs : List Vertex). AreJoined (map vertex_of vs)) (sym c.as_slice-2.ensures.all) (are-joined V.0 c.args.carriers c.args.vertices V.1) }

pub pair_held-requires-clause-edges : goal.pair_held-requires-clause-edges
pair_held-requires-clause-edges c = subst (λ (vs : List Vertex). Edges (map vertex_of vs) (map edge_of c.in_ok-edges.edges.items)) c.as_slice-2.ensures.all c.in_ok-edges.ensures.edges

pub pair_held-requires-clause-vertices : goal.pair_held-requires-clause-vertices
pair_held-requires-clause-vertices c =
    let V = c.requires.vertices in
    (V.0, subst (λ (hs : List Plane). AreVerticesOf V.0 hs c.args.vertices) (sym (c.into_planes.ensures.planes ∙ c.in_ok-carriers.ensures.kept)) V.1)

pub pair_held-requires-clause-holders : goal.pair_held-requires-clause-holders
pair_held-requires-clause-holders c =
    subst (λ (hs : List Plane). AreVertexHolders hs c.args.vertices c.in_ok-rows.rows) (sym c.into_planes.ensures.planes)
    (subst (λ (vs : List Vertex). AreVertexHolders c.in_ok-carriers.carriers vs c.in_ok-rows.rows) c.as_slice.ensures.all c.in_ok-rows.ensures.rows)

pub returns-clause-shows : goal.returns-clause-shows
returns-clause-shows c =
    subst (λ (hs : List Plane). IfOk c.pair_held.result (λ (d : Complex). (s : Set) → AreVerticesOf s hs c.args.vertices → ShowsSet s d)) (c.into_planes.ensures.planes ∙ c.in_ok-carriers.ensures.kept)
    c.pair_held.ensures.shows
