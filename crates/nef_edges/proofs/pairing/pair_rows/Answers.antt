use Rattle.nef_edges.proofs.Prelude.{List, map, sym, subst, Edges, vertex_of, edge_of, Vertex, AreJoined}
use Rattle.nef_edges.proofs.Joined.{are-joined}
use Rattle.nef_edges.proofs.pairing.pair_rows.Goals as goal

pub edges_from-requires : goal.edges_from-requires
edges_from-requires c = record { joined = let V = c.requires.vertices in subst (λ (vs : List Vertex). AreJoined (map vertex_of vs)) (sym c.as_slice.ensures.all) (are-joined V.0 c.args.carriers c.args.vertices V.1) }

pub pair_held-requires-clause-edges : goal.pair_held-requires-clause-edges
pair_held-requires-clause-edges c = subst (λ (vs : List Vertex). Edges (map vertex_of vs) (map edge_of c.in_ok-edges.edges.items)) c.as_slice.ensures.all c.in_ok-edges.ensures.edges
