-- The names that most clauses cite, passed on from one place. Declares nothing.
pub use Rattle.nef_space.specs.Prelude.{IsZero, cross}
pub use Rattle.nef_complex.specs.Prelude.{AreVertexHolders, AreVerticesOf, Edges, IfOk, IfSome, IsAt, IsSortedBy, IsTrue, List, OnOk, Set, ShowsSet, Some, [], direction_limit, edge_of, int_cmp, length, map, nat_abs, nat_cmp, ordering_then, point_limit, point_of, pos, true, vector_of, vertex_of, weight_limit, ℕ}
pub use Rattle.std.specs.Prelude.{set}
pub use Rattle.std.specs.declared.cmp.Ordering.TheVariants.{Equal}
pub use Rattle.nef_space.specs.Points.{toward}
pub use Rattle.nef_index.specs.declared.skeleton.Edge.{Edge}
pub use Rattle.nef_complex.specs.declared.complex.Vertex.{Vertex}
pub use Rattle.nef_edges.specs.EdgeEnds.{AreArriving, IsAfter, IsEarlierSvertex, IsNextEnd, NoneAfter}
pub use Rattle.nef_edges.specs.Laid.{AreLaid, IsEnd, IsJoinedAt, IsPart, LeadsTo}
pub use Rattle.nef_edges.specs.Matched.{AreMatchedEnds, ArriveApart, EdgesAreMatched, IsMatched, MatchedAreEdges, slot_of}
pub use Rattle.nef_edges.specs.Moments.{line_key_of, product_of, sum_of, whole_of}
pub use Rattle.nef_edges.specs.Order.{dir_order, end_lt, end_order, line_order, moment_order}
pub use Rattle.nef_edges.specs.Pairs.{AreEdges, AreJoined}
pub use Rattle.nef_edges.specs.Widths.{moment_limit}
pub use Rattle.nef_edges.specs.declared.edge_end.EdgeEnd.{EdgeEnd}
