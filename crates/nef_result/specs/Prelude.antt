-- The names that most clauses cite, passed on from one place. Declares nothing.
pub use Rattle.nef_stopo.specs.Prelude.{IsLeastMap, map_of, op_set}
pub use Rattle.nef_complex.specs.Prelude.{Bool, Carriers, Cone, Form, IfOk, In, IsAt, IsTrue, Lies, List, Not, OnOk, Out, Plane, SamePlane, Set, ShowsSet, SpacePoint, [], false, form_of, given_form, length, map, point_of, true, vec_len, vector_of, ℕ}
pub use Rattle.nef_edges.specs.Prelude.{Vertex}
pub use Rattle.std.specs.Prelude.{vec_capacity}
pub use Rattle.nef_star.specs.declared.star.Op.{Op}
pub use Rattle.nef_smap.specs.declared.map.SphereMap.{SphereMap}
pub use Rattle.nef_spair.specs.Kinds.{IsVertexMap}
pub use Rattle.nef_cand.specs.declared.named.Operand.TheVariants.{First, Second}
pub use Rattle.nef_result.specs.Begun.{AreBegun, AreFilledTo, AreThere, HasNamed, IsAdded, IsFilledAt, NamesVertex, vertex_at}
pub use Rattle.law_geometry.specs.sphere.Forms.{axes}
pub use Rattle.nef_result.specs.Ends.{AreFrameCorners, FrameCorner, IsFrameCornerOf, IsWall, all_ends, ends, frame_end}
pub use Rattle.nef_result.specs.Givens.{given_of, moved_if, moved_of}
pub use Rattle.nef_result.specs.Halves.{IsMapOfPlane, inside_label}
pub use Rattle.nef_result.specs.Laws.{CornersAreShown, CornersAreVertices}
pub use Rattle.nef_result.specs.Outcomes.{AreOutcomesOf, IsOtherOf, IsOutcomeAt, of_operand}
pub use Rattle.nef_result.specs.Planes.{sorted_sides}
pub use Rattle.nef_result.specs.Results.{ArePlanesInOrder, ArePlanesMerged, ArePointsInOrder, IsUnion}
