-- The names that most clauses cite, passed on from one place. Declares nothing.
pub use Rattle.nef_space.specs.Prelude.{All, Bool, false, string_bytes, vec_len}
pub use Rattle.nef_geo.specs.Prelude.{HasLabel, IfErr, IfOk, IfSome, IsAhead, IsAt, IsAtMost, IsCrossing, IsDirection, IsNone, IsNormal, IsPointAtMost, IsPointBelow, IsReached, IsTrue, IsVertical, Label, List, MatchOrdering, None, OnOk, SameDirection, SamePoint, Set, Some, SpacePoint, Vector, [], cond, direction_limit, dot, form_at, form_of, given_form, hit_point, int_cmp, length, map, most_stairs, nat_abs, normal_limit, normal_of, opposite, option_map, point_limit, point_of, pos, ray_direction_limit, ray_limit, sign_of, slice_get, slope, take, true, up, upright_limit, upright_weight_limit, vector_of, weight_limit, ℕ}
pub use Rattle.nef_smap.specs.Prelude.{Item, MapVertex, Side, item_normal, items}
pub use Rattle.std.specs.Fmt.{signed_decimal}
pub use Rattle.std.specs.List.Sorted.{IsSortedBy}
pub use Rattle.std.specs.Option.{MatchOption, option_copied}
pub use Rattle.std.specs.Ordering.{nat_cmp, ordering_then}
pub use Rattle.std.specs.Prelude.{IsErr, IsOk, decimal, flat_map, min, slice_set}
pub use Rattle.std.specs.Process.{exit_status}
pub use Rattle.nef_space.specs.Limits.{half_side, ray_point_limit, ray_weight_limit}
pub use Rattle.nef_space.specs.Local.{FlatDim, Germ, IsVertex, Joined, SameSet}
pub use Rattle.nef_space.specs.Points.{Form, InClosedFrame, InFrame}
pub use Rattle.nef_space.specs.Signs.{Lies}
pub use Rattle.nef_space.specs.declared.label.Label.TheVariants.{In, Not, Out}
pub use Rattle.nef_geo.specs.Shapes.{point_at}
pub use Rattle.nef_geo.specs.Widths.{ratio_limit}
pub use Rattle.nef_geo.specs.declared.plane.Plane.{Plane}
pub use Rattle.nef_geo.specs.declared.point.Point.{Point}
pub use Rattle.law_geometry.specs.sphere.Least.{Cone, Ordered}
pub use Rattle.law_geometry.specs.sphere.Maps.{Shaped, dir_of}
pub use Rattle.law_geometry.specs.sphere.Sectors.{BoundsSector}
pub use Rattle.law_geometry.specs.complex.Complexes.{Corner, Edges, IsCorner}
pub use Rattle.law_geometry.specs.complex.Laws.{IsFlatIn, IsSkeletonIn, IsVertexOfBoth}
pub use Rattle.law_geometry.specs.complex.Shows.{Carriers, SamePlane}
pub use Rattle.law_geometry.specs.complex.Skeleton.{HasCorner, IsCornerAt, IsEdgePoint, IsFirstInPlane, IsOnEdges, IsSkeletonPoint, IsVertexPoint, Meets, PlaneMeet}
pub use Rattle.law_geometry.specs.complex.Spans.{coordinate_of}
pub use Rattle.nef_index.specs.Carriers.{AreHolders, AreInOrder}
pub use Rattle.nef_index.specs.Index.{AreClusters}
pub use Rattle.nef_index.specs.Numbers.{AreNumbersOf, AreNumbersWith}
pub use Rattle.nef_index.specs.Peaks.{ArePeaks, EndBelow}
pub use Rattle.nef_index.specs.Skeleton.{HaveEnds, HoldsBoth, IndexedLists}
pub use Rattle.nef_index.specs.Spans.{AreSmallBounds, IsInSpan, IsNarrower}
pub use Rattle.nef_index.specs.declared.skeleton.Edge.{Edge}
pub use Rattle.nef_complex.specs.Complexes.{AreAbove, AreBelow, AreSorted, AreVerticesOf, IsIndexed, ShowsSet, complex_of, corner_of, edge_of, meet_of, vertex_of}
pub use Rattle.nef_complex.specs.Cycles.{Leads}
pub use Rattle.nef_complex.specs.Index.{AreAlone, AreFlagged, AreHoldersAlong, AreItemFlags, AreSpans, AreVertexHolders, EdgeLiesIn, HasItemIn, ItemsAreHeld, LiesOn, points_of, indexed_lists}
pub use Rattle.nef_complex.specs.Numbers.{FacetNumbers, IsFacetOf, IsParts, IsVolumeOf, VolumeNumbers, count_items}
pub use Rattle.nef_complex.specs.Shells.{SfaceNumbers}
pub use Rattle.nef_complex.specs.Taken.{AreAdded, IsRowAdded, IsSourceAmong}
pub use Rattle.nef_complex.specs.Text.{Text, arc_line, cycle_line, dir_words, edge_line, facet_text, first_line, label_word, option_word, plane_words, point_words, sface_line, shell_line, sloop_line, svertex_line, text, vertex_text, vertices_text, volumes_text}
pub use Rattle.nef_complex.specs.declared.complex.Vertex.{Vertex}
