-- The names that most proofs cite, passed on from one place. Declares nothing.
pub use Rattle.nef_space.proofs.Prelude.{fits_signed_from_abs, ltb}
pub use Rattle.nef_geo.proofs.Prelude.{HasOppositeSigns, IsPointBelow, IsSamePlane, MatchOrdering, false≢true, form_numbers, form_of, int_cmp, int_ranks, on_total, ordering_then, point_limit, point_of, pos-abs, w64, weight_limit}
pub use Rattle.law_geometry.proofs.complex.Prelude.{Corner, FlatDim, FlatDim-one, Form, HasEnds, InClosedFrame, IsBetween, IsCorner, IsEdgePoint, IsMixed, IsSkeletonIn, IsVertexPoint, Poly, SamePoint, Set, Shows, SpacePoint, between-turned, carriers, cases_order, facet-support, follows_times, form-sum, form_at, half_side, in-span, is-at_first, is-at_none, meets_edge, meets_vertex, mixed-of, normal_of, of_point, reach_all, same-point_sym, sign, slope, slope-toward, start, start-toward, toward, toward-point}
pub use Rattle.law_geometry.proofs.complex.links.Prelude.{ahead, edge-points, in-facet, item-point, keeps-all, near-ahead, near-germ, step-within}
pub use Rattle.nef_classes.proofs.Prelude.{append-nil, drop, get_or_from_slice_get, length-set, set, slice_get_within, take_all}
pub use Rattle.nef_smap.proofs.Prelude.{Bool, Contains, Decides-int_eq, Either, Err, Global, IfSome, IsAt, IsBelow, IsDirection, IsNormal, IsTotalOrder, IsTrue, IsZero, Item, List, Map, None, Ok, Option, Out, Result, SameDirection, SameDirection-trans, SameDirection-turned, Some, Vec, Vector, Zero, [], ap, arith, at, by_order, by_side, cases_lt, cond, cross, cross-turned, dedup, direction-left, dot, earlier, eq-or-lt_of_le, eqb-true, false, follows, get_or, given, inl, inr, ints, is-at_pushed, is-at_get, is-at_is, is-at_last, is-at_left, is-at_some, is-at_within, is_eq, is_some, item_mark, item_neg, item_normal, item_pos, items, last, length, length-append, map, map_of, mul_neg, mul_nonneg, mul_pos, nat_abs, near-item, neg, neg_ℤ, negsuc, none, not_true, nought-is, nought-or, num, of_z, pos, refl, ring, rules, sign_of, slice_get, slice_get-get_or, slice_get_read, subst, suc, sym, take, to_z, to_z-of_z, triple, true, vector_of, zero, zero-decided, ℕ, ℤ, ⊎_elim, ◌*ℤ◌, ◌*◌, ◌++◌, ◌+ℤ◌, ◌+◌, ◌-ℤ◌, ◌-◌, ◌/◌, ◌<ℤ◌, ◌<◌, ◌^◌, ◌↔◌, ◌∙◌, ◌∷◌, ◌≡◌, ◌≢◌, ◌≤ℤ◌, ◌≤◌, ◌⊎◌, ◌⊕◌, ◌⊖◌, ◌⊗◌}
pub use Rattle.std.proofs.Common.{HoldsAt, IfErr, append_assoc}
pub use Rattle.std.proofs.Math.Dec.{eqb}
pub use Rattle.std.proofs.lemmas.Bool.{ltb-true}
pub use Rattle.std.proofs.lemmas.Bool.Decides.{Decides-and}
pub use Rattle.std.proofs.lemmas.Cmp.{by_ranked}
pub use Rattle.std.proofs.lemmas.Fn.{always_returns_same}
pub use Rattle.std.proofs.lemmas.List.{length-drop}
pub use Rattle.std.proofs.lemmas.List.Sorted.{Contains-permutation, IsPermutation-sym, searchable_from_sorted}
pub use Rattle.std.specs.Int.{int_div_euclid}
pub use Rattle.std.specs.List.Sorted.{IsBinarySearchResult, IsNonDecreasingBy, IsPartitionPoint, IsPermutation, IsSearchInRange, IsSorted}
pub use Rattle.std.specs.Ordering.{nat_cmp, ordering_index, ordering_reverse}
pub use Rattle.std.specs.Vec.{vec_len}
pub use Rattle.std.specs.declared.cmp.Ordering.{Ordering}
pub use Rattle.std.specs.declared.cmp.Ordering.TheVariants.{Equal, Greater, Less}
pub use Rattle.nef_space.proofs.Order.{lt_by}
pub use Rattle.law_geometry.proofs.near.PointOrder.{point_below-apart, point_below-same, point_below-trans, same-point_below}
pub use Rattle.law_geometry.proofs.near.Rays.{slope-zero}
pub use Rattle.nef_geo.proofs.Orders.{IsPlaneBelow, plane-ordered, plane_order, plane_total}
pub use Rattle.nef_geo.proofs.Unique.{same_planes_equal, same_points_equal}
pub use Rattle.nef_geo.specs.declared.plane.Plane.{Plane}
pub use Rattle.nef_geo.specs.declared.point.Point.{Point}
pub use Rattle.law_geometry.proofs.complex.Planes.{plane-point, plane-slope, plane-turned, plane-way}
pub use Rattle.law_geometry.specs.complex.Complexes.{IsEdgeBelow}
pub use Rattle.law_geometry.specs.complex.Spans.{Coordinate, EachPointOn, EachVertexOn, IsWithin, coordinate_of, coordinate_x, coordinate_y, coordinate_z}
pub use Rattle.nef_classes.proofs.ClassLists.{is-at_take}
pub use Rattle.nef_smap.proofs.SortedOnce.{sorted-from_order}
pub use Rattle.std.proofs.lemmas.Option.{slice_get-map}
pub use Rattle.std.specs.Prelude.{option_map}
pub use Rattle.nef_index.specs.Carriers.{AreHolders, AreInOrder, IsHolder}
pub use Rattle.nef_index.specs.Groups.{IsInCluster, IsInGroup, StandsIn}
pub use Rattle.nef_index.specs.Index.{AreCarrierSpans, AreClusters, AreEndHolders, ArePointHolders, ArePointSpans, AreSpanned, HoldsPointsOn}
pub use Rattle.nef_index.specs.Numbers.{AreNumbersOf, AreNumbersWith, DoRise, HasEntry}
pub use Rattle.nef_index.specs.Peaks.{ArePeaks, EndBelow}
pub use Rattle.nef_index.specs.Skeleton.{HaveEnds, HoldsBoth, IsEdgeIn, IsPointOn, IndexedLists}
pub use Rattle.nef_index.specs.Spans.{IsInSpan, IsNarrower}
pub use Rattle.nef_index.specs.Tables.{AreRead}
pub use Rattle.nef_index.specs.declared.groups.Cluster.{Cluster}
pub use Rattle.nef_index.specs.declared.groups.Group.{Group}
pub use Rattle.nef_index.specs.declared.skeleton.Edge.{Edge}
pub use Rattle.nef_index.specs.declared.spans.Bounds.{Bounds}
pub use Rattle.nef_index.specs.declared.spans.Span.{Span}
pub use Rattle.nef_complex.specs.Complexes.{AreAbove, AreBelow, AreSorted, LiesOutside, ShowsSet, complex_of, edge_of, vertex_of}
pub use Rattle.nef_complex.specs.Index.{AreAlone, AreItemFlags, AreSpans, AreVertexHolders, EdgeLiesIn, HasItemIn, HasNormal, IsSpanOn, ItemsAreHeld, LiesOn, points_of, indexed_lists}
pub use Rattle.nef_complex.specs.Taken.{AreAdded, AreTaken, IsRowAdded, IsSourceAmong, StandsAmong}
pub use Rattle.nef_complex.specs.declared.complex.Complex.{Complex}
pub use Rattle.nef_complex.specs.declared.complex.Vertex.{Vertex}
pub use Rattle.nef_space.proofs.Lists.{is-at_one, is-at_read, is-at_map, map-is_at}
