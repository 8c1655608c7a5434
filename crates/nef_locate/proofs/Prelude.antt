-- The names that most proofs cite, passed on from one place. Declares nothing.
pub use Rattle.nef_geo.proofs.Prelude.{IsVertical, int_ranked}
pub use Rattle.law_geometry.proofs.sphere.Prelude.{BoundsSector, FlatMap, IsLastSide, combination, is-at_first, is-at_none}
pub use Rattle.law_geometry.proofs.sphere.building.Prelude.{ArcBelow, IsBuilt, IsLabelling, NoneSmooth, Of, Proper, StraightAfter, below-itself, cross-opposite, level-opposite, lowest-same, normals-not_opposite, opposite-twice, opposites, plain, search_list}
pub use Rattle.law_geometry.proofs.complex.Prelude.{Cone, Corner, Drop, FlatDim, Germ, Germ-unique, HasCorner, HasLabel, InFrame, InFrame-decided, IsArcOnSide, IsCorner, IsCornerAt, IsFlatIn, IsSkeletonIn, IsSkeletonPoint, IsSpot, Label-cells, PlaneMeet, SameUpToFactor, Spot, Vertex, at_vertex, cancel_le, decided-both, direction-opposite, even-germs, even-until, facet-support, factor-same, far-from_near, flat-germ, germs-by_cell, in_facet, item_plane, label-direction, label-unique, label_of, minus, mul_le_right, near-unique, normal-direction, nought, of_direction, on_edge, plus, sign_at, signs-same, span-3, step, turn-last}
pub use Rattle.nef_smap.proofs.Prelude.{Arc, ArcBetween, ArcRay, Bool, Decides-int_eq, Dir, Equal, FitsSigned, Global, Greater, HasArc, HasSide, IfOk-weaker, IfSome, InOrder, IsAt, IsAtMost, IsDirection, IsFree, IsNormal, IsOpposite, IsPrimitive, IsSide, IsSmall, IsSmooth, IsSphereMap, IsStrictlyOn, IsTrue, IsZero, Item, Label, LabelledSide, Least, Less, Lies, List, Map, MapLabel, MapSloop, MapVertex, Minus, Near, NearLabel, None, OnItem, OnItem-by_signs, Option, Ordered, Ordering, Out, Plus, SameDirection, SameDirection-decided, SameDirection-trans, SameDirection-turned, SameSigns, Shaped, Side, SideSees, Some, StraightAt, Unrayed, Valid, Vec, Vector, VectorBelow, Zero, [], amount, ap, arc-at, arc_item, arc_of, arith, around_svertex, arounds_before, at, at-arc, at_svertex, blend, blend-turned, by_order, by_side, cancel_eq, cancel_lt, cases_lt, cond, cross, cross-between, cross-direction_left, cross-none, cross-turned, dir-at, dir-self, dir-signs, dir_of, direction-by, direction-left, direction-right, dot, dot-comb, dot-comm, end_left, ends-of, eq-or-lt_of_le, exact_of, false, far-keeps, far-level, fits_of, follows, forms, get_or, given, inl, inr, int_eq, ints, is-at_get, is-at_within, is_lt, item_mark, item_neg, item_normal, item_of, item_pos, items, label-by_signs, left-on, length, length-map, load, map, map_of, mul_neg, mul_nonneg, mul_pos, nat_abs, nat_eq, near-from_far, near-item, near-lone, neg, neg_item, neg_ℤ, negsuc, none, normal_limit, not_true, nought-if, nought-is, nought-or, num, of_z, on-end, on-level, on_item, opposite, opposite-dot, pos, pos_item, ray_left, refl, ring, rules, same-minus, same-nought, same-off, same-plus, seen, self-pos, side_number, sides_of, sign-minus, sign-plus, sign-scaled, sign_of, slice_get, sloop-at, sloop_item, sloop_of, square-cross, straight, subst, suc, svertex_limit, svertex_of, sym, to_z, to_z-of_z, triple, triple-in_plane, true, true_of, up, vector, vector-same, vector_of, wrap, zero, zero-decided, ℕ, ℤ, ⊎_elim, ◌*ℤ◌, ◌*◌, ◌++◌, ◌+ℤ◌, ◌+◌, ◌-ℤ◌, ◌-◌, ◌/◌, ◌<ℤ◌, ◌<◌, ◌↔◌, ◌∙◌, ◌∷◌, ◌≡◌, ◌≢◌, ◌≤ℤ◌, ◌≤◌, ◌⊎◌, ◌⊕◌, ◌⊖◌, ◌⊗◌, ◌⊠◌}
pub use Rattle.nef_spair.proofs.Prelude.{AreApart, IsArcBelow, IsLeastMap, IsTwin, MatchOption, SArc, SLoop, SphereMap, level-of_opposite, level-opposite-back}
pub use Rattle.nef_complex.proofs.Prelude.{AreAbove, AreBelow, AreSorted, AreSpans, Coordinate, HasItemIn, IsPermutation, IsWithin, MatchOrdering, ShowsSet, coordinate_of, coordinate_x, coordinate_y, coordinate_z, false≢true, int_cmp, point_below-apart, point_below-same, point_below-trans, same-point_below}
pub use Rattle.nef_plane.proofs.Prelude.{AllThrough, AreAlone, AreNumbersWith, Code, Complex, Edge, EdgeLiesIn, EndBelow, Flat, Form, Hit, InClosedFrame, IsAhead, IsBetween, IsCrossing, IsEdge, IsEdgePoint, IsFirstInPlane, IsInSpan, IsNarrower, IsPointBelow, IsVertexPoint, LiesIn, LiesOn, Limited, Meets, Plane, Point, SamePlane, SamePoint, Set, Shows, Sign, SpacePoint, Span, ahead-back, aligned, apart, is-at_map, beside_x, beside_y, between-ends, between-inner, between-turned, between-way, carriers, complex_of, cross-back, edge-inside, edge-points, edge_of, ends, form_at, form_of, half_side, held-between, high-within, hit_point, is-at_one, level-way, listed_edge, low-within, map-is_at, meet_of, meets_edge, meets_vertex, normal_of, one-crossing, opposite-same, plane-point, plane-slope, plane-turned, plane-way, plane_axis, plane_through, point-toward, point_limit, point_of, pos-abs, same-point_sym, sign, sign_of-negative, sign_of-positive, slope, span-between, span-same, through-at, toward, upright_weight_limit, vertex-same, vertex_of, w64, weight_limit, zero_sign, ◌&&◌}
pub use Rattle.law_geometry.proofs.near.Rays.{Germ-same}
pub use Rattle.law_geometry.proofs.sphere.Labels.{near-direction}
pub use Rattle.law_geometry.proofs.sphere.SectorSees.{turn-from_left}
pub use Rattle.law_geometry.proofs.sphere.Sectors.{bounds-sees, unrayed-ahead}
pub use Rattle.law_geometry.proofs.sphere.Walk.{cross-direction_right}
pub use Rattle.law_geometry.proofs.sphere.building.BuiltLabels.{labels-build, straight-from}
pub use Rattle.law_geometry.proofs.complex.Cones.{FlatAre, germ-label, label-germ}
pub use Rattle.law_geometry.proofs.complex.Edges.{IsAlongSvertex, along-svertex, corner-one, near-between, near_point}
pub use Rattle.law_geometry.proofs.complex.EqualPoints.{ahead-from, closed-same, corner-same, edge-same, flat-same, point-same}
pub use Rattle.law_geometry.proofs.complex.FacetEdges.{arc-beside, low-end, way-is}
pub use Rattle.law_geometry.proofs.complex.FacetEnds.{facet-behind, facet-from_behind, item-seen}
pub use Rattle.law_geometry.proofs.complex.FacetNames.{axis-in, facet-at, facet-of, facets-complete, normal-scaled, through-level}
pub use Rattle.law_geometry.proofs.complex.FacetWays.{end-meets, even-by, flat-onto, meets-on, plane-ahead, plane-onward}
pub use Rattle.law_geometry.proofs.complex.Skeletons.{free-flat, free-way, spot-mark, spot-toward, way-ends}
pub use Rattle.law_geometry.proofs.complex.Ways.{between-start, opposed}
pub use Rattle.law_geometry.specs.complex.Rays.{HasVolumeSide, IsAbove, RayDown}
pub use Rattle.nef_smap.proofs.SideLists.{is-at_some, side-has}
pub use Rattle.nef_smap.proofs.SideNumbers.{side-number}
pub use Rattle.nef_smap.specs.Items.{IsItemThrough}
pub use Rattle.nef_smap.specs.declared.map.SVertex.{SVertex}
pub use Rattle.nef_complex.proofs.Framed.{skeleton-framed}
pub use Rattle.nef_complex.proofs.Outside.{no_span}
pub use Rattle.nef_complex.proofs.Spanned.{spanned}
pub use Rattle.nef_complex.specs.Complexes.{corner_of}
pub use Rattle.nef_edges.proofs.Rays.{ahead-normal, from_opposite, opposites-same, to_opposite}
pub use Rattle.nef_plane.proofs.Crossed.{edge-along, edge-carried}
pub use Rattle.nef_plane.proofs.Listed.{edge-lies, lies, lying-ends}
pub use Rattle.nef_locate.specs.Ends.{IsLast, IsLastArc, IsNoArc, end_of}
pub use Rattle.nef_locate.specs.Facets.{HasMet, IsArcBeside}
pub use Rattle.nef_locate.specs.Frames.{IsAmidWindow, IsFramedIn, IsInsideBounds, LiesBetween}
pub use Rattle.nef_locate.specs.Halves.{AreHalves, IsHalf, IsHalfBefore, IsHalfEndAt, two_ends}
pub use Rattle.nef_locate.specs.Orders.{AreThroughEnds, PartsOn}
pub use Rattle.nef_locate.specs.Places.{IsFirstHit, IsPlaceAt, IsPlaceIn, IsPlaceLabel, IsPlaneOf, place_dimension}
pub use Rattle.nef_locate.specs.Rays.{HasNoneOn, HasNoneOnCarrier, HasNotAt, HasNotAtCarrier, IsMet, IsNotBefore, IsReachedMet, IsSideAbove, IsSkeletonAt, IsSooner}
pub use Rattle.nef_locate.specs.declared.beam.MetPlace.{MetPlace}
pub use Rattle.nef_space.proofs.Lists.{is-at_last, is-at_left, is-at_more, is-at_read}
pub use Rattle.nef_space.proofs.Elementary.{weight-positive}
pub use Rattle.law_geometry.proofs.near.Normals.{toward-normal, normal-kept}
pub use Rattle.law_geometry.proofs.near.Same.{level-same_point}
