-- The names that most proofs cite, passed on from one place. Declares nothing.
pub use Rattle.nef_core.proofs.Prelude.{lt-ltb, nat_lt}
pub use Rattle.law_geometry.proofs.complex.Prelude.{Arc, Cone, Germ-unique, HasEnds, Holds, In, IsCornerAt, IsEdge, IsFacetPoint, IsFirstInPlane, IsNormal, IsOnEdges, IsOpposite, IsStrictlyOn, Least, Lies, LiesIn, Meets, NearLabel, NearPlain, NearStraight, PlaneMeet, Shaped, Sign, amount, by_side, carriers, cross-turned, dir-at, direction-right, dot-comb, dot-zero, is-at_first, is-at_none, item_mark, minus, nought, nought-if, parallel-both, plus, same-minus, self-pos, sign, sign-minus, sign-plus, sign_at, slope, triple, turn-same, ◌&&◌}
pub use Rattle.law_geometry.proofs.turns.Prelude.{ArcBelow, ArcBetween, HasArc, IsClear, IsPointBelow, IsPrimitive, IsTurnedArc, IsTurnedItem, IsTurnedMap, MapSloop, Not, Ordered, Reaches, SameSet, VectorBelow, differ, directly, is_odd, turned_point, turned_set, turned_svertex, turned_vector, unturned_vector, whole, ◌%◌, ◌/◌}
pub use Rattle.nef_smap.proofs.Prelude.{Near, direction_limit, eq-eqb, nat_eq}
pub use Rattle.nef_complex.proofs.Prelude.{ltb, ltb-true, weight_limit}
pub use Rattle.nef_result.proofs.Prelude.{Edges, FrameCorner, IsFrameCornerAt, Point, all_ends, axes, ends, frame-minus, frame_end, minus-is, point_limit, sign-neg, sign_turned}
pub use Rattle.nef_unique.proofs.Prelude.{Dir, FlatDim-by_cone, IsEdgeBelow, SLoop, cone-unique, cones-of_same, option_map, point_below-trans, same-lists, same_points_equal, sloop_of}
pub use Rattle.nef_facets.proofs.Prelude.{All, AreAlong, IsCornerBelow, IsCycleBelow, IsNextArc, Leads, LinkAcross, NextCorner, SArc, StepsTo, append_assoc, arc_of, map-is_at, close_way, end-level, form_of, is-at_map, on-close, point_below-apart, ◌^◌}
pub use Rattle.nef_volumes.proofs.Prelude.{AreSfaces, AreSidesAlong, Bool, Chained, Complex, Corner, Cycle, Cycles, Edge, Facet, FacetLink, FacetNumbers, Form, Germ, HasCorner, HasLabel, HasRows, HasSide, HasSideLabel, InFrame, InOneSface, InOrder, IsAbove, IsAhead, IsAt, IsBelow, IsBetween, IsCorner, IsCycle, IsDirection, IsEdgePoint, IsFacet, IsFacetAt, IsFacetOf, IsFree, IsInTable, IsNameBelow, IsParts, IsShell, IsShellBelow, IsSideBelow, IsSideListed, IsSideNamed, IsSideNumber, IsSkeletonPoint, IsSpot, IsVertex, IsVolumeOf, IsZero, Item, Label, LinkAcrossFacet, LinkAlong, LinkDown, LinkInSface, List, Map, MapLabel, MapVertex, None, NumbersClasses, OnItem, Option, Out, Parts, Plane, RayDown, RayNames, SVertex, SameDirection, SameDirection-trans, SameDirection-turned, SamePoint, SeeOneWay, Sees, Set, Shell, ShellLink, Shells, Shows, ShowsSet, Side, Some, SpacePoint, Spot, Vector, Vertex, VertexSide, VolumeLink, VolumeNumbers, [], ap, arc_item, arith, around_ends, around_svertex, at, at-arc, at_vertex, blend, by_order, chain-here, chain-link, chain-map, chain-trans, chain-turned, complex_of, cond, corner_of, count_items, count_sides, cross, cycle_corners, dir-self, dir_of, dot, drop, edge_of, facet-of, false, form_at, get_or, here, in_facet, inl, inr, ints, is-at_one, is-at_some, is-at_within, item_neg, item_normal, item_pos, items, length, length-map, link, map, meets_edge, meets_vertex, mul_pos, nat_abs, neg, neg_arcs, neg_item, neg_of, neg_ℤ, negsuc, normal-is, normal_of, num, number-one, on_edge, point_of, pos, pos_arcs, pos_item, pos_of, refl, ring, shell_sides, side-has, side-number, side_number, sides_of, slice_get, subst, suc, svertex_of, sym, toward, true, vector, vertex_of, zero, ℕ, ℤ, ⊎_elim, ◌*ℤ◌, ◌*◌, ◌++◌, ◌+ℤ◌, ◌+◌, ◌<ℤ◌, ◌<◌, ◌==◌, ◌↔◌, ◌∙◌, ◌∷◌, ◌≡◌, ◌≤◌, ◌⊎◌, ◌⊕◌, ◌⊖◌, ◌⊗◌}
pub use Rattle.std.proofs.Common.{codes, eqb, option_to_list}
pub use Rattle.std.proofs.lemmas.List.{map-id}
pub use Rattle.std.specs.Fmt.{decimal, digit_glyph, digits_onto, signed_decimal}
pub use Rattle.std.specs.List.{flat_map}
pub use Rattle.nef_space.specs.Limits.{offset_limit}
pub use Rattle.law_geometry.specs.complex.Belongs.{Belongs, SeesSpot, SpotMark, Towards, off_skeleton, on_skeleton}
pub use Rattle.law_geometry.specs.complex.links.Links.{LinkAlongEdge}
pub use Rattle.law_geometry.proofs.turns.Bools.{Both, each-bool, each-three, of_three}
pub use Rattle.law_geometry.proofs.turns.TurnedMaps.{cone-turned, image, image_back, item-on, least-turned}
pub use Rattle.nef_core.specs.declared.work.TextVersion.{TextVersion}
pub use Rattle.nef_core.specs.declared.work.TextVersion.TheVariants.{One, Two}
pub use Rattle.nef_complex.specs.Numbers.{IsVolume}
pub use Rattle.nef_complex.specs.Text.{Spells, Word, arc_line, corner_words, counts, cycle_line, edge_line, faced_text, facet_line, facet_text, first_line, label_word, line, numbers, option_word, plane_words, sface_line, shell_line, shelled_text, side_words, signed_numbers, sloop_line, svertex_line, text, version_word, vertex_line, vertex_text, vertices_text, volume_line, volumes_text, with_rows}
pub use Rattle.nef_result.proofs.CornerCones.{axis_of}
pub use Rattle.nef_result.proofs.CornerPoints.{corner-is, corner-same, corner_point}
pub use Rattle.nef_result.proofs.CornerVertices.{corner-vertex, inward, inward_way, is_high_on, leads-in, through, vertex-corner}
pub use Rattle.nef_result.proofs.InOrder.{corner-below, ends-order, in-order, same-corner}
pub use Rattle.nef_result.proofs.Walls.{Axis, IsOneLabelSet, empty-whole, full-whole, germ-inward, germ-outward, on_x, on_y, on_z, wall, wall-listed}
pub use Rattle.nef_unique.proofs.Injective.{arc-equal, map-equal, map-one, sloop-equal, svertex-equal, vertex-equal}
pub use Rattle.nef_unique.proofs.Vertices.{cone-carried, edges-one, set-vertices}
pub use Rattle.nef_facets.proofs.NextCorners.{arc-no_sloop, next-linked}
pub use Rattle.law_geometry.proofs.complex.FacetEnds.{level-normal}
pub use Rattle.nef_star.proofs.RoundStars.{same-dirs}
