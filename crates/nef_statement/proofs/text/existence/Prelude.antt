-- The names that most proofs cite, passed on from one place. Declares nothing.
pub use Rattle.law_geometry.proofs.near.Prelude.{IsMeet, IsOnSegment, SameSigns, parallel-both}
pub use Rattle.nef_geo.proofs.Prelude.{DividesAll, IsGcd, IsGcd-from_sub, IsGcd-from_zero, IsGcd-swap, IsReduced, IsSameRatios, mul-le, offset_limit, point_limit, unsigned_abs-mul, weight_limit}
pub use Rattle.law_geometry.proofs.turns.Prelude.{Carriers, Cone, Mapped, SamePlane, Sorted, Triple, at-lies, at-sloop, chain-order, form_numbers, is-at_first, is-at_none, lies-at, map-list, negated_if, signed, signed_form, sort, turned_plane, turned_set}
pub use Rattle.law_geometry.proofs.sphere.Prelude.{crossed, decided-not}
pub use Rattle.law_geometry.proofs.sphere.cones.Prelude.{circle-point, direction-decided, lies-pairs, lowest-same, opposite-cross, pairs, triple-cycle}
pub use Rattle.law_geometry.proofs.complex.links.Prelude.{LinkAlongEdge, minus, reach-some}
pub use Rattle.nef_conn.proofs.Prelude.{Arc, Beside, Decided, FlatDim-by_germs, In, IsEven, IsEvenPath, IsNormal, IsOpposite, IsPointBelow, Lies, LinkAcross, Not, OnItem-decided, SameDirection-decided, Shaped, Sign, Within, all-vertices, apart, arc-at, beside, carriers, cross-turned, decided-both, decided-or, decided-to, dim-cell, dir-at, dot-comm, each, ends-of, eq-decided, even-by, every, flat_dim-of, follows, form, forms, frame, germs-by_cell, given, halves, in-span, is_nought, item-forms, joined-cell, joined-even, joined-itself, keeps-all, lies-append, lies-each, lies-left, lies-right, mixed-of, near-one, near_point, none, normal-direction, normal-form, nought, nought-is, of_point, opposite-way, other_way, plane_dir, plus, point_below-trans, reach_all, same_way, search_list, self-pos, sign_at, signs-same, sloop_item, svertex-edge, triple, ◌≤ℤ◌}
pub use Rattle.nef_smap.proofs.Prelude.{AreArounds, AreEach, AreGrounds, AreJoins, AreSloops, Dir, FirstNear, IsAtMost, IsFirst, IsFirstOf, IsLowest, IsOver, IsPrimitive, JoinsArc, JoinsBelow, Least, MapSloop, Ordered, arc_of, cases_lt, chain-keeps, cross-direction_turned, direction_limit, direction_numbers, dot_size, item_mark, lit≤, meridians, met_number, normal_limit, of_z, option_map, over_forms, rise, sloop_of, svertex_limit, vector_of, whole, ◌^◌, ◌∣◌}
pub use Rattle.nef_complex.proofs.Prelude.{Point, plane-point, plane-slope, plane-turned}
pub use Rattle.nef_facets.proofs.Prelude.{AreAlong, AreCorners, AreCornersOf, AreCycleRows, AreFirsts, AreNext, AreNumberedOrbits, AreOrbits, HasItem, IsCycleOf, IsMarkAt, IsPlaneAt, IsStep, Leads, NextCorner, SArc, corner_from, corners_at, form_of, replicate}
pub use Rattle.nef_volumes.proofs.Prelude.{AreClasses, AreFacetsOf, AreLinked, AreSfaces, AreSidesAlong, AreVolumeLabels, Bool, Chained, Complex, Corner, Cycle, Cycles, Edge, Facet, FacetLink, FacetNumbers, FlatDim, FlatDim-one, Form, HasComponents, HasLabel, HasSide, HasSideLabel, HasVolumesBeside, InOneSface, InOrder, IsAt, IsAtItem, IsAtSide, IsBelow, IsBetween, IsChain, IsCorner, IsDirection, IsFacetOf, IsFacetParts, IsInTable, IsNameBelow, IsParts, IsShell, IsShellBelow, IsSideBelow, IsSideListed, IsSideNamed, IsSideNumber, IsSphereMap, IsUpright, IsVertex, IsVolumeOf, IsZero, Item, Joined, Label, LabelledSide, Link, LinkAcrossFacet, LinkInSface, LinksAreBelow, List, Map, MapVertex, None, OnItem, Option, Out, Parts, Plane, SVertex, SameDirection, SameDirection-trans, SameDirection-turned, SamePoint, Set, SfaceNumbers, Shell, ShellLink, Shells, Shows, Side, Some, SpacePoint, SphereMap, Vector, Vertex, VertexSide, VolumeLink, VolumeNumbers, [], ap, arc_item, arith, around_ends, around_svertex, at, at-arc, is-at_map, by_order, cases_order, chain-here, chain-link, chain-map, chain-trans, chain-turned, complex_of, corner_of, count_items, count_sides, cross, cycle_corners, dir-self, dir_of, dot, edge_of, false, form_at, get_or, inl, inr, ints, is-at_one, is-at_some, is-at_within, item_neg, item_normal, item_pos, items, joined-both, joined-turned, length, length-append, length-map, map, map-across, map-ahead, map-is_at, map_of, nat_abs, neg, neg_arcs, neg_item, neg_of, neg_ℤ, negsuc, normal_of, num, opposite, point_of, pos, pos_arcs, pos_item, pos_of, refl, ring, same-point_sym, same-point_trans, set, shell_sides, side-has, side-number, side_number, sides-joined, sides_of, subst, suc, svertex_of, sym, take, take_all, true, up, vector, vertex_of, zero, ℕ, ℤ, ⊎_elim, ◌*ℤ◌, ◌*◌, ◌++◌, ◌+ℤ◌, ◌+◌, ◌-◌, ◌<ℤ◌, ◌<◌, ◌↔◌, ◌∙◌, ◌∷◌, ◌≡◌, ◌≢◌, ◌≤◌, ◌⊎◌, ◌⊕◌, ◌⊖◌, ◌⊗◌}
pub use Rattle.std.proofs.lemmas.List.{length-set}
pub use Rattle.nef_geo.proofs.Divisors.{IsGcdOfFour-from_steps, IsReduced-from_parts, divides_all, part_positive, part_small, quot_exact}
pub use Rattle.nef_geo.proofs.Products.{cross_size, normal_within}
pub use Rattle.law_geometry.proofs.sphere.cones.Listing.{Chain, Collected, at-or, collect}
pub use Rattle.law_geometry.proofs.complex.Ways.{onward, onward-way}
pub use Rattle.law_geometry.specs.complex.Complexes.{Edges}
pub use Rattle.nef_conn.proofs.Steps.{joined-items_linked}
pub use Rattle.law_geometry.proofs.turns.Numbers.{at_most-turned, lowest_form-turned, normal-choice}
pub use Rattle.nef_classes.proofs.ClassLists.{IsNumberedTo, numbered-earlier, numbered-new, take-more}
pub use Rattle.nef_complex.proofs.Carried.{carried}
pub use Rattle.nef_volumes.proofs.SideLabels.{HasLeastMaps, chain-label, side-point, upright-by_maps}
pub use Rattle.nef_volumes.proofs.VolumeLabels.{numbered-side}
pub use Rattle.nef_statement.specs.text.existence.Laws.{AreCarried, AreSmallForms, AreTurnsOf, AreVertices, ComponentsAreCounted, EveryCarriedSetIsShown, EverySetHasVertices, EverySetIsShown, EveryTurnedSetIsShown, HasPlanes, IsSmallForm, IsTurnOf, JoinedIsDecided, VerticesHaveEdges}
