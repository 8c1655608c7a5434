-- The names that most proofs cite, passed on from one place. Declares nothing.
pub use Rattle.nef_conn.proofs.Prelude.{Arc, AreTiedItems, Bool, Chained, Complex, Edge, EdgeWays, FacetLink, FlatDim-by_germs, Form, Germ, HasEnds, IsBetween, IsChain, IsCorner, IsCornerAt, IsDirection, IsFirstInPlane, IsInFacetOf, IsNormal, IsOpposite, IsTied, Item, Label, LinkAcross, LinkAlong, List, Map, MapVertex, NearLabel, OnItem, Out, PlaneMeet, RayNames, SameDirection, SameDirection-trans, SameDirection-turned, SameGerms, SamePoint, Set, Shows, SpacePoint, Valid, Vector, Vertex, [], across-tied, ahead, ahead-back, ahead-same, along-tied, amount, ap, arc-at, arc_item, arith, at, at-arc, between-turned, blend, carriers, cases_order, close_way, cross, dir-self, direction-around, direction-left, direction-right, dot, dot-comb, dot-comm, dot-opposite, dot-zero, edge-ways, end-level, ends-of, ends-tied, facet-near, false, far-keeps, flats-carried, form_at, forms, inl, inr, ints, is-at_first, is-at_none, item_normal, item_plane, items, joined-germs, label-one, labels-by_germs, length, level-of_opposite, level-way, map, meets_edge, meets_vertex, nat_abs, near-ahead, near-label, neg, neg_ℤ, normal-is, normal_of, nought-if, num, on-close, on-direction, on-level, on_item-way, opposite, opposite-same, opposite-turned, opposite-way, plane-ahead, plane-back, plane-onward, plane_dir, plane_through, point-toward, point_below-apart, pos, refl, ring, same-minus, same-plus, same-point_sym, sign, sloop_item, slope, square-cross, steep, subst, suc, svertex-edge, sym, target-met, through-at, through-level, through-same, tied-ahead, tied-both, tied-close_way, tied-turn, tied-turned, toward, triple, true, turn-same, zero, ℕ, ℤ, ⊎_elim, ◌*ℤ◌, ◌++◌, ◌+ℤ◌, ◌+◌, ◌<ℤ◌, ◌<◌, ◌∙◌, ◌∷◌, ◌≡◌, ◌≤◌, ◌⊎◌, ◌⊕◌, ◌⊗◌}
pub use Rattle.nef_classes.proofs.Prelude.{AreNumbers, AreTied, AreTiedWithin, HasCounts, IfOk, IsCellIn}
pub use Rattle.nef_smap.proofs.Prelude.{chain-link, chain-map, chain-trans, chain-turned}
pub use Rattle.nef_complex.proofs.Prelude.{AreHolders, Contains, Either, Err, Global, IsAt, None, Ok, Option, Plane, Result, ShowsSet, Some, Vec, append_assoc, complex_of, earlier, edge_of, eq-or-lt_of_le, form_of, get_or, get_or_from_slice_get, is-at_pushed, is-at_get, is-at_is, is-at_last, is-at_left, is-at_one, is-at_some, is-at_within, item_mark, last, length-append, length-set, map_of, not_true, point_of, set, slice_get, take, take_all, vector_of, vertex_of, ◌^◌, ◌↔◌, ◌≢◌}
pub use Rattle.nef_plane.proofs.Prelude.{FromVertex, HasNoSvertex, plane_dir_limit, ray_limit}
pub use Rattle.nef_locate.proofs.Prelude.{IsAtMost, MapSloop, MatchOption, SArc, arc_of, corner_of, high-within, item_of, low-within, map-is_at, meet_of, opposites-same}
pub use Rattle.std.proofs.Common.{replicate}
pub use Rattle.std.proofs.Math.ListN.{length-map}
pub use Rattle.std.proofs.lemmas.List.{get_or-replicate, length-replicate}
pub use Rattle.std.specs.List.{All}
pub use Rattle.law_geometry.specs.complex.links.Links.{AreAlong}
pub use Rattle.nef_conn.proofs.OneNamed.{one-met, one-named, one-vertex}
pub use Rattle.nef_space.proofs.Chains.{chain-here}
pub use Rattle.nef_classes.proofs.Writes.{set-at, set-other, set-same}
pub use Rattle.nef_classes.specs.declared.table.Cell.{Cell}
pub use Rattle.nef_classes.specs.declared.table.Tie.{Tie}
pub use Rattle.nef_smap.proofs.Found.{all-none, next-none, read}
pub use Rattle.nef_smap.proofs.Lists.{at-contains, contains-at}
pub use Rattle.nef_smap.proofs.SideLists.{is-at_parts}
pub use Rattle.nef_complex.proofs.Reading.{none-more}
pub use Rattle.nef_complex.specs.Cycles.{Cycles, IsCornerBelow, IsCycle, IsCycleBelow, IsNextArc, Leads, NextCorner, StepsTo}
pub use Rattle.nef_complex.specs.Numbers.{FacetNumbers, IsFacetOf, count_items, cycle_corners}
pub use Rattle.nef_complex.specs.declared.complex.Corner.{Corner}
pub use Rattle.nef_complex.specs.declared.parts.Cycle.{Cycle}
pub use Rattle.nef_edges.proofs.Places.{at-read}
pub use Rattle.nef_facets.specs.Corners.{AreCorners, CornersAreInOrder, HasItem, StandFrom, corner_from, corners_at}
pub use Rattle.nef_facets.specs.Facets.{AreFirsts, IsFacetParts, IsMarkAt, IsPlaneAt}
pub use Rattle.nef_facets.specs.Next.{AreNext, HasNext, IsArcInto, LeavesFrom}
pub use Rattle.nef_facets.specs.Orbits.{AreCornersOf, AreCycleRows, AreMarked, AreNumberedOrbits, AreOrbits, ComesBack, IsClosedUnderSteps, IsCycleOf, IsOrbit, IsStep, StepsOver}
pub use Rattle.nef_facets.specs.Ties.{Adds, Any, AreArcsAlong, IsLinkedFrom, IsNamedFrom, IsTieAcross, IsTieAlong, IsTieFromArc, IsTieOfEdge, cell_of, corner_at, edge_tie}
pub use Rattle.nef_space.proofs.Lists.{is-at_map}
