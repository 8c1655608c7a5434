-- The names that most proofs cite, passed on from one place. Declares nothing.
pub use Rattle.law_geometry.proofs.complex.links.Prelude.{AreSidesAlong, FlatCone, FlatCone-from_flat, Germ-zero, HasSideLabel, InOneSface, IsAtItem, IsAtSide, IsSideOf, IsUpright, Joined, LinkAcrossFacet, LinkDown, LinkInSface, LinkOutside, Ratio, Sees, VertexSide, VolumeLink, around_ends, between-same, facet-point, here, joined-both, joined-turned, link, neg_arcs, pos_arcs, slide, zero_vector}
pub use Rattle.nef_conn.proofs.Prelude.{FlatDim-one, HasComponents, IsVertex, SeenAs, at-side, facet-at, near-germ_zero, normals-same, same-point_trans, side-sees, through-same}
pub use Rattle.nef_classes.proofs.Prelude.{IsCellBelow, IsCellNumber, NumbersClasses, drop, length-take}
pub use Rattle.nef_smap.proofs.Prelude.{AreClasses, AreLinked, AreNumbered, AreRoots, AreSfaces, IsBelow, Link, LinksAreBelow, SeeOneWay, eqb_tells}
pub use Rattle.nef_complex.proofs.Prelude.{is-at_take, lt_by}
pub use Rattle.nef_locate.proofs.Prelude.{Bool, BoundsSector, Corner, FlatDim, Form, Germ, Germ-same, HasCorner, HasLabel, HasSide, IfOk-weaker, InClosedFrame, InFrame, InOrder, IsAbove, IsAhead, IsAt, IsBetween, IsCorner, IsDirection, IsEdgePoint, IsFirstHit, IsFree, IsLeastMap, IsPlaceAt, IsPlaceIn, IsSide, IsSideAbove, IsSkeletonPoint, IsSmall, IsSphereMap, IsSpot, IsVertexPoint, IsZero, Item, Label, LabelledSide, List, Map, MapLabel, MapVertex, None, OnItem, Option, Out, Plane, RayDown, SVertex, SameDirection, SameDirection-trans, SameDirection-turned, SamePoint, Set, Shows, ShowsSet, Side, SideSees, Some, SpacePoint, SphereMap, Spot, Vector, Vertex, [], ap, arc_item, arith, around_svertex, at, at-arc, is-at_map, at_svertex, at_vertex, axis-in, blend, bounds-sees, by_order, complex_of, cond, corner-same, corner_of, cross, dir-self, dir_of, dot, edge-points, edge_of, facet-of, false, form_at, free-flat, germ-label, get_or, half_side, in_facet, inl, inr, ints, is-at_get, is-at_one, is-at_within, item_neg, item_normal, item_plane, item_pos, items, label-germ, length, length-map, map, map-is_at, map_of, meets_edge, meets_vertex, mul_pos, nat_abs, neg, neg_item, neg_ℤ, negsuc, normal_of, not_true, num, on-level, on_edge, on_item, opposite, opposite-same, plane_axis, point_of, pos, pos_item, refl, ring, rules, same-point_sym, seen, side-has, side-number, side_number, sides_of, slice_get, subst, suc, svertex_of, sym, through-at, through-level, toward, true, up, vector, vertex_of, zero, ℕ, ℤ, ⊎_elim, ◌*ℤ◌, ◌*◌, ◌++◌, ◌+ℤ◌, ◌+◌, ◌-◌, ◌<ℤ◌, ◌<◌, ◌↔◌, ◌∙◌, ◌∷◌, ◌≡◌, ◌≢◌, ◌≤◌, ◌⊎◌, ◌⊕◌, ◌⊖◌, ◌⊗◌}
pub use Rattle.nef_facets.proofs.Prelude.{Adds, Any, AreNumbers, AreTied, AreTiedWithin, Cell, Chained, Complex, Contains, Cycle, Cycles, Edge, Either, Err, FacetLink, FacetNumbers, HasCounts, IfOk, IsCellIn, IsChain, IsCycle, IsFacetOf, IsFacetParts, LinkAlong, Ok, RayNames, Result, Tie, ahead, cases_order, cell_of, chain-here, chain-link, chain-map, chain-trans, chain-turned, corner_at, count_items, cycle_corners, dot-opposite, earlier, is-at_pushed, is-at_is, is-at_last, is-at_left, is-at_some, joined-germs, label-one, labels-by_germs, last, length-append, length-set, level-of_opposite, near-ahead, normal-is, one-named, one-vertex, read, set, set-at, set-other, set-same, take, take_all}
pub use Rattle.std.proofs.Common.{◌==◌}
pub use Rattle.std.proofs.lemmas.Bool.Decides.{Decides-at, Decides-eqb, Decides-like}
pub use Rattle.std.proofs.lemmas.Iterator.Adapters.{YieldsList-from_vec}
pub use Rattle.std.proofs.lemmas.Iterator.Consumers.{YieldsList-turn}
pub use Rattle.std.proofs.lemmas.List.Elements.{Contains-append_cases, Contains-append_left, Contains-append_right, Contains-push, Contains-push_cases}
pub use Rattle.nef_space.specs.Lists.{IsInTable}
pub use Rattle.law_geometry.proofs.complex.links.SidePoints.{sides-have_points}
pub use Rattle.law_geometry.proofs.complex.links.SidesJoined.{sides-joined}
pub use Rattle.nef_smap.proofs.SideNumbers.{number-one}
pub use Rattle.nef_smap.proofs.Upward.{map-across, map-ahead}
pub use Rattle.nef_complex.specs.Numbers.{HasRows, IsFacet, IsFacetAt, IsParts, IsSideBelow, IsVolumeOf, VolumeNumbers, count_sides, neg_of, pos_of, shell_sides}
pub use Rattle.nef_complex.specs.Shells.{IsNameBelow, IsShell, IsShellBelow, IsSideListed, IsSideNamed, SfaceNumbers, ShellLink, Shells}
pub use Rattle.nef_complex.specs.Sides.{IsSideNumber}
pub use Rattle.nef_complex.specs.declared.parts.Facet.{Facet}
pub use Rattle.nef_complex.specs.declared.parts.Parts.{Parts}
pub use Rattle.nef_complex.specs.declared.parts.Shell.{Shell}
pub use Rattle.nef_locate.proofs.FacetFound.{as-none}
pub use Rattle.nef_facets.proofs.Adding.{AnyBelow, adds-both, adds-none, adds-one, any-all, any-next, any-start}
pub use Rattle.nef_facets.proofs.Lists.{HasOneForEach, each-more}
pub use Rattle.nef_facets.specs.Carriers.{HasItem}
pub use Rattle.nef_volumes.specs.Held.{AreRowsByNumber}
pub use Rattle.nef_volumes.specs.Joining.{AreNumberLinks, AreRenumbered, HasCellNumber, HaveNumbers, IsRenumbered, TableIsBelow}
pub use Rattle.nef_volumes.specs.Joins.{AreCounted, FacetsAreComponents, IsPartAt, VolumesAreComponents}
pub use Rattle.nef_volumes.specs.Labels.{AreLabelsOf, AreLabelsTo, AreVolumeLabels, HasAppeared}
pub use Rattle.nef_volumes.specs.Parts.{AreFacetsOf, HasFirst, HasVolumesBeside, IsFirstCorner, side_beside}
pub use Rattle.nef_volumes.specs.Shells.{AreGathered, AreNumberedNames, AreShellRows, AreShellsOf, HaveVolumes, IsNamedBefore, IsOfVolume, IsOneOf, IsPut, IsShellOf, StandsBefore}
pub use Rattle.nef_volumes.specs.Ties.{AddsInSfaces, AreDownBetween, AreInOneSface, AreItemTies, AreLinks, AreTiedCorners, AreTiedOutside, AreTiedSides, AreTiesDown, AreTiesOf, AreTiesTo, AreTiesWithOutside, AreVolumeTies, HasSfaces, HasSvertex, IsAroundCell, IsCellOf, IsEndOf, IsFirstNumber, IsFloorCell, IsItemSide, IsSideTie, IsTieDown, IsTieInSface, IsTieNumbered, IsTieOfEnds, IsTieOfItems, IsTieOutside, LinkOfEnds, LinkOfItems, outside_cell, row_counts, side_at, side_cell, tie_within}
pub use Rattle.nef_volumes.specs.declared.all.Part.TheVariants.{Volume}
