-- The names that most proofs cite, passed on from one place. Declares nothing.
pub use Rattle.law_geometry.proofs.near.Prelude.{EdgeAround, IsEvenPath, IsPointBelow, Not, halves, label_not}
pub use Rattle.law_geometry.proofs.sphere.cyclic.Prelude.{AboutFour, AboutThree}
pub use Rattle.law_geometry.proofs.sphere.Prelude.{BoundsSector, Passes, SeenAs, cancel_eq, cancel_lt, cross-none, decided-or, decided-to, each, from-opposite, gather, is-at_first, is-at_none, length, level-of_opposite, level-opposite-back, lies-each, lies-left, lies-right, minus-is, on_item, opposite-twice, opposites, triple-in_plane, ◌++◌}
pub use Rattle.law_geometry.proofs.complex.Prelude.{Arc, Beside, Bool, Complex, Corner, Decided, Decides, Drop, Edge, Ends, Flat, Flat-by_germs, Flat-from_cone, FlatCone-from_flat, FlatDim, FlatDim-by_germs, FlatDim-one, Form, Germ, Germ-unique, Germ-zero, HasCorner, HasEnds, HasLabel, In, InFrame, IsAhead, IsArcOnSide, IsAt, IsBetween, IsCorner, IsCornerAt, IsDirection, IsEdge, IsEdgePoint, IsEven, IsFacetPoint, IsFirstInPlane, IsFlatBelow, IsFlatIn, IsNormal, IsOnCircle, IsOpposite, IsSkeletonPoint, IsSpot, IsStrictlyOn, IsVertex, IsVertexPoint, IsZero, Item, Keeps, Label, Lies, LiesIn, List, Map, MapLabel, MapVertex, Meets, NearLabel, NearPlain, OnItem, Out, PlaceOf, PlaneMeet, Poly, RayNames, SameDirection, SameDirection-decided, SameDirection-trans, SameDirection-turned, SameGerms, SamePoint, SameSigns, SameUpToFactor, Set, Shaped, Shows, Sign, SpacePoint, Spot, Valid, Vector, Vertex, [], amount, ap, apart, arc-at, arc_item, arith, at, at-arc, is-at_one, at_svertex, at_vertex, beside, beside_x, beside_y, between-inner, between-of, between-same, between-turned, blend, by_order, by_side, cancel_le, carriers, cases_order, cond, cross, cross-turned, decided-both, dir-at, dir-self, dir-signs, dir_of, direction-around, direction-left, direction-opposite, direction-right, dot, dot-comb, dot-comm, dot-opposite, dot-zero, edge-around, ends-of, even-germs, even-until, factor-same, false, far-keeps, far-level, flat-germ, flat-nearby, flat-plane, flat-toward, flat_dim-of, follows, form, form_at, forms, free_place, germ_of, germs-by_cell, given, half_side, in-span, in_facet, inl, inr, ints, item-forms, item_normal, item_place, item_plane, item_pos, items, label-one, label_of, labels-by_germs, level-way, meets_edge, meets_vertex, minus-of, mixed-mix, mixed-of, mul-pos, mul_neg, mul_nonneg, mul_pos, nat_abs, near-of_flat, neg, neg_ℤ, negsuc, none, nonneg-of, normal-direction, normal-is, normal_of, normals-same, nought, nought-if, nought-is, nought-or, num, of_direction, of_point, on-direction, on-level, on_edge, opposite, opposite-dot, opposite-same, other_way, parallel-in_plane, place_of, plane_axis, plane_through, plus, plus-of, point-toward, pos, positive-or, product-off, ray-cell, reach_all, refl, ring, same-minus, same-nought, same-plus, same-point_sym, same_way, self-pos, sign, sign-minus, sign-plus, sign-scaled, sign_at, signs-same, sloop_item, slope, slope-toward, span-1, span-3, square-cross, start, start-between, start-close, start-toward, step, subst, suc, svertex-around, svertex-neither, svertex_place, sym, toward, toward-point, triple, triple-dot, triple-middle, triple-turned, true, turn-last, turn-same, up, vector, vector-same, zero, zero-decided, zero_vector, ℕ, ℤ, ⊎_elim, ◌&&◌, ◌*ℤ◌, ◌*◌, ◌+ℤ◌, ◌+◌, ◌-ℤ◌, ◌<ℤ◌, ◌<◌, ◌∙◌, ◌∷◌, ◌≡◌, ◌≤ℤ◌, ◌≤◌, ◌⊎◌, ◌⊕◌, ◌⊖◌, ◌⊗◌}
pub use Rattle.law_geometry.proofs.complex.links.Prelude.{FacetLink, HasArc, HasSide, HasSideLabel, IsAbove, IsAtSide, IsClear, IsEvenAfter, IsFree, IsInFacetOf, IsUpright, Joined, LinkAcross, LinkAlong, Ratio, Sees, Side, VertexSide, VolumeLink, Within, ahead, ahead-back, ahead-same, around_ends, around_svertex, axes-forms, axis-in, back-triple, beside-vertex, between-outer, between-start, between-way, blend-turned, edge-points, end-meets, even-by, facet-of, facet-point, flat-way, form-step, frame, free-by_signs, free-close, here, is_nought, joined-both, joined-itself, joined-turned, keeps-all, kept-not_opposite, label-germ, level-blend, link, near-ahead, near-between, near_point, opposite-turned, opposite-way, parallel-trans, plane-ahead, plane_dir, plus-is, pos_arcs, pos_item, right-turn, same-factor, seen, sees-around, steep, through-level}
pub use Rattle.std.proofs.Common.{map}
pub use Rattle.nef_space.proofs.Lists.{lies-append}
pub use Rattle.nef_space.specs.Limits.{axis_factor}
pub use Rattle.nef_space.specs.Lists.{Chained, IsChain}
pub use Rattle.nef_space.specs.Vectors.{beside_z}
pub use Rattle.law_geometry.proofs.near.Between.{between-mix}
pub use Rattle.law_geometry.proofs.near.Decided.{every}
pub use Rattle.law_geometry.proofs.near.Even.{joined-germs, span-2}
pub use Rattle.law_geometry.proofs.near.Flats.{FlatCone-from_carriers, sign-toward}
pub use Rattle.law_geometry.proofs.near.Germs.{sample, sign-along}
pub use Rattle.law_geometry.proofs.near.PointOrder.{point_below-apart, point_below-same, point_below-trans, same-point_below}
pub use Rattle.law_geometry.proofs.near.Skeleton.{flat_dim-nearby}
pub use Rattle.law_geometry.proofs.near.Topology.{near-germ_zero}
pub use Rattle.law_geometry.proofs.near.Vertices.{all-vertices}
pub use Rattle.law_geometry.proofs.sphere.Around.{opposite-in_plane}
pub use Rattle.law_geometry.proofs.sphere.Compare.{normals-not_opposite}
pub use Rattle.law_geometry.proofs.sphere.Direct.{cross-self}
pub use Rattle.law_geometry.proofs.sphere.Forms.{OnItem-decided, normal-form}
pub use Rattle.law_geometry.proofs.sphere.Generic.{far-same}
pub use Rattle.law_geometry.proofs.sphere.Lists.{gather-has, search_list}
pub use Rattle.law_geometry.proofs.sphere.Sectors.{bounded, bounds-sees, unrayed-ahead}
pub use Rattle.law_geometry.proofs.sphere.Turn.{IsStrictlyOn-same}
pub use Rattle.law_geometry.proofs.sphere.Turning.{turns}
pub use Rattle.law_geometry.proofs.sphere.Unique.{eq-decided}
pub use Rattle.law_geometry.proofs.sphere.Vectors.{negative-or}
pub use Rattle.law_geometry.proofs.complex.Cones.{FlatAre, germ-label, near-label}
pub use Rattle.law_geometry.proofs.complex.Edges.{edge-way, near-one}
pub use Rattle.law_geometry.proofs.complex.FacetAngles.{Cut, aligned, angle, angle-cyclic, angle-inside, angle-self, angle-start, angle-turned, between-level, between-minus, between-plus, cross-back, cut-at, same-by, same-by-minus, through-at, through-slope, turn-at, turn_form, zero-by}
pub use Rattle.law_geometry.proofs.complex.FacetArcs.{source-meets, source-met, target-meets, target-met}
pub use Rattle.law_geometry.proofs.complex.FacetEdges.{not-along}
pub use Rattle.law_geometry.proofs.complex.FacetEnds.{facet-behind, item-seen}
pub use Rattle.law_geometry.proofs.complex.FacetNames.{facets-complete, normal-scaled, toward-turned}
pub use Rattle.law_geometry.proofs.complex.FacetSides.{IsSided, flats-carried, flats-one, sided-dim, sided-flats}
pub use Rattle.law_geometry.proofs.complex.FacetTriangle.{HalfEdge, below-or, edge-halves, falls, falls-to, plane-between, rises}
pub use Rattle.law_geometry.proofs.complex.FacetWays.{flat-onto, meets-on, plane-back, plane-onward, two-off}
pub use Rattle.law_geometry.proofs.complex.Joining.{edges-complete, svertex-edge}
pub use Rattle.law_geometry.proofs.complex.Planes.{plane-way}
pub use Rattle.law_geometry.proofs.complex.Skeletons.{free-flat, skeleton-not_flat, skeleton-or_flat, way-ends}
pub use Rattle.law_geometry.proofs.complex.Ways.{between-cases, between-ends, opposed, same-point_trans}
pub use Rattle.law_geometry.specs.complex.Complexes.{IsEdgeBelow}
pub use Rattle.law_geometry.specs.complex.Rays.{RayDown}
pub use Rattle.law_geometry.proofs.complex.links.Across.{across, across-tied, corner-across, through-same}
pub use Rattle.law_geometry.proofs.complex.links.Down.{above-tied, facet-at}
pub use Rattle.law_geometry.proofs.complex.links.EdgeEnds.{AreTiedItems, EdgeWays, EndsOnSide, along-tied, close_way, corner_of_numbers, edge-ways, end-level, ends-tied, left-turn, on-close, tied-close_way, tied-high, tied-low, tied-turn}
pub use Rattle.law_geometry.proofs.complex.links.ItemPoints.{at-item, item-has_point, on_item-way, one-item}
pub use Rattle.law_geometry.proofs.complex.links.NearVertex.{facet-near, free-dim}
pub use Rattle.law_geometry.proofs.complex.links.SidePoints.{at-side, level-opposite, one-side}
pub use Rattle.law_geometry.proofs.complex.links.SideSight.{seen-free, sees-pos, sees-way, side-sees}
pub use Rattle.law_geometry.proofs.complex.links.Ties.{IsTied, ahead-cells, ahead-close, ahead-toward, ahead-way, beside-ahead, beside-cell, dim-cell, even-after, even-cell, even-fan, joined-cell, joined-even, same-between, tied-ahead, tied-both, tied-cell, tied-ray, tied-turned}
pub use Rattle.nef_conn.specs.Components.{AreComponents, EdgesCounted, HasComponents, JoinedAreAsFlat, JoinedEdges, JoinedVertices, OneCount, VerticesCounted}
pub use Rattle.nef_conn.specs.Items.{ArcsGoOn, AreLinkedWhereJoined, ConverseBySteps, EndsAt, HasClearStrip, IsInTriangle, ItemsBySegments, ItemsName, JoinedItemsAreLinked, LiesAlong, NamesAlong, NamesFor, NamesOfSegments, NamesOfSteps, ThirdSides, line_form, way_inward}
pub use Rattle.nef_conn.specs.Reach.{CornersReached, PointsReachItems, PointsReachSides, SidesReached}
pub use Rattle.nef_conn.specs.Sides.{ConverseByItems, ConverseForAll, NamesOfFreeSegments, RaysEnd, SidesName}
pub use Rattle.nef_conn.specs.Slices.{plane_set, sliced}
pub use Rattle.nef_space.proofs.Elementary.{weight-positive, counted-positive}
pub use Rattle.nef_space.specs.Points.{opposite_form}
