-- The names that most proofs cite, passed on from one place. Declares nothing.
pub use Rattle.law_geometry.proofs.near.Prelude.{Drop, EdgeSupport, FacetSupport, Holds, In, InClosedFrame, InFrame, IsBetween, IsEven, IsFlatBelow, IsMixed, IsOnSegment, IsVertex, NearGerm, Out, SameGerms, SamePoint, SameUpToFactor, WayEnd, cases_order, form, form_at, half_side, label_and, label_less, label_one_of, label_or, of_point, parallel-both, sign_at, sign_of_product, sign_times, slide, slope, step, toward, zero_vector}
pub use Rattle.law_geometry.proofs.sphere.Prelude.{Arc, Bool, Cone, Decided, Flat, Flat-from_cone, FlatCone-from_flat, FlatDim, Form, Germ, Germ-by_signs, Germ-unique, HasFlat, HasLabel, IsAt, IsDirection, IsNormal, IsOnCircle, IsOpposite, IsOpposite-same, IsStrictlyOn, IsZero, Item, Keeps, Label, Least, Lies, List, Map, MapLabel, MapVertex, NearLabel, NearPlain, NearStraight, OnItem, Poly, SameDirection, SameDirection-trans, SameDirection-turned, SameSigns, Set, Shaped, SpacePoint, Valid, Vector, [], ap, apart, arc_forms, arc_item, arith, at, at_svertex, blend, by_order, by_side, carriers, cond, cross, cross-turned, decided-both, dir-self, dir-signs, dir_of, direction-left, direction-opposite, direction-right, dot, dot-comm, dot-opposite, dot-zero, false, follows, follows_times, forms, germ_of, given, in-span, inl, inr, ints, is-at_first, is-at_none, item_mark, item_neg, item_normal, item_pos, items, label-one, level-way, level_cross_second, mul-pos, mul_le_right, mul_neg, mul_nonneg, mul_pos, nat_abs, neg, neg_ℤ, negsuc, none, normal_of, nought-if, nought-is, nought-or, num, of_direction, opposite, opposite-dot, parallel-in_plane, pos, refl, ring, same-nought, same-off, self-pos, sign-minus, sign-plus, sign-scaled, sloop_item, square-cross, square_pos, subst, suc, sym, triple, triple-dot, triple-middle, triple-turned, true, vector, vector-same, zero, zero-decided, ℕ, ℤ, ⊎_elim, ◌*ℤ◌, ◌*◌, ◌+ℤ◌, ◌+◌, ◌-ℤ◌, ◌<ℤ◌, ◌<◌, ◌↔◌, ◌∙◌, ◌∷◌, ◌≡◌, ◌≤ℤ◌, ◌≤◌, ◌⊎◌, ◌⊕◌, ◌⊖◌, ◌⊗◌}
pub use Rattle.std.proofs.Common.{Decides, ◌&&◌}
pub use Rattle.nef_space.proofs.Order.{cancel_le, minus-of, nonneg-of, plus-of}
pub use Rattle.nef_space.proofs.Vectors.{opposite-same, normal-direction}
pub use Rattle.nef_space.specs.Points.{IsAhead, plane_through}
pub use Rattle.nef_space.specs.Signs.{Sign, minus, nought, plus, sign}
pub use Rattle.nef_space.specs.Vectors.{beside_x, beside_y, plane_axis, up}
pub use Rattle.law_geometry.proofs.near.Alike.{Flat-by_germs, FlatDim-by_germs, FlatDim-one, HasFlat-fewer, flat-germ, germs-by_cell}
pub use Rattle.law_geometry.proofs.near.Between.{between-inner, between-of, between-turned, mixed-of, ray-cell}
pub use Rattle.law_geometry.proofs.near.Decided.{InFrame-decided, label_of}
pub use Rattle.law_geometry.proofs.near.Directions.{factor-same}
pub use Rattle.law_geometry.proofs.near.Edges.{beyond, edge-around, even-until, flat_way-end, halfway, halfway-between, halfway-outside, leads, leads-somewhere, start, start-between, start-close, start-toward, way_factor, way_factor-some}
pub use Rattle.law_geometry.proofs.near.Even.{even-germs, flat-nearby, flat-toward, germ-nearby, labels-by_germs, span-1, span-3}
pub use Rattle.law_geometry.proofs.near.FlatDecided.{flat-by_signs, flat_dim-of, near-by_signs, near-of_flat}
pub use Rattle.law_geometry.proofs.near.Flats.{germ-toward, slope-slide}
pub use Rattle.law_geometry.proofs.near.Germs.{Label-cells}
pub use Rattle.law_geometry.proofs.near.Mixed.{between-same, factor-point, from-start, point-factor, point-toward, toward-point}
pub use Rattle.law_geometry.proofs.near.Near.{reach_all, slope-toward}
pub use Rattle.law_geometry.proofs.near.Rays.{Germ-zero, same-point_sym, sign-same, signs-same, slope-same}
pub use Rattle.law_geometry.proofs.near.Sums.{before-at-after, form-mix, form-sum, mixed-mix, past-mixed, same-trans}
pub use Rattle.law_geometry.proofs.near.Supports.{edge-support, facet-support, flat-line, flat-plane}
pub use Rattle.law_geometry.proofs.sphere.Arcs.{Ends, at-arc, ends-of, level-same}
pub use Rattle.law_geometry.proofs.sphere.Around.{Beside, IsStrictlyOn-back, beside, direction-around, opposite-triple, other_way, same_way, svertex-around, turn-plus}
pub use Rattle.law_geometry.proofs.sphere.Compare.{Matched, normals-same}
pub use Rattle.law_geometry.proofs.sphere.Forms.{OnItem-by_signs, PlaceOf, free_place, item-forms, item_place, on-direction, on-level, place_of, svertex_place}
pub use Rattle.law_geometry.proofs.sphere.Generic.{amount, far-keeps, far-level}
pub use Rattle.law_geometry.proofs.sphere.Labels.{far-from_near, label-by_signs, label-direction, label-exists, label-unique, near-exists, near-from_far, near-unique}
pub use Rattle.law_geometry.proofs.sphere.NearItems.{near-free, near-item}
pub use Rattle.law_geometry.proofs.sphere.Parallel.{circle-point, row-level}
pub use Rattle.law_geometry.proofs.sphere.Places.{SameDirection-decided, kept-minus, kept-plus, row_x, row_x-is, row_y, row_y-is, row_z, row_z-is}
pub use Rattle.law_geometry.proofs.sphere.Shot.{arc-at, dir-at, product-off}
pub use Rattle.law_geometry.proofs.sphere.Turn.{after-target, turn-last, turn-same}
pub use Rattle.law_geometry.proofs.sphere.Unique.{neither-svertex, svertex-neither}
pub use Rattle.law_geometry.proofs.sphere.Vectors.{dot-comb, normal-is, positive-or, same-minus, same-plus}
pub use Rattle.law_geometry.specs.complex.Complexes.{Complex, Corner, Edge, HasEnds, IsCorner, IsEdge, Vertex}
pub use Rattle.law_geometry.specs.complex.Laws.{IsFlatIn, IsNearCut, IsSkeletonIn, IsVertexOfBoth}
pub use Rattle.law_geometry.specs.complex.Shows.{SamePlane, Shows}
pub use Rattle.law_geometry.specs.complex.Skeleton.{HasCorner, IsArcOnSide, IsCornerAt, IsEdgePoint, IsFacetPoint, IsFirstInPlane, IsOnEdges, IsSkeletonPoint, IsSpot, IsVertexPoint, LiesIn, Meets, PlaneMeet, RayNames, Spot, at_vertex, in_facet, item_plane, meets_edge, meets_vertex, on_edge}
pub use Rattle.nef_space.proofs.Lists.{is-at_one}
