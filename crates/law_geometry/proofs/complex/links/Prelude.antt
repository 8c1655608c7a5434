-- The names that most proofs cite, passed on from one place. Declares nothing.
pub use Rattle.law_geometry.proofs.near.Prelude.{FlatCone, IsSettled, Joined, Ratio, SameSigns, SameSlopes, Within, by_lt_z, frame, le-mul_of_pos_right, mul-le-mul_left, side}
pub use Rattle.law_geometry.proofs.sphere.Prelude.{HasArc, HasSide, InOneSface, IsClear, IsFree, Reaches, Sees, Side, Some, around_svertex, blend-turned, by_way_of, directly, here, is-at_none, level-blend, link, neg_item, opposite-turned, parallel-trans, plus-is, pos_item, seen, unsigned_abs-mul, whole}
pub use Rattle.law_geometry.proofs.complex.Prelude.{Arc, Beside, Complex, Cone, Corner, Drop, Edge, Flat, FlatCone-from_flat, FlatDim, FlatDim-by_germs, Form, Germ, Germ-unique, Germ-zero, HasCorner, HasEnds, HasLabel, InClosedFrame, IsAt, IsBetween, IsCorner, IsCornerAt, IsDirection, IsEdgePoint, IsEven, IsFirstInPlane, IsFlatIn, IsOnCircle, IsOpposite, IsSkeletonPoint, IsSpot, IsStrictlyOn, IsVertexPoint, IsZero, Item, Keeps, Label, Lies, LiesIn, List, Map, MapVertex, NearGerm, OnItem, OnItem-by_signs, Out, PlaneMeet, RayNames, SameDirection, SameDirection-trans, SameDirection-turned, SameGerms, SamePoint, SameUpToFactor, Set, Shaped, Shows, Sign, SpacePoint, Spot, Vector, Vertex, [], amount, ap, arc-at, arc_item, arith, at, at-arc, is-at_one, at_vertex, beside, between-inner, between-same, between-turned, blend, by_side, carriers, circle-point, cross, cross-turned, dir-at, dir-self, dir-signs, dir_of, direction-left, direction-right, dot, dot-comb, dot-comm, dot-opposite, dot-zero, ends-of, even-until, factor-same, false, far-keeps, far-level, flat-germ, flat_dim-of, follows, form-sum, form_at, forms, germ_of, germs-by_cell, given, half_side, in_facet, inl, inr, ints, item_mark, item_neg, item_normal, item_plane, item_pos, items, label-exists, level-same, level-way, level_cross_second, meets_edge, meets_vertex, minus, mixed-of, mul-pos, mul_pos, nat_abs, near-free, near-item, neg, neg_ℤ, negsuc, none, normal-is, normal_of, nought, nought-if, nought-is, num, of_direction, of_point, on-direction, on-level, on_edge, opposite, opposite-same, other_way, plane_axis, plane_through, plus, pos, ray-cell, reach_all, refl, ring, same-minus, same-nought, same-plus, same-point_sym, same_way, self-pos, sign, sign-minus, sign-plus, sign-scaled, sign_at, signs-same, slide, sloop_item, slope, slope-same, slope-slide, span-3, square-cross, start-close, subst, sym, toward, toward-point, triple, triple-dot, turn-same, up, vector, vector-same, zero-decided, zero_vector, ℕ, ℤ, ⊎_elim, ◌*ℤ◌, ◌*◌, ◌+ℤ◌, ◌+◌, ◌-ℤ◌, ◌<ℤ◌, ◌<◌, ◌∙◌, ◌∷◌, ◌≡◌, ◌≤ℤ◌, ◌≤◌, ◌⊎◌, ◌⊕◌, ◌⊖◌, ◌⊗◌}
pub use Rattle.nef_space.proofs.Vectors.{back-triple, cross-blend, opposite-way, right-turn}
pub use Rattle.nef_space.specs.Vectors.{plane_dir}
pub use Rattle.law_geometry.proofs.near.Cells.{Cells, is_nought, keeps-all, reach-some, same-sym}
pub use Rattle.law_geometry.proofs.near.Decisions.{ahead, near-ahead}
pub use Rattle.law_geometry.proofs.near.Directions.{same-factor}
pub use Rattle.law_geometry.proofs.near.Even.{flat-way, joined-both, joined-itself, joined-turned}
pub use Rattle.law_geometry.proofs.near.Far.{sign-level}
pub use Rattle.law_geometry.proofs.near.Near.{form-step, step-within}
pub use Rattle.law_geometry.proofs.near.NearGerms.{sign-large, steep, steep-one}
pub use Rattle.law_geometry.proofs.sphere.Arcs.{sloop-at}
pub use Rattle.law_geometry.proofs.sphere.Around.{free-beside}
pub use Rattle.law_geometry.proofs.sphere.Forms.{axes-forms, free-by_signs}
pub use Rattle.law_geometry.proofs.sphere.Lone.{free-close, sees-around}
pub use Rattle.law_geometry.proofs.sphere.NearItems.{keeps-between, kept-not_opposite}
pub use Rattle.law_geometry.proofs.sphere.Parallel.{past_source}
pub use Rattle.law_geometry.proofs.sphere.Places.{IsOpposite-decided}
pub use Rattle.law_geometry.proofs.sphere.Shot.{item-point}
pub use Rattle.law_geometry.proofs.sphere.Walk.{between-direction, cross-direction_right}
pub use Rattle.law_geometry.proofs.complex.Cones.{label-germ, near-germ}
pub use Rattle.law_geometry.proofs.complex.Edges.{edge-points, near-between, near_point, way-near}
pub use Rattle.law_geometry.proofs.complex.FacetEdges.{ahead-back, ahead-same}
pub use Rattle.law_geometry.proofs.complex.FacetNames.{axis-in, facet-of, through-level}
pub use Rattle.law_geometry.proofs.complex.FacetPoints.{IsInFacetOf, beside-vertex, facet-point, in-facet}
pub use Rattle.law_geometry.proofs.complex.FacetWays.{end-meets, even-by, plane-ahead}
pub use Rattle.law_geometry.proofs.complex.Ways.{between-outer, between-start, between-way}
pub use Rattle.law_geometry.specs.complex.Rays.{HasSideLabel, IsAbove, VertexSide}
pub use Rattle.law_geometry.specs.complex.links.Components.{IsAtItem, IsAtSide, IsEvenAfter, IsUpright, ItemsHavePoints, ItemsJoined, SidesHavePoints, SidesJoined}
pub use Rattle.law_geometry.specs.complex.links.Links.{AreAlong, AreSidesAlong, FacetLink, IsSideOf, LinkAcross, LinkAcrossFacet, LinkAlong, LinkAlongEdge, LinkDown, LinkInSface, LinkOutside, VolumeLink, around_ends, neg_arcs, pos_arcs}
pub use Rattle.nef_space.proofs.Elementary.{same-itself}
pub use Rattle.law_geometry.proofs.near.Same.{dim-same}
