-- The names that most proofs cite, passed on from one place. Declares nothing.
pub use Rattle.nef_geo.proofs.Prelude.{Code, IfSome, IsAhead, IsAtMost, IsCrossing, IsLowest, IsReached, Limited, abs_times, beside_x, beside_y, const, direction_limit, dot-comm, exact_of, far_point, fits_of, form, hit_limit, hit_point, hit_weight_limit, int_eq, le_of_dvd, load, normal_limit, opposite, plane_axis, plane_dir, plane_dir_limit, ray_limit, size_of, unsigned_abs-mul, upright_limit, upright_weight_limit, vector, wrap, ◌∣◌, ◌⊞◌, ◌⊟◌, ◌⊠◌}
pub use Rattle.law_geometry.proofs.complex.Prelude.{EdgeSupport, Flat, IsEdge, IsFirstInPlane, IsOpposite, Lies, LiesIn, Meets, SamePlane, between-inner, between-same, direction-right, dot-zero, edge-support, level-way, mul-pos, nought-if, opposite-same, parallel-both, plane_through, point-toward, sign-minus, sign-plus, sign-same, slope-same, start-between, vector-same, ◌&&◌}
pub use Rattle.nef_smap.proofs.Prelude.{Dir, Minus, Plus, minus-is, parallel-trans, plus-is, triple-in_plane}
pub use Rattle.nef_complex.proofs.Prelude.{AreAlone, AreHolders, AreNumbersOf, AreNumbersWith, ArePeaks, Bool, Decides-int_eq, EdgeLiesIn, EndBelow, Form, HasEnds, HasOppositeSigns, HoldsBoth, InClosedFrame, IsAt, IsBetween, IsDirection, IsEdgePoint, IsInSpan, IsNarrower, IsPartitionPoint, IsPointBelow, IsTrue, IsVertexPoint, IsZero, LiesOn, List, None, Option, Plane, Point, Poly, SameDirection, SameDirection-trans, SameDirection-turned, SamePoint, Set, Shows, Some, SpacePoint, Vector, Zero, [], ap, arith, at, is-at_map, between-turned, by_order, carriers, cases_lt, complex_of, cond, cross, cross-turned, direction-left, dot, edge-points, edge_of, eq-or-lt_of_le, false, fits_signed_from_abs, follows, follows_times, form-sum, form_at, form_of, get_or, given, half_side, in-span, inl, inr, int_div_euclid, ints, is-at_get, is-at_is, is-at_one, is-at_some, is-at_within, length, ltb, ltb-true, map-is_at, meets_edge, meets_vertex, mixed-of, mul_neg, mul_nonneg, mul_pos, nat_abs, neg, neg_ℤ, negsuc, none, normal_of, not_true, nought-is, nought-or, num, of_point, plane-point, plane-slope, plane-turned, plane-way, point_limit, point_of, pos, pos-abs, refl, ring, rules, same-point_sym, sign, sign_of, slice_get_read, slope, slope-toward, start, subst, suc, sym, to_z-of_z, toward, toward-point, true, vector_of, vertex_of, w64, weight_limit, zero, zero-decided, ℕ, ℤ, ⊎_elim, ◌*ℤ◌, ◌*◌, ◌+ℤ◌, ◌+◌, ◌-ℤ◌, ◌-◌, ◌/◌, ◌<ℤ◌, ◌<◌, ◌^◌, ◌↔◌, ◌∙◌, ◌∷◌, ◌≡◌, ◌≤ℤ◌, ◌≤◌, ◌⊎◌, ◌⊕◌, ◌⊖◌, ◌⊗◌}
pub use Rattle.std.proofs.Common.{below_more}
pub use Rattle.std.proofs.Math.Nat.{mul-le-mul_left, mul-le-mul_right}
pub use Rattle.std.proofs.lemmas.Bool.{ltb-false}
pub use Rattle.std.proofs.lemmas.List.Sorted.{IsPartitionPoint-from_clause, IsPartitionedBy-ltb}
pub use Rattle.std.specs.Option.{MatchOption}
pub use Rattle.std.specs.Prelude.{IsNone}
pub use Rattle.nef_space.proofs.Order.{abs_minus, minus-of, plus-of}
pub use Rattle.nef_geo.proofs.InPlane.{axis-direction, axis-in_plane, dir-size, pair_small}
pub use Rattle.nef_geo.proofs.Signs.{sign_of-negative, sign_of-positive, zero_sign}
pub use Rattle.nef_geo.specs.Widths.{ratio_limit}
pub use Rattle.nef_geo.specs.declared.hit.FarHit.{FarHit}
pub use Rattle.nef_geo.specs.declared.hit.Hit.{Hit}
pub use Rattle.nef_geo.specs.declared.sign.Sign.{Sign}
pub use Rattle.law_geometry.proofs.complex.FacetAngles.{aligned, between-level, between-level_minus, cross-back, same-by, same-by-minus, through-at, through-slope}
pub use Rattle.law_geometry.proofs.complex.FacetEdges.{ahead-back}
pub use Rattle.law_geometry.proofs.complex.Ways.{between-ends, between-way, same-point_trans}
pub use Rattle.nef_complex.proofs.Ends.{apart, edge-inside, ends, high-within, listed_edge, low-within, of-ends, through-both, vertex-same}
pub use Rattle.nef_complex.proofs.Lines.{on_line, one-crossing}
pub use Rattle.nef_complex.proofs.ListedHolders.{AllListed, all-holders, holder-holds, holders-within, listed-more}
pub use Rattle.nef_complex.proofs.Parted.{along-cross, crossed-parted, held-between, parted-cut}
pub use Rattle.nef_complex.proofs.Spanned.{span-between, span-same}
pub use Rattle.nef_index.proofs.Spanning.{euclid-above, euclid-below, span-wider}
pub use Rattle.nef_complex.specs.Complexes.{meet_of}
pub use Rattle.nef_complex.specs.Index.{AreHoldersAlong}
pub use Rattle.nef_complex.specs.declared.complex.Complex.{Complex}
pub use Rattle.nef_index.specs.declared.skeleton.Edge.{Edge}
pub use Rattle.nef_complex.specs.declared.complex.PlaneMeet.{PlaneMeet}
pub use Rattle.nef_complex.specs.declared.complex.PlaneMeet.TheVariants.{AtEdge, AtVertex}
pub use Rattle.nef_complex.specs.declared.complex.Vertex.{Vertex}
pub use Rattle.nef_index.specs.declared.spans.Span.{Span}
pub use Rattle.nef_plane.specs.Amid.{AllSideWith, AllThrough, AreAmid, IsAmid, SidesWith}
pub use Rattle.nef_plane.specs.Asked.{AreItems, count_in, meet_at}
pub use Rattle.nef_plane.specs.Courses.{IsCourse, IsCourseBeside, IsCourseFirst, IsCoursePassed, IsCoursePast, IsExcluding, StartsAt, StaysClose, shifted_form}
pub use Rattle.nef_plane.specs.Ends.{AreEnds, HasEndsAt, HasMeet, IsVertexOrLies, MeetLiesIn}
pub use Rattle.nef_plane.specs.Levels.{AreFarFrom, AreShortBelow, IsBeforePlane, IsLevel, IsSwept, IsUnparted}
pub use Rattle.nef_plane.specs.Meets.{AllHold, AreOpposite, AtEdgeNumber, AtMeet, AtSomeEdge, AtSomeVertex, AtVertexNumber, AtVertexOrEdge, Encounter, FromVertex, HasNoSvertex, HoldsRay, IsAlongAxis, IsAlongDir, IsBetweenOrAt, IsHitThrough, IsMeetPoint, IsMetBetween, IsMissed, IsNearer, IsNearest, IsNearestMet, IsNotPast, IsOffEdges, IsParallelToAxis, IsReachedEncounter, IsWithinDirection, NoneCrosses, Reach, far_met_of, far_reach_of, met_of, near_met_of, reach_of, sweep_axis, sweep_form}
pub use Rattle.nef_plane.specs.Parting.{IsAcrossRay, product_limit, ray_form}
pub use Rattle.nef_plane.specs.Windows.{HoldsBefore, IsOutside, IsWindowTo}
pub use Rattle.nef_space.proofs.Elementary.{positive-factor}
