-- The names that most proofs cite, passed on from one place. Declares nothing.
pub use Rattle.law_geometry.proofs.near.Prelude.{sign_of_product, square_nonneg}
pub use Rattle.nef_geo.proofs.Prelude.{Equal, FitsSigned, Greater, IsLowest, IsTotalOrder, Less, Ordering, abs_plus, abs_times, direction_limit, dvd-zero, dvd_trans, exact_of, fits_of, int_eq, lit≤, load, sign_of, up, wide_vector, wrap, ◌/◌, ◌∣◌, ◌≢◌, ◌⊟◌, ◌⊠◌}
pub use Rattle.law_geometry.proofs.sphere.Prelude.{Arc, ArcRay, Bool, Decided, HasArc, HasSide, InOrder, IsClear, IsDirection, IsFree, IsLastRay, IsNormal, IsOnCircle, IsOpposite, IsPrimitive, IsSmooth, IsStraight, IsStrictlyOn, IsZero, Item, Keeps, Label, Labelling, Least, Lies, List, Map, MapLabel, MapSloop, MapVertex, Near, NearLabel, None, OnItem, Option, Ordered, Passes, Plain, Reaches, SameDirection, SameDirection-trans, SameDirection-turned, SameSigns, SeenAs, Sees, Shaped, Side, Sign, Some, StarLabel, StarShows, StraightAt, Unrayed, Valid, Vector, VectorBelow, [], across, ap, apart, arc_item, arith, around_svertex, at, at_svertex, blend, blend-turned, by_order, by_side, by_way_of, cancel_eq, cancel_lt, cases_lt, cond, cross, cross-none, cross-turned, dir-self, dir-signs, dir_of, direction-left, direction-right, directly, dot, dot-comm, dot-zero, end_left, false, follows, forms, gather, given, in_only_sector, in_sector, inl, inr, ints, item_mark, item_neg, item_normal, item_pos, items, items_then, left-of, length, lies-left, lies-right, minus, minus-is, mul-pos, mul_neg, mul_nonneg, mul_pos, nat_abs, neg, neg_item, neg_ℤ, negsuc, none, nought, nought-if, nought-is, nought-or, num, on_item, on_ray, opposite, opposite-dot, opposite-turned, parallel-in_plane, parallel-trans, plus, plus-is, pos, pos_item, ray_left, ray_side, refl, ring, same-nought, same-off, seen, self-pos, sign, sign-minus, sign-plus, sign-scaled, sloop_item, square-cross, square_pos, straight, subst, suc, sym, triple, triple-dot, triple-in_plane, triple-middle, triple-turned, true, vector, vector-same, whole, zero, zero-decided, zero-dot, ℕ, ℤ, ⊎_elim, ◌*ℤ◌, ◌*◌, ◌++◌, ◌+ℤ◌, ◌+◌, ◌-ℤ◌, ◌<ℤ◌, ◌<◌, ◌↔◌, ◌∙◌, ◌∷◌, ◌≡◌, ◌≤ℤ◌, ◌≤◌, ◌⊎◌, ◌⊕◌, ◌⊖◌, ◌⊗◌}
pub use Rattle.nef_classes.proofs.Prelude.{AreClasses, AreLinked, AreNumbered, AreRoots, Chained, Err, Global, Ok, Result, Vec, zero-add}
pub use Rattle.nef_star.proofs.Prelude.{ArcEnd, Dir, EndsAreApart, In, IsAt, IsAtMost, IsBelow, IsNext, IsRay, IsRayBelow, IsRound, IsStar, IsTrue, IsTurning, LeftGives, Not, Out, direction_numbers, eq-or-lt_of_le, get_or, left_at, left_of, length-append, length-map, length-take-le, map, mark_at, normal_limit, not, of_z, order_is_transitive, ray_of, rules, sector_at, slice_get, slice_get-get_or, slice_get_read, star_of, svertex_limit, take, to_z, to_z-of_z, vector_of, ◌-◌, ◌^◌}
pub use Rattle.std.proofs.Common.{Bor, IfOk, IfSome, add-zero, is_some, nat_eq, option_map, ◌%◌}
pub use Rattle.std.proofs.Math.Nat.{dvd-add}
pub use Rattle.std.proofs.lemmas.Bool.{eq-eqb, eqb-true}
pub use Rattle.std.proofs.lemmas.Bool.Decides.{Decides-int_eq, eqb_tells}
pub use Rattle.std.proofs.lemmas.Result.{IfOk-weaker}
pub use Rattle.std.specs.List.{Contains, cons_option, dedup, filter_map}
pub use Rattle.std.specs.Ordering.{eq_by_cmp, is_eq, is_lt}
pub use Rattle.nef_space.proofs.Fractions.{fraction-le-trans}
pub use Rattle.nef_space.proofs.Order.{sign-neg, sign_times, sign_turned}
pub use Rattle.law_geometry.proofs.near.Far.{sign-large, sign-level}
pub use Rattle.nef_geo.proofs.Products.{IsAtMost-weaken, cross_is, dir_within, dot_size, kept_small}
pub use Rattle.nef_geo.proofs.Unique.{same_directions_equal}
pub use Rattle.nef_geo.specs.Signs.{sign_number}
pub use Rattle.nef_geo.specs.declared.sign.Sign.TheVariants.{Minus, Plus, Zero}
pub use Rattle.nef_arc.proofs.SignNumbers.{between_read, five_signs, not_true, read_sign, test_of, true_of}
pub use Rattle.law_geometry.proofs.sphere.Arcs.{Ends, at-arc, ends-of, sloop-at}
pub use Rattle.law_geometry.proofs.sphere.Around.{Beside, IsStrictlyOn-back, beside, direction-around, free-around, free-beside, item-stays, other_way, same_way, svertex-around}
pub use Rattle.law_geometry.proofs.sphere.Direct.{IsZero-times, between-off_target, cross-between, cross-self, miss-between, slid, slid-level, slid-square}
pub use Rattle.law_geometry.proofs.sphere.Forms.{IsFree-decided, OnItem-by_signs, OnItem-decided, OnItem-stays, axes-forms, free-by_signs, item-forms, normal-form, on-direction, on-level}
pub use Rattle.law_geometry.proofs.sphere.Generic.{Generic, amount, far-keeps, far-level, generic}
pub use Rattle.law_geometry.proofs.sphere.Labels.{label-by_signs, mixed-sign, near-from_far, sees-free}
pub use Rattle.law_geometry.proofs.sphere.Lists.{gather-has, none-at}
pub use Rattle.law_geometry.proofs.sphere.Lone.{near-lone, near-same_signs}
pub use Rattle.law_geometry.proofs.sphere.NearItems.{clear-around, keeps-between, kept-not_opposite, near-free, near-item}
pub use Rattle.law_geometry.proofs.sphere.Parallel.{arc-point, past_source}
pub use Rattle.law_geometry.proofs.sphere.Places.{SameDirection-decided, axis_x-is, axis_y-is, axis_z-is, kept-minus, kept-nought, kept-plus, point_forms}
pub use Rattle.law_geometry.proofs.sphere.SectorSees.{left-on, on-end}
pub use Rattle.law_geometry.proofs.sphere.Shot.{arc-at, dir-at, product-off}
pub use Rattle.law_geometry.proofs.sphere.Sight.{clear-self, free-seen, sees_both}
pub use Rattle.law_geometry.proofs.sphere.Simple.{ground-agrees, ground-shaped, ground_map, sloop-agrees, sloop-least, sloop-shaped, sloop-valid, sloop_map}
pub use Rattle.law_geometry.proofs.sphere.StarKinds.{across-side, straight_star-label}
pub use Rattle.law_geometry.proofs.sphere.StepOff.{Outlook, apart-by_rows, outlook, outlook-clear, outlook-free, outlook-svertex}
pub use Rattle.law_geometry.proofs.sphere.Vectors.{comb-dot, direction-by, dot-comb, negative-or, normal-is, positive-or, same-minus, same-plus}
pub use Rattle.law_geometry.proofs.sphere.Walk.{between-direction, carried, cross-direction_left, cross-direction_turned}
pub use Rattle.law_geometry.specs.sphere.Forms.{axis_x, axis_y, axis_z}
pub use Rattle.law_geometry.specs.sphere.Labelling.{PlainAt}
pub use Rattle.law_geometry.specs.sphere.Maps.{ArcBetween}
pub use Rattle.nef_space.proofs.Chains.{chain-keeps, chain-link, chain-map, chain-trans, chain-turned}
pub use Rattle.nef_classes.proofs.ClassLists.{Either, earlier, last, is-at_pushed}
pub use Rattle.nef_space.proofs.Lists.{is-at_first, is-at_get, is-at_is, is-at_last, is-at_left, is-at_none, is-at_parts, is-at_right, is-at_some, is-at_within, map-is_at, is-at_one}
pub use Rattle.nef_classes.specs.Classes.{LinksAreBelow}
pub use Rattle.nef_classes.specs.declared.forest.Link.{Link}
pub use Rattle.nef_star.proofs.Labelled.{at-ray, each_has_one_label, sector-at, sectors-fill, to-left}
pub use Rattle.nef_star.specs.declared.star.Ray.{Ray}
pub use Rattle.nef_star.specs.declared.star.Star.{Star}
pub use Rattle.nef_smap.specs.Above.{IsFirst, IsFirstItem, IsFirstOf, IsOver, Stands, first_sign, meridians, over_forms, rise, rise_form, rise_forms}
pub use Rattle.nef_smap.specs.Close.{ArcPasses, IsClose, beyond_sign, close_sign, geo_sign, lean_direction, then_toward}
pub use Rattle.nef_smap.specs.Items.{item_of}
pub use Rattle.nef_smap.specs.JoinLinks.{AreArounds, AreEach, AreGrounds, AreSloops, ComesOf, HasLink, JoinsArc, JoinsAround, JoinsBelow, JoinsGround, JoinsSloop}
pub use Rattle.nef_smap.specs.Joined.{ArcFirst, BelowFirst, BelowFirsts, FirstNear, Firsts, Joins, SloopFirst, met}
pub use Rattle.nef_smap.specs.Linear.{AreAtMost, IsLarge, leading_of, linear_at, turn_value}
pub use Rattle.nef_smap.specs.Links.{AreJoins, IsJoin, join_arc, join_around, join_below, join_ground, join_sloop, met_number}
pub use Rattle.nef_smap.specs.Maps.{IsSmall, IsSphereMap, arc_of, map_of, sloop_of, svertex_of}
pub use Rattle.nef_smap.specs.Paths.{IsFair, IsFirstMet, IsMetBefore, IsMetOnWay, way_meet}
pub use Rattle.nef_smap.specs.SideNumbers.{arounds_before, one_if_label, side_number}
pub use Rattle.nef_smap.specs.Sides.{AreSfaces, IsPlaceOf, IsSide, LabelledSide, SeeOneWay, SideSees, item_sides, labelled, sides_of, svertex_sides}
pub use Rattle.nef_smap.specs.Stars.{AreArcEnds, IsArcEnd, IsNeighbourhood, IsStarAlong}
pub use Rattle.nef_smap.specs.WideVectors.{AreValues, end_at, start_at}
pub use Rattle.nef_smap.specs.declared.above.Close.{Close}
pub use Rattle.nef_smap.specs.declared.map.SArc.{SArc}
pub use Rattle.nef_smap.specs.declared.map.SLoop.{SLoop}
pub use Rattle.nef_smap.specs.declared.map.SVertex.{SVertex}
pub use Rattle.nef_smap.specs.declared.map.SphereMap.{SphereMap}
pub use Rattle.nef_smap.specs.declared.meets.SpherePath.{SpherePath}
pub use Rattle.nef_smap.specs.declared.meets.Values.{Values}
pub use Rattle.nef_space.proofs.Elementary.{less-or-last}
