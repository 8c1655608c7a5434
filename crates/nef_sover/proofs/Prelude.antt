-- The names that most proofs cite, passed on from one place. Declares nothing.
pub use Rattle.nef_geo.proofs.Prelude.{false≢true, on_total}
pub use Rattle.nef_arc.proofs.Prelude.{All, IsParallel, arcs_are_of_directions, two_meets_at}
pub use Rattle.law_geometry.proofs.sphere.Prelude.{cross-self, is-at_first, is-at_none, level-way}
pub use Rattle.law_geometry.proofs.sphere.building.Prelude.{ByOp, IsAxis, IsLoneSloop, IsMergedSloop, NearByOp, OnSvertex, at-sloop, label-exists, level_cross_second, lowest-same, normal-direction, normals-not_opposite}
pub use Rattle.nef_star.proofs.Prelude.{IsCombined, op_label}
pub use Rattle.nef_smap.proofs.Prelude.{Beside, Bool, Contains, Decided, Dir, Equal, Err, IfOk, InOrder, IsAt, IsAtMost, IsClear, IsDirection, IsFree, IsNeighbourhood, IsNormal, IsOnCircle, IsPrimitive, IsSphereMap, IsStar, IsTotalOrder, IsZero, Item, Label, Less, List, Map, MapLabel, MapSloop, MapVertex, NearLabel, None, Ok, OnItem, Option, Ordered, Ordering, Result, SameDirection, SameDirection-turned, Some, Star, StarLabel, Valid, Vector, VectorBelow, [], ap, arc-at, arc_item, arc_of, arith, at, is-at_one, beside, between-direction, blend, by_order, by_side, cross, cross-turned, dedup, dir-self, direction-right, dot, dot-comb, each_has_one_label, eq-or-lt_of_le, eq_by_cmp, get_or, inl, inr, ints, item_mark, item_neg, item_normal, item_pos, items, length, map, map_of, near-free, near-item, neg, normal_limit, not_true, nought-if, num, on-direction, on-level, on_item, opposite, option_map, other_way, parallel-trans, pos, refl, ring, rules, same_directions_equal, same_way, self-pos, sign-minus, sign-plus, sloop-at, sloop-valid, sloop_item, sloop_map, sloop_of, square-cross, star_of, subst, suc, svertex_limit, svertex_of, sym, take, true, vector_of, zero, zero-decided, ℕ, ◌*ℤ◌, ◌++◌, ◌+ℤ◌, ◌+◌, ◌-ℤ◌, ◌<◌, ◌∙◌, ◌∷◌, ◌≡◌, ◌≤ℤ◌, ◌≤◌, ◌⊎◌, ◌⊕◌, ◌⊖◌, ◌⊗◌}
pub use Rattle.std.specs.List.{AllZip}
pub use Rattle.std.specs.List.Sorted.{IsPermutation, IsSorted}
pub use Rattle.law_geometry.specs.sphere.building.Overlays.{IsItemCrossing, IsMerged}
pub use Rattle.nef_star.specs.declared.star.Op.{Op}
pub use Rattle.nef_smap.proofs.Lists.{at-contains, contains-at}
pub use Rattle.nef_smap.proofs.Primitive.{dir-primitive}
pub use Rattle.nef_smap.proofs.WellFormed.{below-vectors, star-well_formed}
pub use Rattle.nef_smap.specs.declared.map.SLoop.{SLoop}
pub use Rattle.nef_smap.specs.declared.map.SVertex.{SVertex}
pub use Rattle.nef_smap.specs.declared.map.SphereMap.{SphereMap}
pub use Rattle.nef_sover.specs.Axes.{AddsAxes, AreAxes, AxesAreInOrder, CrossedItems, CrossesAt, HasDirection, HasEachOf, IsCommon, IsCrossedAt, IsMeetAlong, IsOnSvertex, IsTrackMeet, MeetsOne, MeetsSome, NamesTracks}
pub use Rattle.nef_sover.specs.Circles.{AreOff, HasCircleLabels, HasOpLabels, IsBareNormal, IsLoneNormal, IsUncrossed}
pub use Rattle.nef_sover.specs.Merged.{AreCircleLabelsOf, AreMerged, IsMergedAt}
pub use Rattle.nef_sover.specs.Tracks.{AreSmallTracks, AreTracks, IsOnTrack, IsTrackOf, track_normal, track_number}
pub use Rattle.nef_sover.specs.declared.axes.Axis.{Axis}
pub use Rattle.nef_sover.specs.declared.axes.Track.{Track}
pub use Rattle.nef_space.proofs.Lists.{is-at_get, is-at_is, is-at_map, is-at_within, map-is_at}
pub use Rattle.nef_star.proofs.RoundStars.{same-dirs}
