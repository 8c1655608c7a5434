-- The names that most proofs cite, passed on from one place. Declares nothing.
pub use Rattle.nef_geo.proofs.Prelude.{MatchOrdering, SpacePoint, false≢true, int_cmp, int_cmp_total, int_ranks, on_total, ordering_then, then_total}
pub use Rattle.law_geometry.proofs.sphere.Prelude.{Cone, IsInFacet, IsInVolume, IsOnEdge, SameLabels, Set, is-at_first, is-at_none, level-of_opposite, level-opposite-back}
pub use Rattle.law_geometry.proofs.sphere.building.Prelude.{ArcBelow, AreSimplified, ByOp, Follows, IsArcFrom, IsBare, IsBuiltFrom, IsKeptRaw, IsKeptStar, IsLabelling, IsPlain, IsRawLabel, IsRawOf, IsSimplified, IsSloopFrom, Raw, label-unique, raw_sloop, sloop_at, straight_sloop, svertex_at}
pub use Rattle.nef_star.proofs.Prelude.{AboutFour, All, BeginsAnywhere, length-set}
pub use Rattle.nef_smap.proofs.Prelude.{Arc, Bool, Dir, Equal, Global, Greater, IfOk-weaker, InOrder, IsAt, IsAtMost, IsDirection, IsNext, IsOpposite, IsRay, IsSmall, IsStar, IsStraight, IsStrictlyOn, IsTotalOrder, Item, Label, Least, Less, List, Map, MapLabel, MapSloop, MapVertex, None, Option, Ordered, Ordering, Out, Ray, SameDirection, SameDirection-turned, Some, Star, Valid, Vec, Vector, VectorBelow, [], ap, arc_of, arith, is-at_one, cond, dir-self, dot, dot-comm, eq-or-lt_of_le, eq_by_cmp, false, forms, get_or, inl, inr, ints, is-at_last, is-at_left, is_eq, is_lt, item_normal, items_then, left_at, left_of, length, length-map, map, map_of, normal_limit, opposite, option_map, order_is_transitive, pos, ray_of, refl, rules, same_directions_equal, slice_get, sloop_of, star_of, subst, suc, svertex_limit, svertex_of, sym, take, true, vector-same, vector_of, zero, ℕ, ℤ, ⊎_elim, ◌++◌, ◌+◌, ◌-◌, ◌<ℤ◌, ◌<◌, ◌↔◌, ◌∙◌, ◌∷◌, ◌≡◌, ◌≢◌, ◌≤◌, ◌⊎◌}
pub use Rattle.std.proofs.Common.{MatchOption, get_or-set_other, get_or-set_same, slice_set}
pub use Rattle.std.proofs.lemmas.Cmp.{by_ranked, eq_by_cmp_equiv, nat_cmp_total, ranked, tied_back}
pub use Rattle.std.proofs.lemmas.List.Sorted.{Contains-permutation, IsPermutation-sym, answers_always, ranks_by, sorted_far}
pub use Rattle.std.specs.Cmp.{IsStrictWeakOrder}
pub use Rattle.std.specs.List.{IsDistinct}
pub use Rattle.std.specs.List.Sorted.{IsPermutation, IsSorted, IsSortedBy}
pub use Rattle.std.specs.Ordering.{nat_cmp, on, ordering_reverse, then_cmp}
pub use Rattle.law_geometry.proofs.sphere.building.RawGround.{not-both, raw-shows_op}
pub use Rattle.law_geometry.specs.sphere.building.From.{IsFirstAfter}
pub use Rattle.nef_star.proofs.Counted.{count-some, refilled}
pub use Rattle.nef_star.proofs.Needed.{true_or_false}
pub use Rattle.nef_star.proofs.Turns.{four}
pub use Rattle.nef_smap.proofs.Lists.{at-contains, contains-at}
pub use Rattle.nef_smap.proofs.WellFormed.{star-well_formed}
pub use Rattle.nef_smap.specs.Maps.{IsLeastMap, IsRawStars, raw_of}
pub use Rattle.nef_smap.specs.declared.map.RawStars.{RawStars}
pub use Rattle.nef_smap.specs.declared.map.SArc.{SArc}
pub use Rattle.nef_smap.specs.declared.map.SLoop.{SLoop}
pub use Rattle.nef_smap.specs.declared.map.SphereMap.{SphereMap}
pub use Rattle.nef_spair.specs.Arcs.{AreApart, AreArcs, AreTwoEnds, IsArcBelow, IsEarlierRay, IsTwin, LeavesAlong, StandApart}
pub use Rattle.nef_spair.specs.Kinds.{IsKind, IsVertexMap, KindFits}
pub use Rattle.nef_spair.specs.Made.{IsMadeFrom, IsMadeOf, IsMadeOfSimple}
pub use Rattle.nef_spair.specs.Pieces.{AreAllKept, AreCircles, AreOthers, ArePiecesOf, AreSimple, IsBareCircle, IsChosen, IsCircleOf, IsDropped, IsSimple, Pieces}
pub use Rattle.nef_spair.specs.declared.answer.Kind.TheVariants.{InFacet, InVolume, OnEdge, Vertex}
pub use Rattle.nef_space.proofs.Lists.{is-at_more, is-at_get, is-at_is, is-at_map, is-at_within, map-is_at}
pub use Rattle.nef_space.proofs.Elementary.{three-ways}
pub use Rattle.nef_star.proofs.RoundStars.{same-dirs}
