-- The names that most proofs cite, passed on from one place. Declares nothing.
pub use Rattle.law_geometry.proofs.sphere.Prelude.{Arc, ArcBelow, Bool, ByOp, Decided, Follows, HasArc, HasSide, IsAt, IsBuilt, IsDirection, IsFree, IsNormal, IsOnCircle, IsOpposite, IsPlain, IsPrimitive, IsSimplified, IsSmooth, IsStraight, IsStrictlyOn, IsZero, Item, Keeps, Label, Labelling, Least, LeavesAxis, List, Map, MapLabel, MapSloop, MapVertex, Near, NearLabel, NearPlain, NearStraight, NextRay, None, NoneSmooth, OnItem, OnRay, Option, Ordered, Plain, Proper, Ray, SameDirection, SameDirection-trans, SameDirection-turned, SameSigns, Shaped, Side, Sign, Some, Star, StarLabel, StarShows, StraightAfter, StraightAt, Valid, Vector, VectorBelow, [], across, ap, apart, arc_forms, arc_item, arith, around_svertex, at, at_svertex, axes, blend, by_order, by_side, cond, cross, cross-turned, cross_of, crossed, dir-self, dir-signs, dir_of, direction-left, direction-opposite, direction-right, dot, dot-comm, dot-opposite, dot-zero, dot_of, dot_poly, each, false, follows, forms, from-opposite, given, in-span, in_only_sector, in_sector, inl, inr, ints, is-at_first, is-at_none, item_mark, item_neg, item_normal, item_pos, items, length, level-blend, level-opposite, level_cross_second, lies-each, lies-left, lies-right, mul_pos, neg, neg_item, neg_ℤ, none, nought-if, nought-is, nought-or, num, numbers, on_item, on_ray, opposite, opposite-cross, opposite-dot, opposite-twice, opposites, parallel-in_plane, parallel-trans, plain, poly_triple, pos, pos_item, ray_dir, refl, ring, seen, self-pos, sign, sign-minus, sign-plus, sign-scaled, sloop_item, square-cross, straight, subst, suc, sym, triple, triple-dot, triple-middle, triple_poly, true, vec, vector-same, whole, zero, zero-decided, zero-dot, ℕ, ℤ, ⊎_elim, ◌*ℤ◌, ◌++◌, ◌+ℤ◌, ◌+◌, ◌-ℤ◌, ◌<ℤ◌, ◌<◌, ◌↔◌, ◌∙◌, ◌∷◌, ◌≡◌, ◌≤◌, ◌⊎◌, ◌⊕◌, ◌⊖◌, ◌⊗◌}
pub use Rattle.std.proofs.Common.{map}
pub use Rattle.std.specs.Prelude.{IsSome, MatchOption}
pub use Rattle.nef_space.proofs.Vectors.{Polys, cross-opposite, normal-direction}
pub use Rattle.law_geometry.proofs.sphere.Along.{near-near, near-one, not-even}
pub use Rattle.law_geometry.proofs.sphere.Arcs.{at-sloop, ends-of, level-same, sloop-at}
pub use Rattle.law_geometry.proofs.sphere.Around.{Beside, beside, other_way, same_way}
pub use Rattle.law_geometry.proofs.sphere.BuiltLeast.{built-labels, built-least, built-valid}
pub use Rattle.law_geometry.proofs.sphere.Compare.{normals-not_opposite, normals-same}
pub use Rattle.law_geometry.proofs.sphere.Equal.{lowest-same}
pub use Rattle.law_geometry.proofs.sphere.Flips.{Axial, directed-by, far_directed-by, flipped, planes-parallel, reversed, sloop-along, straight-same_way, unflipped}
pub use Rattle.law_geometry.proofs.sphere.Forms.{PlaceOf, axes-forms, free_place, item_place, on-level, place_of, svertex_place}
pub use Rattle.law_geometry.proofs.sphere.Generic.{amount, far-keeps, far-level}
pub use Rattle.law_geometry.proofs.sphere.Labellings.{op-labelling}
pub use Rattle.law_geometry.proofs.sphere.Labels.{label-by_signs, label-direction, label-exists, label-unique}
pub use Rattle.law_geometry.proofs.sphere.Lists.{Found, none-at, search_list}
pub use Rattle.law_geometry.proofs.sphere.Parallel.{arc-point, circle-point, past_source}
pub use Rattle.law_geometry.proofs.sphere.Places.{IsOpposite-decided, IsStrictlyOn-stays, SameDirection-decided, parallel-back}
pub use Rattle.law_geometry.proofs.sphere.Shot.{arc-at, dir-at}
pub use Rattle.law_geometry.proofs.sphere.Simplified.{across-same, before, last-of, next-ray, plain-no_ray, previous, ray-level, straight-level}
pub use Rattle.law_geometry.proofs.sphere.StarKinds.{across-side, straight_star-label, straight_star-level, straight_star-normal, turn-ahead}
pub use Rattle.law_geometry.proofs.sphere.StraightStars.{RaysApart, TwoRays, straight-rays}
pub use Rattle.law_geometry.proofs.sphere.Turn.{IsStrictlyOn-same, ends-together, whole-passes}
pub use Rattle.law_geometry.proofs.sphere.Vectors.{below-itself, direction-by, dot-comb, even-side, op-side, same-plus}
pub use Rattle.law_geometry.specs.sphere.Forms.{point_forms}
pub use Rattle.law_geometry.specs.sphere.Labelling.{PlainAt}
pub use Rattle.law_geometry.specs.sphere.Maps.{ArcBetween}
pub use Rattle.law_geometry.specs.sphere.Raw.{IsBare, IsLabelling, IsRawOf, IsWellFormed, Of, RawMap, ShowsLabels, sector_count}
pub use Rattle.law_geometry.specs.sphere.building.From.{AreSimplified, IsArcFrom, IsBuiltFrom, IsKeptRaw, IsKeptStar, IsRawLabel, IsSloopFrom, around_of, raw_sloop, sloop_at, straight_sloop, svertex_at}
pub use Rattle.law_geometry.specs.sphere.building.Laws.{MapLabelling, OpLabelling, RawShowsOp}
pub use Rattle.law_geometry.specs.sphere.building.Overlays.{HasSvertexOrSloop, IsAxis, IsLoneSloop, IsMergedGround, IsMergedSloop, NearByOp, OnSvertex, Raw}
pub use Rattle.nef_space.proofs.Lists.{is-at_one, is-at_nowhere}
