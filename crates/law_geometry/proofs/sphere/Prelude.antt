-- The names that most proofs cite, passed on from one place. Declares nothing.
pub use Rattle.law_geometry.proofs.near.Prelude.{Bool, Flat, FlatDim, Form, Germ, HasFlat, HasLabel, IsDirection, IsZero, Label, Lies, List, Poly, SameDirection, Set, Sign, SpacePoint, Vector, [], ap, arith, at, blend, by_order, cancel_eq, cancel_lt, carriers, cases_lt, cond, cross, cross-none, cross-self, cross-turned, cross_of, direction-left, direction-right, direction_form, dot, dot-comm, dot-zero, dot_of, each, false, follows, follows_times, form_amount, form_on, given, in-span, inl, inr, ints, level-both, level_cross_second, lies-each, lies-left, lies-right, minus, minus-is, mul-le, mul-pos, mul_le_right, mul_nonneg, mul_pos, nat_abs, neg, neg_ℤ, negsuc, none, normal_of, nought, nought-if, nought-is, nought-or, num, numbers, of_direction, opposite, plus, plus-is, pos, refl, ring, scaled-coordinates, self-pos, sign, sign-minus, sign-plus, sign-scaled, square-cross, square_pos, subst, suc, sym, triple, triple-dot, triple-in_plane, triple-middle, triple_poly, true, unsigned_abs-mul, vec, vector, vector-same, zero, zero-decided, zero-dot, ℕ, ℤ, ⊎_elim, ◌*ℤ◌, ◌*◌, ◌++◌, ◌+ℤ◌, ◌+◌, ◌-ℤ◌, ◌<ℤ◌, ◌<◌, ◌↔◌, ◌∙◌, ◌∷◌, ◌≡◌, ◌≤ℤ◌, ◌≤◌, ◌⊎◌, ◌⊕◌, ◌⊖◌, ◌⊗◌}
pub use Rattle.law_geometry.proofs.sphere.cyclic.Prelude.{IsOnCircle, IsStrictlyOn, Passes, SameDirection-trans, SameDirection-turned, crossed, direction-opposite, dot-scaled, dot_poly, level-opposite, level-opposite-back, level-way, parallel-in_plane, triple-opposite}
pub use Rattle.std.proofs.Common.{None, Option, Some, length}
pub use Rattle.nef_space.specs.Lists.{IsAt}
pub use Rattle.nef_space.proofs.Lists.{is-at_first, is-at_none, is-at_one}
pub use Rattle.nef_space.proofs.Order.{mul_neg}
pub use Rattle.nef_space.proofs.Vectors.{IsOpposite-same, apart, blend-turned, blend_of, dir-self, dir-signs, dot-opposite, from-opposite, left-of, level-blend, level-of_opposite, opposite-cross, opposite-dot, opposite-itself, opposite-turned, opposite-twice, opposites, parallel-trans, poly_triple, right-of, triple-turned}
pub use Rattle.nef_space.specs.Vectors.{IsNormal, IsOpposite}
pub use Rattle.law_geometry.proofs.near.Decided.{Decided, decided-both, decided-not, decided-or, decided-to, germ_of}
pub use Rattle.law_geometry.proofs.near.Far.{amount-above, far-keeps, far-level, same-nought, same-off}
pub use Rattle.law_geometry.proofs.near.Flats.{Flat-from_cone, FlatCone-from_flat, Germ-by_signs}
pub use Rattle.law_geometry.proofs.near.Germs.{Germ-unique, label-one}
pub use Rattle.law_geometry.specs.sphere.Builds.{IsBuilt, NoneSmooth, Proper, StraightAfter}
pub use Rattle.law_geometry.specs.sphere.Forms.{Keeps, SameSigns, arc_forms, axes, forms, gather}
pub use Rattle.law_geometry.specs.sphere.Kinds.{FlatMap, Full, IsInFacet, IsInVolume, IsOnEdge}
pub use Rattle.law_geometry.specs.sphere.Labelling.{Agrees, ByOp, IsSmooth, Labelling, Near, Plain, StraightAt, plain, straight}
pub use Rattle.law_geometry.specs.sphere.Least.{ArcBelow, Cone, InOrder, Least, MatchedArc, MatchedSloop, MatchedSvertex, MatchesInto, NearPlain, NearStraight, Ordered, SameLabels, by_side}
pub use Rattle.law_geometry.specs.sphere.Maps.{Arc, HasArc, HasSide, InOneSface, IsClear, IsFree, Item, Map, MapLabel, MapSloop, MapVertex, NearLabel, OnItem, Reaches, SeenAs, Sees, Shaped, Side, Valid, arc_item, around_svertex, at_svertex, by_way_of, dir_of, directly, here, item_mark, item_neg, item_normal, item_pos, items, items_then, link, neg_item, on_item, pos_item, seen, sloop_item, whole}
pub use Rattle.law_geometry.specs.sphere.Sectors.{ArcRay, BoundsSector, IsLastRay, IsLastSide, Unrayed, end_left, end_side, ray_left, ray_side}
pub use Rattle.law_geometry.specs.sphere.Stars.{Follows, IsPlain, IsSimplified, IsStraight, LeavesAxis, NextRay, OnRay, Ray, Star, StarLabel, StarOf, StarShows, across, in_only_sector, in_sector, on_ray, ray_dir}
pub use Rattle.law_geometry.specs.sphere.Vectors.{IsPrimitive, VectorBelow}
pub use Rattle.law_geometry.specs.near.Cones.{combination}
