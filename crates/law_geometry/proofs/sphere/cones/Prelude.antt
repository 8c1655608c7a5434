-- The names that most proofs cite, passed on from one place. Declares nothing.
pub use Rattle.law_geometry.proofs.near.Prelude.{by_lt_z, sign_of_product, triple-cycle}
pub use Rattle.law_geometry.proofs.sphere.Prelude.{Arc, ArcBelow, ByOp, Cone, Decided, Germ, HasArc, HasLabel, InOrder, IsAt, IsBuilt, IsDirection, IsNormal, IsOnCircle, IsOpposite, IsPrimitive, IsSmooth, IsStrictlyOn, IsZero, Item, Label, Labelling, Least, Lies, List, Map, MapLabel, MapSloop, MapVertex, Near, None, NoneSmooth, OnItem, Option, Ordered, Plain, Proper, SameDirection, SameDirection-trans, SameDirection-turned, SameSigns, Set, Sign, Some, SpacePoint, StraightAfter, StraightAt, Valid, Vector, VectorBelow, [], ap, arc_item, arith, at, axes, blend, by_order, by_side, cancel_eq, cancel_lt, carriers, cases_lt, cross, cross-turned, cross_of, decided-both, dir-self, dir-signs, dir_of, direction-left, direction-opposite, direction-right, dot, dot-comm, dot-opposite, dot-scaled, dot-zero, dot_of, dot_poly, each, follows, forms, given, in-span, inl, inr, ints, is-at_first, is-at_none, item_normal, items, level-both, level-opposite, level-opposite-back, level_cross_second, lies-each, lies-left, lies-right, minus, mul_pos, nat_abs, neg, negsuc, none, nought, nought-if, nought-is, nought-or, num, numbers, opposite, opposite-cross, opposite-dot, opposite-twice, parallel-in_plane, parallel-trans, plain, plus, pos, refl, ring, same-nought, self-pos, sign, sign-minus, sign-plus, sign-scaled, sloop_item, square-cross, straight, subst, suc, sym, triple, triple-dot, triple-turned, vec, vector, vector-same, zero, zero-decided, zero-dot, ℕ, ℤ, ⊎_elim, ◌*ℤ◌, ◌++◌, ◌+ℤ◌, ◌+◌, ◌-ℤ◌, ◌<ℤ◌, ◌<◌, ◌↔◌, ◌∙◌, ◌∷◌, ◌≡◌, ◌≤ℤ◌, ◌≤◌, ◌⊎◌, ◌⊕◌, ◌⊖◌, ◌⊗◌}
pub use Rattle.std.proofs.lemmas.Option.{none-some, same_Some}
pub use Rattle.nef_space.proofs.Lists.{lies-pairs, pairs, is-at_one, is-at_nowhere}
pub use Rattle.nef_space.proofs.Order.{sign_times}
pub use Rattle.nef_space.proofs.Vectors.{parallel-opposite, normal-direction}
pub use Rattle.law_geometry.proofs.near.Decided.{every, label_of}
pub use Rattle.law_geometry.proofs.near.Decisions.{same-label_or}
pub use Rattle.law_geometry.proofs.sphere.Arcs.{level-same, sloop-at}
pub use Rattle.law_geometry.proofs.sphere.Around.{Beside, beside, other_way, same_way}
pub use Rattle.law_geometry.proofs.sphere.Builder.{normal-either}
pub use Rattle.law_geometry.proofs.sphere.BuiltLeast.{labelling-more, op-build, set-build}
pub use Rattle.law_geometry.proofs.sphere.Compare.{normals-not_opposite, normals-same}
pub use Rattle.law_geometry.proofs.sphere.Equal.{lowest-same}
pub use Rattle.law_geometry.proofs.sphere.Firsts.{First, first-after}
pub use Rattle.law_geometry.proofs.sphere.Flips.{Axial, directed-by, far_directed-by, flipped, planes-parallel, reversed, sloop-along, straight-same_way, unflipped}
pub use Rattle.law_geometry.proofs.sphere.Generic.{amount, far-keeps, far-level, far-same}
pub use Rattle.law_geometry.proofs.sphere.Lists.{Found, at-lies, lies-at, none-at, search_list}
pub use Rattle.law_geometry.proofs.sphere.Parallel.{arc-point, circle-point, past_source}
pub use Rattle.law_geometry.proofs.sphere.Places.{IsOpposite-decided, direction-decided}
pub use Rattle.law_geometry.proofs.sphere.Vectors.{below-itself, dot-comb}
pub use Rattle.law_geometry.proofs.sphere.Walk.{carried, cross-direction_left, cross-direction_right}
pub use Rattle.law_geometry.specs.sphere.Forms.{axis_x}
pub use Rattle.law_geometry.specs.sphere.Labelling.{PlainAt}
pub use Rattle.law_geometry.specs.sphere.Maps.{ArcBetween}
