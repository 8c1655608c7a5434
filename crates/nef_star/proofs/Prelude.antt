-- The names that most proofs cite, passed on from one place. Declares nothing.
pub use Rattle.law_geometry.proofs.near.Prelude.{In, Not, Out, zero_vector}
pub use Rattle.nef_geo.proofs.Prelude.{IsAtMost, IsBelow, IsParallel, direction_numbers, normal_limit, of_z, rules, svertex_limit, to_z, to_z-of_z, vector_of, ◌-◌, ◌^◌}
pub use Rattle.nef_case.proofs.Prelude.{All, get_or, slice_get-get_or, take, w8}
pub use Rattle.law_geometry.proofs.sphere.cyclic.Prelude.{AboutFour, AboutThree, same_or_opposite, triple-back}
pub use Rattle.law_geometry.proofs.sphere.Prelude.{Bool, Decided, Follows, IsDirection, IsNormal, IsOnCircle, IsSimplified, IsStraight, IsStrictlyOn, IsZero, Label, List, NextRay, Passes, SameDirection, SameDirection-trans, SameDirection-turned, Some, StarLabel, Vector, [], ap, arith, at, by_order, by_side, cond, cross, cross-turned, dir-self, direction-opposite, dot, dot-comm, dot_poly, false, follows, given, inl, inr, ints, is-at_first, is-at_none, length, level-of_opposite, minus-is, mul_pos, neg, neg_ℤ, none, nought-if, nought-is, num, numbers, opposite, opposite-dot, plus-is, pos, ray_dir, refl, ring, self-pos, square-cross, subst, suc, sym, triple, triple_poly, true, vector-same, zero, zero-decided, ℕ, ℤ, ⊎_elim, ◌*ℤ◌, ◌++◌, ◌+◌, ◌-ℤ◌, ◌<ℤ◌, ◌<◌, ◌↔◌, ◌∙◌, ◌∷◌, ◌≡◌, ◌≤◌, ◌⊎◌, ◌⊕◌, ◌⊖◌, ◌⊗◌}
pub use Rattle.std.proofs.Common.{IsTrue, drop, length-append, length-set, map, not, set, slice_get}
pub use Rattle.std.proofs.Math.Nat.{eq-or-lt_of_le}
pub use Rattle.std.proofs.lemmas.List.{drop-map, get_or-append_right, get_or-drop, get_or-set_other, get_or-set_same, get_or-take, get_or_append_left, length-drop, length-map, length-take-le, map-append, map-set, take-map}
pub use Rattle.std.proofs.lemmas.List.Elements.{All-append, All-cons, All-drop, All-nil, All-push, All-set, All-take}
pub use Rattle.std.proofs.lemmas.Option.{slice_get_read, slice_get_within}
pub use Rattle.std.specs.Vec.{vec_len, with_items}
pub use Rattle.nef_space.specs.Lists.{IsAt}
pub use Rattle.nef_geo.specs.declared.dir.Dir.{Dir}
pub use Rattle.nef_case.specs.Labels.{diff_label, xor_label}
pub use Rattle.law_geometry.proofs.sphere.cyclic.Cyclic.{nearer_ones, never_both_ways, no_ray_between, one_is_first, order_is_cyclic, order_is_transitive, same_in_place, says_passes, says_same, seen_from_after, seen_from_between, seen_from_later, ways_glue, ways_split}
pub use Rattle.law_geometry.proofs.sphere.cyclic.Planar.{parallel_from_turn, turn_from_parallel}
pub use Rattle.nef_star.specs.Ops.{op_label}
pub use Rattle.nef_star.specs.Rounds.{ArcEnd, EndsAreApart, HasWays, IsEndAt, IsEnded, IsRound, IsWhole}
pub use Rattle.nef_star.specs.Stars.{AreAlternate, AreStraight, BeginsAnywhere, HasLeft, IsCombined, IsCombinedAt, IsCountedFrom, IsLeftCombined, IsNeedless, IsRay, IsRayBelow, IsRayTried, IsStar, IsWithRay, KeepsLabels, LeftAfter, LeftGives, LeftPast, LeftUnder, NoneNeedless, left_at, left_of, mark_at, mark_of, ray_of, sector_at, sector_count, star_of}
pub use Rattle.nef_star.specs.Turning.{Gives, IsLabelAfter, IsNext, IsTurning, IsUnder, in_only_sector, in_sector, on_ray}
pub use Rattle.nef_star.specs.declared.star.Op.{Op}
pub use Rattle.nef_star.specs.declared.star.Op.TheVariants.{Diff, Or, Xor}
pub use Rattle.nef_star.specs.declared.star.Ray.{Ray}
pub use Rattle.nef_star.specs.declared.star.Star.{Star}
