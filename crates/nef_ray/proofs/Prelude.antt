-- The names that most proofs cite, passed on from one place. Declares nothing.
pub use Rattle.law_geometry.proofs.near.Prelude.{FirstChange, Within}
pub use Rattle.nef_geo.proofs.Prelude.{HasOppositeSigns, IsNone, IsPointAtMost, IsReached, IsReachedBy, int_ranks, offset_limit, point_at, size_of, ◌⊞◌}
pub use Rattle.law_geometry.proofs.complex.Prelude.{Beside, Decided, Germ-by_signs, Germ-zero, Sign, beside, between-same, beyond, germ-nearby, germ-toward, germ_of, halfway, halfway-between, halfway-outside, label-one, leads, leads-somewhere, other_way, reach_all, same_way, sign-same, slope-same, start, start-between, start-close, start-toward, toward-point, way_factor, way_factor-some, zero_vector}
pub use Rattle.nef_smap.proofs.Prelude.{Contains, fraction-le-trans}
pub use Rattle.nef_edges.proofs.Prelude.{Contains-permutation, IsStrictWeakOrder, answers_always, minus-is, on_line, plus-is, sorted_far}
pub use Rattle.nef_locate.proofs.Prelude.{Bool, Code, Complex, Dir, Equal, Form, Germ, Germ-same, Germ-unique, Greater, HasLabel, Hit, IfSome, InClosedFrame, InFrame, IsAhead, IsAt, IsAtMost, IsBetween, IsCrossing, IsDirection, IsPermutation, IsTrue, Label, Label-cells, Less, Lies, Limited, List, MatchOrdering, Option, Ordering, Out, Plane, Point, SameDirection, SameDirection-trans, SameDirection-turned, SamePoint, Set, ShowsSet, SpacePoint, Vector, [], ahead-back, ahead-from, ap, arith, at, is-at_map, is-at_within, between-inner, between-start, between-turned, blend, carriers, cases_lt, closed-same, dir-self, direction-left, exact_of, factor-same, false, fits_of, flat-germ, form_at, form_of, germs-by_cell, get_or, half_side, hit_point, inl, inr, int_cmp, ints, is_lt, label-unique, label_of, length, load, map_of, minus, mul_nonneg, mul_pos, nat_abs, neg, neg_ℤ, normal_limit, nought, nought-is, nought-or, num, of_z, one-crossing, opposite, plane-point, plane-slope, plane-turned, plus, point_limit, point_of, pos, pos-abs, refl, ring, rules, same-point_sym, sign, sign-minus, sign-plus, sign_at, signs-same, slope, subst, sym, to_opposite, to_z, toward, true, vector-same, vector_of, w64, weight_limit, wrap, ℕ, ℤ, ⊎_elim, ◌*ℤ◌, ◌*◌, ◌++◌, ◌+ℤ◌, ◌+◌, ◌<ℤ◌, ◌<◌, ◌∙◌, ◌∷◌, ◌≡◌, ◌≤ℤ◌, ◌≤◌, ◌⊎◌, ◌⊕◌, ◌⊗◌, ◌⊠◌}
pub use Rattle.std.proofs.Common.{All, IsSortedBy}
pub use Rattle.std.proofs.lemmas.List.Elements.{All-contains, All-push, Contains-append_left, Contains-push}
pub use Rattle.std.proofs.lemmas.List.Sorted.{All-permutation}
pub use Rattle.nef_space.specs.Limits.{ray_direction_limit, ray_point_limit, ray_weight_limit}
pub use Rattle.law_geometry.proofs.near.Between.{label-along_ray}
pub use Rattle.law_geometry.proofs.near.Decided.{decided-lt, decided-to, every}
pub use Rattle.law_geometry.proofs.near.Decisions.{germ-decided, label-decided}
pub use Rattle.law_geometry.proofs.near.FirstChange.{first-change}
pub use Rattle.law_geometry.proofs.near.Flats.{label-toward, sign-toward}
pub use Rattle.law_geometry.proofs.near.Frames.{flat-outside, no-germ_out}
pub use Rattle.law_geometry.proofs.near.Germs.{near-same}
pub use Rattle.law_geometry.proofs.near.Mixed.{point-decided}
pub use Rattle.law_geometry.proofs.near.Rays.{slope-zero, within-self}
pub use Rattle.law_geometry.proofs.complex.FacetEdges.{ahead-same}
pub use Rattle.law_geometry.proofs.complex.Ways.{between-cases, between-outer, between-rest}
pub use Rattle.nef_smap.proofs.Lists.{at-contains, contains-at}
pub use Rattle.nef_complex.proofs.Reading.{next-all}
pub use Rattle.nef_plane.proofs.Nearest.{between-ahead}
pub use Rattle.nef_locate.proofs.RayMeets.{at-hit, never-both, never-same}
pub use Rattle.nef_ray.specs.Changes.{AreAllCrossed, IsChangeOf, IsCrossedPlane, IsHitOf, IsUnchanged, IsUnchangedOn, crossed_lt}
pub use Rattle.nef_ray.specs.Ends.{Changes, IsRayEnd, OneRayEnd, RayHasEnd}
pub use Rattle.nef_ray.specs.Widths.{asked_slope_limit, start_form_limit}
pub use Rattle.nef_ray.specs.declared.ray.Crossed.{Crossed}
pub use Rattle.nef_ray.specs.declared.ray.RayEnd.{RayEnd}
pub use Rattle.nef_ray.specs.declared.ray.RayStart.{RayStart}
pub use Rattle.nef_space.proofs.Lists.{is-at_is, is-at_read}
