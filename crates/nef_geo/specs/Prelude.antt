-- The names that most clauses cite, passed on from one place. Declares nothing.
pub use Rattle.nef_space.specs.Prelude.{IfErr, IfOk, IfSome, IsAhead, IsAtMost, IsBelow, IsDirection, IsGcd, IsNone, IsNormal, IsParallel, IsPointBelow, IsTrue, List, MatchOption, MatchOrdering, None, OnErr, OnOk, SameDirection, SamePoint, Set, Some, SpacePoint, Vector, [], cross, direction_limit, direction_numbers, dot, drop, form, form_at, form_numbers, int_cmp, length, map, most_stairs, nat_abs, neg_ℤ, normal_limit, normal_of, number_limit, offset_limit, opposite, plane_axis, plane_dir, point_limit, pos, position, slice_get, slope, svertex_limit, triple, true, up, vector, weight_limit, ℕ, ℤ}
pub use Rattle.std.specs.List.{All, filter_map, find, list_any}
pub use Rattle.std.specs.List.Sorted.{IsPermutation}
pub use Rattle.std.specs.Prelude.{Option, codes, cond, option_map, slice_index_or, take}
pub use Rattle.std.specs.Str.{bytes_eq}
pub use Rattle.nef_space.specs.Labels.{label_number}
pub use Rattle.nef_space.specs.Limits.{query_limit, query_weight_limit, ray_direction_limit}
pub use Rattle.nef_space.specs.Lists.{Chained, IsAt, IsInTable}
pub use Rattle.nef_space.specs.Local.{HasLabel}
pub use Rattle.nef_space.specs.Signs.{Sign, sign}
pub use Rattle.nef_space.specs.declared.label.Label.{Label}
pub use Rattle.nef_geo.specs.Hits.{IsCrossing, IsPlaneDirSized, IsPointAtMost, IsReached, IsReachedBy, IsVertical}
pub use Rattle.nef_geo.specs.Laws.{SameDirectionsAreEqual, SamePlanesAreEqual, SamePointsAreEqual}
pub use Rattle.nef_geo.specs.Meet.{HasDependentNormals, IsOnlyCommon}
pub use Rattle.nef_geo.specs.Numbers.{IsAtMostFour, IsGcdOfFour, IsReduced, IsSameRatios, IsSomeOfFour}
pub use Rattle.nef_geo.specs.Shapes.{far_point, form_of, given_form, hit_point, point_of, vector_of}
pub use Rattle.nef_geo.specs.Signs.{sign_number, sign_of}
pub use Rattle.nef_geo.specs.Steps.{HasOppositeSigns, IsZeroStep}
pub use Rattle.nef_geo.specs.Triples.{triple_vector, wide_vector}
pub use Rattle.nef_geo.specs.Ways.{second_beside}
pub use Rattle.nef_geo.specs.Widths.{dot_limit, far_den_limit, far_form_limit, far_limit, far_num_limit, far_product_limit, far_weight_limit, hit_form_limit, plane_dir_form_limit, plane_dir_hit_limit, point_form_limit, quad_limit, ray_limit, ray_slope_limit, slope_limit, triple_limit, upright_form_limit, upright_limit, upright_weight_limit}
pub use Rattle.nef_geo.specs.declared.plane.Plane.{Plane}
