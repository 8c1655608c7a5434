-- The names that most proofs cite, passed on from one place. Declares nothing.
pub use Rattle.nef_space.proofs.Prelude.{Bool, FitsSigned, List, [], ap, arith, false, inl, inr, ints, mul-le, nat_abs, neg_ℤ, negsuc, of_z, pos, refl, subst, suc, sym, to_z, to_z-of_z, true, unsigned_abs-mul, zero, ℕ, ℤ, ⊎_elim, ◌*ℤ◌, ◌*◌, ◌+ℤ◌, ◌+◌, ◌-ℤ◌, ◌<ℤ◌, ◌<◌, ◌^◌, ◌↔◌, ◌∙◌, ◌∷◌, ◌≡◌, ◌≤ℤ◌, ◌≤◌, ◌⊎◌}
pub use Rattle.std.proofs.Common.{Equal, Greater, IsNone, Less, None, Option, Ordering, Some, lit≤, rules, w64, ◌-◌, ◌/◌, ◌≢◌}
pub use Rattle.std.proofs.lemmas.Bool.{cases_lt, false≢true}
pub use Rattle.std.proofs.lemmas.Cmp.{int_cmp_total, int_ranked, on_total, then_total}
pub use Rattle.std.proofs.lemmas.Int.{quot_fits, quot_is, to_z_pos}
pub use Rattle.std.proofs.lemmas.Nat.Gcd.{IsGcd-from_mod, IsGcd-from_sub, IsGcd-from_zero, IsGcd-swap, dvd-zero, dvd_antisymm, dvd_trans, le_of_dvd}
pub use Rattle.std.specs.Cmp.{IsTotalOrder, int_ranks, signed_Decides}
pub use Rattle.std.specs.Int.{IsGcd, ◌∣◌}
pub use Rattle.std.specs.Ordering.{MatchOrdering, int_cmp, int_eq, ordering_then}
pub use Rattle.std.specs.Prelude.{IfSome, ◌&&◌}
pub use Rattle.nef_space.proofs.Combination.{follows, given, none}
pub use Rattle.nef_space.proofs.Machine.{Code, Limited, const, exact_of, fits_of, load, size_of, wrap, ◌⊞◌, ◌⊟◌, ◌⊠◌}
pub use Rattle.nef_space.proofs.Order.{abs_minors, abs_plus, abs_times, by_order, cancel_eq, cancel_lt, mul_neg, mul_pos, pos-abs, sub_pos}
pub use Rattle.nef_space.proofs.Ring.{Poly, at, neg, num, ring, ◌⊕◌, ◌⊖◌, ◌⊗◌}
pub use Rattle.nef_space.proofs.Vectors.{dir-self, dot-comm, numbers, self-pos}
pub use Rattle.nef_space.specs.Limits.{axis_factor, direction_limit, half_side, normal_limit, offset_limit, point_limit, svertex_limit, weight_limit}
pub use Rattle.nef_space.specs.Numbers.{DividesAll, IsBelow, IsLowest}
pub use Rattle.nef_space.specs.Points.{Form, IsAhead, IsPointBelow, SamePoint, SpacePoint, form, form_at, form_numbers, normal_of, slope, toward, opposite_form}
pub use Rattle.nef_space.specs.Vectors.{IsAtMost, IsDirection, IsNormal, IsParallel, IsZero, SameDirection, Vector, beside_x, beside_y, beside_z, cross, direction_numbers, dot, opposite, plane_axis, plane_dir, triple, up, vector}
pub use Rattle.nef_geo.specs.Hits.{IsCrossing, IsPlaneDirSized, IsPointAtMost, IsReached, IsReachedBy, IsVertical}
pub use Rattle.nef_geo.specs.Meet.{IsOnlyCommon, IsSamePlane, IsStretched}
pub use Rattle.nef_geo.specs.Numbers.{IsAtMostFour, IsGcdOfFour, IsReduced, IsSameRatios, IsSomeOfFour}
pub use Rattle.nef_geo.specs.Reading.{IsInRange, IsPositiveMultiple}
pub use Rattle.nef_geo.specs.Shapes.{far_point, form_of, given_form, hit_point, point_at, point_of, vector_of}
pub use Rattle.nef_geo.specs.Signs.{sign_of}
pub use Rattle.nef_geo.specs.Steps.{HasOppositeSigns, IsZeroStep}
pub use Rattle.nef_geo.specs.Triples.{triple_vector, wide_vector}
pub use Rattle.nef_geo.specs.Ways.{second_beside}
pub use Rattle.nef_geo.specs.Widths.{far_den_limit, far_limit, far_num_limit, far_product_limit, far_weight_limit, hit_limit, hit_weight_limit, plane_dir_form_limit, plane_dir_hit_limit, plane_dir_limit, plane_dir_sum_limit, point_form_limit, ray_limit, ray_slope_limit, upright_limit, upright_weight_limit}
pub use Rattle.nef_geo.specs.declared.dir.Dir.{Dir}
pub use Rattle.nef_geo.specs.declared.hit.FarHit.{FarHit}
pub use Rattle.nef_geo.specs.declared.hit.Hit.{Hit}
pub use Rattle.nef_geo.specs.declared.plane.Plane.{Plane}
pub use Rattle.nef_geo.specs.declared.point.Point.{Point}
pub use Rattle.nef_geo.specs.declared.sign.Sign.TheVariants.{Minus, Plus, Zero}
