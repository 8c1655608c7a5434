-- The names that most clauses cite, passed on from one place. Declares nothing.
pub use Rattle.std.specs.Char.{is_ascii_alphabetic, is_ascii_alphanumeric, is_ascii_digit}
pub use Rattle.std.specs.Int.{IsGcd, ◌∣◌}
pub use Rattle.std.specs.IoError.{error_kind}
pub use Rattle.std.specs.List.{after_first, before_first, list_all, position}
pub use Rattle.std.specs.Option.{IsSomeAnd}
pub use Rattle.std.specs.Ordering.{MatchOrdering, int_cmp}
pub use Rattle.std.specs.Prelude.{All, Bool, IfErr, IfOk, IfSome, IsErrAnd, IsNone, IsOkAnd, IsTrue, List, MatchOption, MatchResult, None, OnErr, OnOk, Some, [], drop, false, filter, length, map, nat_abs, neg_ℤ, pos, slice_get, string_bytes, true, vec_len, ℕ, ℤ}
pub use Rattle.std.specs.declared.io.ErrorKind.TheVariants.{InvalidData}
pub use Rattle.nef_space.specs.Limits.{direction_limit, half_side, most_stairs, normal_limit, number_limit, offset_limit, point_limit, svertex_limit, weight_limit}
pub use Rattle.nef_space.specs.Numbers.{IsBelow, IsLowest}
pub use Rattle.nef_space.specs.Points.{Form, InClosedFrame, InFrame, IsAhead, IsBetween, IsPointBelow, Ratio, SamePoint, SpacePoint, Within, form, form_at, form_numbers, normal_of, opposite_form, plane_through, slope, step, toward}
pub use Rattle.nef_space.specs.Sets.{Holds, Set, halves}
pub use Rattle.nef_space.specs.Vectors.{IsAtMost, IsDirection, IsNormal, IsOpposite, IsParallel, IsZero, SameDirection, Vector, blend, cross, direction_numbers, dot, opposite, plane_axis, plane_dir, triple, up, vector}
pub use Rattle.nef_space.specs.Lists.{Chained, IsAt, IsInTable, NumbersClasses}
pub use Rattle.nef_space.specs.Local.{Flat, FlatDim, Germ, HasLabel, IsEven, IsVertex, Joined, SameSet}
pub use Rattle.nef_space.specs.Signs.{Lies, Sign, minus, nought, plus, sign}
