-- The names that most proofs cite, passed on from one place. Declares nothing.
pub use Rattle.nef_space.proofs.Prelude.{Bool, List, [], ap, arith, by_lt_z, cond, false, inl, inr, ints, lt_of_mul-lt-mul_right, mul-le, mul-lt-mul_of_pos_right, mul-pos, nat_abs, neg_ℤ, negsuc, pos, refl, subst, suc, sym, true, unsigned_abs-mul, zero, ℕ, ℤ, ⊎_elim, ◌*ℤ◌, ◌*◌, ◌++◌, ◌+ℤ◌, ◌+◌, ◌-ℤ◌, ◌<ℤ◌, ◌<◌, ◌↔◌, ◌∙◌, ◌∷◌, ◌≡◌, ◌≤ℤ◌, ◌≤◌, ◌⊎◌}
pub use Rattle.std.proofs.Common.{◌-◌}
pub use Rattle.std.proofs.Math.Nat.{le-mul_of_pos_right, mul-le-mul_left, mul-lt-mul_of_pos_left}
pub use Rattle.std.proofs.lemmas.Bool.{cases_lt, cases_order}
pub use Rattle.nef_space.proofs.Combination.{follows, follows_times, given, none}
pub use Rattle.nef_space.proofs.Lists.{each, lies-each, lies-left, lies-right}
pub use Rattle.nef_space.proofs.Order.{Sign, abs-pos, abs_plus, abs_times, by_order, cancel_eq, cancel_lt, minus, minus-is, mul_le_right, mul_lt_right, mul_nonneg, mul_pos, nought, nought-is, nought-or, plus, plus-is, pos-abs, sign, sign-minus, sign-plus, sign-scaled, sign_of_product, square_nonneg, square_pos}
pub use Rattle.nef_space.proofs.Ring.{Poly, at, entry, neg, num, ring, ◌⊕◌, ◌⊖◌, ◌⊗◌}
pub use Rattle.nef_space.proofs.Vectors.{cross-none, cross-self, cross-turned, cross_of, direction-left, direction-right, dot-comm, dot-zero, dot_of, in-span, level-both, level_cross_second, nought-if, numbers, parallel-both, scaled-coordinates, self-pos, square-cross, triple-cycle, triple-dot, triple-in_plane, triple-middle, triple_poly, vec, vector-same, zero-decided, zero-dot}
pub use Rattle.nef_space.specs.Limits.{half_side}
pub use Rattle.nef_space.specs.Local.{Flat, FlatDim, Germ, HasFlat, HasLabel, IsEven, IsEvenPath, IsShort, IsVertex, Joined, SameSet}
pub use Rattle.nef_space.specs.Points.{Form, InClosedFrame, InFrame, IsBetween, IsPointBelow, NearNumber, Ratio, SamePoint, SpacePoint, Within, form, form_at, normal_of, slope, step, toward}
pub use Rattle.nef_space.specs.Sets.{Closure, Holds, InHalf, Interior, Set, halves}
pub use Rattle.nef_space.specs.Signs.{Lies, sign_times}
pub use Rattle.nef_space.specs.Vectors.{IsDirection, IsParallel, IsZero, SameDirection, Vector, blend, cross, dot, opposite, triple, vector, zero_vector}
pub use Rattle.nef_space.specs.declared.label.Label.{Label}
pub use Rattle.nef_space.specs.declared.label.Label.TheVariants.{In, Not, Out}
pub use Rattle.law_geometry.specs.near.Cells.{IsInAllAt, SameSigns, SameSlopes, SameSlopesAt, carriers, frame, side, sign_at}
pub use Rattle.law_geometry.specs.near.Cones.{FlatCone, IsMeet, NearGerm, SameCone, SameNear, combination, label_and, label_less, label_not, label_one_of, label_or, slide}
pub use Rattle.law_geometry.specs.near.Homogeneous.{Avoids, IsMixed, IsPassed, IsZeroForm, IsOnSegment, OnWay, SameUpToFactor, direction_form, form_amount, form_on, homogeneous, of_direction, of_point}
pub use Rattle.law_geometry.specs.near.Laws.{Drop, EdgeAround, EdgeSupport, FacetSupport, FirstChange, FirstPoint, IsFlatBelow, IsHeldBy, IsSettled, LabelsCombine, SameGerms, WayEnd}
