-- The names that most proofs cite, passed on from one place. Declares nothing.
pub use Rattle.nef_star.proofs.Prelude.{In, Not, vector_of}
pub use Rattle.nef_expr.proofs.Prelude.{Bool, Err, Form, Holds, IfOk, IsDirection, IsInRange, IsLowest, IsPositiveMultiple, List, Ok, Result, Set, SpacePoint, Vector, [], ap, arith, form, form_numbers, get_or, given_form, inl, inr, ints, length, nat_abs, normal_of, point_of, pos, refl, same-form, subst, suc, sym, true, turned_set, vector, zero, ℕ, ℤ, ◌++◌, ◌+◌, ◌<◌, ◌||◌, ◌∙◌, ◌∣◌, ◌∷◌, ◌≡◌, ◌≤◌, ◌⊎◌}
pub use Rattle.nef_locate.proofs.Prelude.{high-within, low-within}
pub use Rattle.nef_volumes.proofs.Prelude.{Decides-at, HasComponents, HasLabel, InFrame, Label, Out, ShowsSet, take, take_all, ◌↔◌}
pub use Rattle.std.proofs.Common.{leb}
pub use Rattle.nef_expr.proofs.Halves.{lowest-read, word}
pub use Rattle.nef_unique.proofs.Decides.{label-decides}
pub use Rattle.example_bracket.specs.Bracket.{FormNumbers, IsInBracket, IsInHole, IsInLeg, are_rows, bracket, common_set, cut_set, has_unit, hole, is_row, is_small, is_unit, leg, plate, row_form}
