-- The names that most proofs cite, passed on from one place. Declares nothing.
pub use Rattle.std.proofs.Common.{Bool, List, Some, [], ap, arith, cond, false, get_or, inl, inr, length, neg_ℤ, negsuc, of_z, pos, refl, rules, slice_index_or, subst, suc, sym, take, to_z, true, w8, zero, ℕ, ℤ, ◌%◌, ◌*◌, ◌+◌, ◌-◌, ◌/◌, ◌<◌, ◌^◌, ◌∙◌, ◌∷◌, ◌≡◌, ◌≤◌}
pub use Rattle.std.proofs.lemmas.Grind.{common_steps, pow_more}
pub use Rattle.std.proofs.lemmas.Int.{ints, to_z-of_z}
pub use Rattle.std.proofs.lemmas.Option.{get_or_from_slice_get, slice_get-get_or}
pub use Rattle.std.specs.Int.{is_negative}
pub use Rattle.std.specs.List.{All}
pub use Rattle.std.specs.Ordering.{int_eq}
pub use Rattle.std.specs.Prelude.{nat_abs, nat_le, nat_lt, slice_get, unsigned_abs, ◌==◌}
pub use Rattle.nef_case.specs.Keys.{IsSign, digit_of, key_number, row_of}
pub use Rattle.nef_case.specs.Labels.{and_of, closure_of, diff_of, interior_of, or_of, xor_of}
pub use Rattle.nef_case.specs.Turns.{IsComposition, IsEntry, IsRowOfTurn, IsTurnRow, Triple, Undoes, coordinate, has_bit, made_by, named_by, negated, negated_if, numbered, ordered, row_triple, turned}
