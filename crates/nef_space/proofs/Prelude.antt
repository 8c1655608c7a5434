-- The names that most proofs cite, passed on from one place. Declares nothing.
pub use Rattle.std.proofs.Common.{Bool, FitsSigned, List, T, [], ap, arith, cond, eqb, false, inl, inr, length, ltb, nat_abs, neg_ℤ, negsuc, of_z, pos, refl, subst, suc, sym, to_z, true, unsigned_abs, zero, ℕ, ℤ, ⊎_elim, ◌&&◌, ◌*ℤ◌, ◌*◌, ◌++◌, ◌+ℤ◌, ◌+◌, ◌-ℤ◌, ◌<ℤ◌, ◌<◌, ◌^◌, ◌↔◌, ◌∙◌, ◌∷◌, ◌≡◌, ◌≤ℤ◌, ◌≤◌, ◌⊎◌}
pub use Rattle.std.proofs.Math.Nat.{lt_of_mul-lt-mul_right, mul-lt-mul_of_pos_right, mul-pos}
pub use Rattle.std.proofs.lemmas.Int.{by_lt_z, fits_signed_from_abs, ints, to_z-of_z, unsigned_abs-mul}
pub use Rattle.std.proofs.lemmas.Nat.{mul-le}
pub use Rattle.nef_space.specs.Polynomial.{KeyOrder, Term, Tree, all_nought, entry, gather_term, gather_terms, insert_variable, insert_variables, is_nought, key_less, key_more, key_same, leaf, negated_terms, node, order_keys, terms, times_term, times_terms, value}
