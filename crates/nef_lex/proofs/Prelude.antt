-- The names that most proofs cite, passed on from one place. Declares nothing.
pub use Rattle.nef_space.proofs.Prelude.{Bool, List, [], ap, arith, cond, false, inl, inr, length, neg_ℤ, pos, refl, subst, sym, true, ℕ, ◌*◌, ◌++◌, ◌+◌, ◌<◌, ◌∙◌, ◌∷◌, ◌≡◌, ◌≤◌}
pub use Rattle.std.proofs.Common.{None, Some, add-one, append-nil, drop, get_or, if◌then◌else◌, length-append, map, not, rules, take, ◌-◌, ◌==◌, ◌≢◌}
pub use Rattle.std.proofs.lemmas.Bool.{cases_Bool, cases_lt, ne_eqb}
pub use Rattle.std.proofs.lemmas.Bool.Decides.{eqb_tells}
pub use Rattle.std.proofs.lemmas.Grind.{common_steps}
pub use Rattle.std.proofs.lemmas.List.Elements.{All-cons, All-head, All-nil, All-tail, All-weaker}
pub use Rattle.std.specs.List.{All, after_first, before_first, enumerate_from, filter, onto_first, position_or_len, slice_split}
pub use Rattle.nef_lex.specs.Laws.{EndedPieces, IsGap, IsParted, IsRest, IsWord, LacksFeed, OthersKept, PiecesOfEnded, ReturnDropped, SpacedWords, WordsOfSpaced, each_ended, is_comment_mark, is_word_byte, spaced}
pub use Rattle.nef_lex.specs.Lines.{carriage_return, is_line_feed, line_feed, numbered_lines, pieces_of, without_return}
pub use Rattle.nef_lex.specs.Numbers.{decimal_value, has_minus, is_digits, minus_sign, number_of, without_minus, zero_digit}
pub use Rattle.nef_lex.specs.Words.{comment_mark, is_filled, is_gap}
