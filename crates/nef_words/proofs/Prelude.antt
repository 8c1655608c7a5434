-- The names that most proofs cite, passed on from one place. Declares nothing.
pub use Rattle.nef_core.proofs.Prelude.{Option, suc, zero, ◌&&◌, ◌⊎◌}
pub use Rattle.nef_lex.proofs.Prelude.{Bool, List, None, Some, [], after_first, ap, arith, before_first, decimal_value, drop, false, inl, inr, is_digits, length, not, refl, subst, sym, take, true, ℕ, ◌++◌, ◌+◌, ◌==◌, ◌∙◌, ◌∷◌, ◌≡◌, ◌≤◌}
pub use Rattle.clap.specs.Faults.{check_fault, default_fault, defaults_fault, entered_fault, react_fault, settle_fault, turn_fault, use_fault}
pub use Rattle.clap.specs.Kinds.{Kinds, or_else}
pub use Rattle.clap.specs.Lexer.{long_of, short_of}
pub use Rattle.clap.specs.Simple.{Shape, app_of_fields, built, entered, filled, help_rule, with_index}
pub use Rattle.clap.specs.Walk.{Held, Row, Rule, Text, Waiting, Walk, arg_by_id, arg_by_index, arg_by_long, arg_by_short, at_row, finished, first_of, has_row, idle, more_values, nothing_held, option, option_word, reading_by, settled, settled_rows, used, walk_from, with_default, without}
pub use Rattle.clap.specs.Words.{App, FailsBy, HasKind, HasMatchesOf, IsAmong, app_of, fault_of, first_value, found_of, is_simple, is_simple_and_free, kind_of, matches_of, rows_of, with_rule}
pub use Rattle.clap.specs.declared.parser.matches.ValueSource.TheVariants.{CommandLine, DefaultValue}
pub use Rattle.std.proofs.Common.{Err, IfErr, IfOk, Ok, Result, ap₂, codes, nat_le, ◌||◌}
pub use Rattle.std.proofs.lemmas.Slice.Eq.{bytes_eq-Decides}
pub use Rattle.std.specs.List.{list_any, prefix_len}
pub use Rattle.std.specs.Prelude.{bytes_eq, find, fold, if◌then◌else◌, is_some, option_and_then, option_map, slice_get, unwrap_or}
pub use Rattle.std.specs.Str.{chars}
pub use Rattle.nef_space.specs.Limits.{most_stairs}
pub use Rattle.nef_core.specs.declared.work.BoardKind.{BoardKind}
pub use Rattle.nef_core.specs.declared.work.TextVersion.{TextVersion}
pub use Rattle.nef_words.specs.Chosen.{board_named, number_to, options_from, options_of, stairs_of, version_named}
pub use Rattle.nef_words.specs.Grammar.{all_formed, choice, once, option_in, option_value, read}
pub use Rattle.nef_words.specs.Usage.{given, option_named, usage, without_name}
pub use Rattle.nef_words.specs.Values.{GivenOptions, board_of, is_given, options_of_values, text_of, workers_of}
pub use Rattle.nef_words.specs.declared.words.Options.{Options}
