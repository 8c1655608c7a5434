-- The names that most proofs cite, passed on from one place. Declares nothing.
pub use Rattle.nef_geo.proofs.Prelude.{IsPointAtMost, IsZero, Option, SameDirection, SamePoint, le_of_dvd, lit≤, point_at, pos-abs, to_z-of_z, vector_of, weight_limit, ◌^◌}
pub use Rattle.nef_expr.proofs.Prelude.{AreOrigins, BTreeMap, Bool, Err, Extends, HasOrigin, IfOk, IsAtMost, IsCopyOf, IsInRange, IsOperand, IsPositiveMultiple, List, NodeTable, Ok, Result, Some, Stays, TurnOf, [], ap, append-nil, append_assoc, arith, cases_lt, common_steps, cond, drop, false, form, get_or, get_or-append, get_or_from_slice_get, given_form, inl, inr, ints, length, length-append, length-map, map, nat_abs, nat_cmp, ne_eqb, negsuc, normal_limit, not, of_z, offset_limit, origin, point_limit, point_of, pos, refl, slice_get-get_or, slice_get_within, slice_index_or, subst, suc, sym, take-append_seam, to_z, true, unsigned_abs-mul, vector, w64, zero, ℕ, ℤ, ◌&&◌, ◌*ℤ◌, ◌*◌, ◌++◌, ◌+◌, ◌-◌, ◌<ℤ◌, ◌<◌, ◌||◌, ◌∙◌, ◌∷◌, ◌≡◌, ◌≤◌, ◌⊎◌}
pub use Rattle.nef_lex.proofs.Prelude.{All, All-cons, All-head, All-nil, All-tail, All-weaker, LacksFeed, None, carriage_return, cases_Bool, each_ended, enumerate_from, eqb_tells, filter, if◌then◌else◌, is_line_feed, line_feed, pieces_of, rules, take, without_return, ◌==◌}
pub use Rattle.std.proofs.Common.{codes, is_none, is_some, nat_eq, nat_le, slice_get}
pub use Rattle.std.proofs.lemmas.Bool.{eqb-true, le-leb, leb-true, ltb-false, ltb-true}
pub use Rattle.std.proofs.lemmas.List.{map-append, take-append-le}
pub use Rattle.std.proofs.lemmas.List.Elements.{All-push, filter-append}
pub use Rattle.std.proofs.lemmas.Result.{err_from_is_err_and, on_ok_weaker}
pub use Rattle.std.specs.List.{find, flat_map, list_any, position, position_from, range_with_len}
pub use Rattle.std.specs.Option.{option_map}
pub use Rattle.std.specs.Prelude.{IsErrAnd, nat_lt}
pub use Rattle.std.specs.Str.{bytes_eq}
pub use Rattle.nef_space.specs.Limits.{most_stairs, query_limit, query_weight_limit, ray_direction_limit, ray_point_limit, ray_weight_limit}
pub use Rattle.nef_geo.specs.declared.point.Point.{Point}
pub use Rattle.nef_expr.proofs.Places.{place-push, slice_get-left, slice_get-seam}
pub use Rattle.nef_expr.proofs.Tables.{extends-length, extends-turn}
pub use Rattle.nef_expr.specs.Table.{table}
pub use Rattle.nef_expr.specs.declared.nodes.Node.{Node}
pub use Rattle.nef_lex.specs.Lines.{lines_of}
pub use Rattle.nef_lex.specs.Words.{words_of}
pub use Rattle.nef_script.specs.Boxes.{bytes_of, count_command, filled, join_lines, or_line, step_box}
pub use Rattle.nef_script.specs.Checks.{command_test, kinds, on_command}
pub use Rattle.nef_script.specs.Commands.{AreBoundBefore, IsBound, LooksAt, TurnsRight}
pub use Rattle.nef_script.specs.Laws.{AcceptedExample, AcceptedOrRefused, BadModeExample, BadNameExample, BadWeightExample, CommandsFound, FarPointExample, FirstLineExample, LongDirectionExample, NameTakenExample, NeverBoth, NotANumberExample, OneRefusal, OutOfRangeExample, OwnNameExample, UnknownCommandExample, UnknownNameExample, WordCountExample, ZeroDirectionExample, ZeroNormalExample, script_of}
pub use Rattle.nef_script.specs.Limits.{KeepsRayLimits}
pub use Rattle.nef_script.specs.Meaning.{IsBind, IsBinding, IsNodeOfLine, IsQuestion, IsQuotient, IsTurn, MeansCommand, MeansLines, MeansWords, NamesNode, Sets, SpeaksOfFirst, adds_base, bases_of, has_words}
pub use Rattle.nef_script.specs.Names.{HasNumbers, pointed}
pub use Rattle.nef_script.specs.Outcome.{BindsNew, IsNewName, IsRead, IsStatement, LineSays, are_zero, both, earlier, first_kind_of, is_direction, is_normal, kind_number, no_room, refused, roles_test, some_fails}
pub use Rattle.nef_script.specs.Progress.{HasRead}
pub use Rattle.nef_script.specs.Reading.{AddsCommand, AddsLine, AddsWords, IsSoundState, LastTwoAre, ReadState, ReadStep, SecondIs, number_at, sets_of, state}
pub use Rattle.nef_script.specs.Refusal.{FirstRefusal, IsAccepted, NoneRefused, RefusalAt, bound_name, line_refusal, names_of, script_limit}
pub use Rattle.nef_script.specs.Stairs.{box_lines, box_name, stairs_text, step_lines, whole_name}
pub use Rattle.nef_script.specs.Table.{Coefficient, Index, Mode, NewName, Operand, Role, Weight, begins_new, binds, is_own, roles, verb_of}
pub use Rattle.nef_script.specs.Tests.{command_tests, has_zero_direction, has_zero_normal, is_bad_byte, is_zero, line_limit, name_count_limit, number_or_zero, on_verb, word_test, words_tests}
pub use Rattle.nef_script.specs.declared.arguments.Verb.{Verb}
pub use Rattle.nef_script.specs.declared.script.Command.{Command}
pub use Rattle.nef_script.specs.declared.script.Command.TheVariants.{Bind, Count, Has, Joined, Ray, Same, Turn}
pub use Rattle.nef_script.specs.declared.script.ScriptKind.{ScriptKind}
pub use Rattle.nef_script.specs.declared.statement.Statement.{Statement}
pub use Rattle.nef_script.specs.declared.statement.Statement.TheVariants.{Ask, Print}
