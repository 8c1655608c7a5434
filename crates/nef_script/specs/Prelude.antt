-- The names that most clauses cite, passed on from one place. Declares nothing.
pub use Rattle.nef_geo.specs.Prelude.{All, IfOk, IsAtMost, IsPointAtMost, List, None, OnOk, Some, [], bytes_eq, codes, find, length, list_any, most_stairs, nat_abs, normal_limit, number_limit, offset_limit, point_of, pos, position, query_limit, query_weight_limit, ray_direction_limit, vector_of, ℕ}
pub use Rattle.std.specs.Option.{option_map}
pub use Rattle.nef_lex.specs.Lines.{lines_of}
pub use Rattle.nef_lex.specs.Words.{words_of}
pub use Rattle.nef_script.specs.Boxes.{bytes_of, count_command, filled, join_lines, step_box}
pub use Rattle.nef_script.specs.Commands.{AreBoundBefore, TurnsRight}
pub use Rattle.nef_script.specs.Laws.{AcceptedExample, AcceptedOrRefused, BadModeExample, BadNameExample, BadWeightExample, CommandsFound, FarPointExample, FirstLineExample, LongDirectionExample, NameTakenExample, NeverBoth, NotANumberExample, OneRefusal, OutOfRangeExample, OwnNameExample, UnknownCommandExample, UnknownNameExample, WordCountExample, ZeroDirectionExample, ZeroNormalExample, script_of}
pub use Rattle.nef_script.specs.Meaning.{IsGiven, IsQuotient, IsToward, MeansScript, NamesNode, SpeaksOfFirst, bases_of}
pub use Rattle.nef_script.specs.Names.{pointed}
pub use Rattle.nef_script.specs.Outcome.{BindsNew, IsRead, IsStatement, LineSays, Reads, are_zero, both, earlier, is_direction, is_normal, no_room, refused, roles_test, some_fails}
pub use Rattle.nef_script.specs.Reading.{AddsLine, AddsWords, IsSoundState, LastTwoAre, SecondIs, state}
pub use Rattle.nef_script.specs.Refusal.{FirstRefusal, IsAccepted, line_refusal}
pub use Rattle.nef_script.specs.Stairs.{box_name, stairs_text, whole_name}
pub use Rattle.nef_script.specs.Table.{verb_of}
pub use Rattle.nef_script.specs.Tests.{is_bad_byte, name_count_limit, number_or_zero, word_test}
pub use Rattle.nef_script.specs.declared.arguments.Verb.{Verb}
pub use Rattle.nef_script.specs.declared.script.ScriptKind.{ScriptKind}
