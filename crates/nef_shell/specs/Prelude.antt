-- The names that most clauses cite, passed on from one place. Declares nothing.
pub use Rattle.nef_complex.specs.Prelude.{HasLabel, IfErr, IfOk, IfSome, IsErr, IsOk, IsParts, IsTrue, List, None, OnOk, SameSet, Set, ShowsSet, Some, Text, [], complex_of, exit_status, length, map, most_stairs, option_copied, option_map, point_of, slice_get, slice_set, string_bytes, text, true, vec_len, vector_of, ℕ}
pub use Rattle.nef_result.specs.Prelude.{given_of, op_set}
pub use Rattle.nef_plan.specs.Prelude.{AreEndedAt, AreWorkable, LooksAtValue, Node, SpeaksOfFirst, first_asked, first_of, first_value, operand, second_asked, second_of, second_value, set_of, shape_of}
pub use Rattle.std.specs.Prelude.{IsSomeAnd}
pub use Rattle.nef_io.specs.Bytes.{Grows, GrowsWithin, Rose}
pub use Rattle.nef_ops.specs.Nodes.{unary_set}
pub use Rattle.nef_words.specs.Grammar.{options_in}
pub use Rattle.nef_script.specs.Limits.{IsRayWithin}
pub use Rattle.nef_plan.specs.Values.{AreSteps, IsTask, MakesValue, asked_values, task_set}
pub use Rattle.nef_plan.specs.declared.step.Step.{Step}
pub use Rattle.nef_statement.specs.Output.{IsJoinedAnswer, IsRayAnswer, IsSameAnswer, answer_of, end_line, framed, number_and_blank, refusal_line, words_line}
pub use Rattle.nef_statement.specs.Statement.{ProgramSays, RunSays}
pub use Rattle.nef_statement.specs.Status.{status_code}
pub use Rattle.nef_statement.specs.Texts.{IsText, IsWrittenOf, count_line}
pub use Rattle.nef_statement.specs.Traffic.{traffic}
pub use Rattle.nef_shell.specs.Answers.{HasEnded, HasNoScript, IsScriptFor, IsWorked}
pub use Rattle.nef_shell.specs.Asked.{AreAsked, IsAskedOf, IsAskedOfOther}
pub use Rattle.nef_shell.specs.Early.{AreEarly, AreLate, ArePut}
pub use Rattle.nef_shell.specs.Ended.{RunEnds}
pub use Rattle.nef_shell.specs.Held.{AreHeld, AreStill, IsHeld, IsHeldAt, IsNewlyHeld, IsShownAt, IsSpent, IsThere, cleared, complex_at, complex_in, handed_complex, without_parts}
pub use Rattle.nef_shell.specs.Lean.{AreAwaitedKept, AreLess, AreMore, ArePlaced, HasDone, IsLastUse, IsLean, IsLet, StandAt}
pub use Rattle.nef_shell.specs.Operations.{AreMeans, IsLent, IsShown, MakesSet}
pub use Rattle.nef_shell.specs.Output.{IsPiece, printed}
pub use Rattle.nef_shell.specs.Pieces.{joined_answer, piece_bytes, same_answer}
pub use Rattle.nef_shell.specs.Program.{IsCollected, ProgramEnds}
pub use Rattle.nef_shell.specs.Status.{MatchStatus}
pub use Rattle.nef_shell.specs.Working.{WorkEnds}
pub use Rattle.nef_shell.specs.Written.{CountsComponents, PiecesAreOne, TextHolds, TextsTellSets}
pub use Rattle.nef_shell.specs.declared.early.Early.{Early}
