-- The names that most proofs cite, passed on from one place. Declares nothing.
pub use Rattle.nef_result.proofs.Prelude.{Carriers, frame}
pub use Rattle.nef_volumes.proofs.Prelude.{Decides-eqb, Err, Ok, Result, ShowsSet, YieldsList-from_vec}
pub use Rattle.nef_sched.proofs.Prelude.{IfSome, IsReady, IsSomeAnd, flat, is_some, kept, length-append, length-set, slice_index_or, slice_set}
pub use Rattle.nef_script.proofs.Prelude.{IsErrAnd, codes, err_from_is_err_and}
pub use Rattle.nef_plan.proofs.Prelude.{All, AreAlike, AreEndedAt, Bor, IfOk-weaker, IsAnswered, IsOperand, IsValueOf, LooksAtValue, MakesValue, NamesBelow, SpeaksOfFirst, Uses, asked_values, cases_eq, cases_lt, first_asked, first_value, halves, is_question, lies-left, lies-right, on_ok_weaker, operand, questions_of, second_asked, second_value, set_of-same, shape_of, slice_get, slice_get_cases, slice_get_read, take_all, take_more, task_set, turned_set, value_set, values_after}
pub use Rattle.nef_statement.proofs.Prelude.{AreBytesRead, AreSaid, Bindings, Bool, Command, Complex, Ended, FirstRefusal, FlatDim-by_cone, Form, Grows, GrowsWithin, HasLabel, InFrame, IsAccepted, IsBinding, IsJoinedAnswer, IsMeant, IsOrdered, IsRayAnswer, IsSaid, IsSaidBy, IsSameAnswer, IsText, IsTrue, IsWrittenOf, Label, Lies, List, Means, MeansCommand, MeansLines, MeansScript, MeansWords, NamesNode, Node, None, Option, Options, ReadSource, Rose, SameDirection-turned, SameSet, ScriptKind, Set, Sets, Shape, Shows, Some, SpacePoint, TextVersion, Traffic, Verb, WroteFront, [], answer_of, ap, append-nil, append_assoc, arith, bases_of, binds, bound_after, bound_set, carriers, complex_of, cones-of_same, count_line, drop, false, framed, get_or, has_words, inl, inr, label-one, length, lies-append, line_end, lines_of, map, never_both, node_set, option_map, options_in, point_at, point_of, refl, refusal_line, same-point_sym, script_limit, slice_get-get_or, slice_get_within, stairs_text, subst, suc, sym, take, take-append-drop, text, true, vector, vector_of, words_line, words_of, zero, ℕ, ⊎_elim, ◌++◌, ◌+◌, ◌<◌, ◌↔◌, ◌∙◌, ◌∷◌, ◌≡◌, ◌≤◌, ◌⊎◌}
pub use Rattle.std.proofs.Common.{string_bytes}
pub use Rattle.std.proofs.lemmas.List.{append_cancel_left, append_cancel_right}
pub use Rattle.std.specs.Option.{option_copied, option_zip}
pub use Rattle.std.specs.Prelude.{Box, IsOkAnd, cond, filter, option_and_then}
pub use Rattle.nef_core.proofs.Places.{get_set_here, get_set_other}
pub use Rattle.nef_complex.specs.Text.{Text}
pub use Rattle.nef_expr.specs.Nodes.{UsesBelow}
pub use Rattle.nef_script.specs.declared.script.Command.TheVariants.{Bind, Count, Has, Joined, Print, Ray, Same}
pub use Rattle.nef_plan.proofs.Valued.{asked_values-append, value-before, value-here}
pub use Rattle.nef_plan.specs.Values.{AreAnswered, AreSteps, AsksRight, IsAwaited, IsEndedAt, first_of, second_of}
pub use Rattle.nef_plan.specs.declared.step.Step.{Step}
pub use Rattle.nef_plan.specs.declared.step.Task.{Task}
pub use Rattle.nef_plan.specs.declared.step.Task.TheVariants.{Ask, Make, Turn}
pub use Rattle.nef_statement.proofs.Grown.{grows_within-longer, grows_within-none}
pub use Rattle.nef_statement.proofs.Meant.{read-none, read-not_refused, source-read}
pub use Rattle.nef_statement.proofs.Texts.{count-tells, counted-one, same-texts, text-holds, text-spells}
pub use Rattle.nef_statement.specs.Statement.{ProgramSays, RunSays}
pub use Rattle.nef_statement.specs.Status.{status_code, unaccepted, unread}
pub use Rattle.nef_statement.specs.Traffic.{Streams, traffic}
pub use Rattle.nef_statement.specs.declared.status.Status.{Status}
pub use Rattle.nef_statement.specs.declared.status.Status.TheVariants.{Done, OutOfMemory, ReadFault, Refused, Words, WriteFault}
pub use Rattle.nef_shell.specs.Answers.{HasEnded, HasFront, HasNoScript, HasOutput, IsScriptFor}
pub use Rattle.nef_shell.specs.Asked.{AreAsked, AsksOf, IsAskedOf, IsAskedOfOther}
pub use Rattle.nef_shell.specs.Early.{AreEarly, AreLate, ArePut, IsEarly, IsEarlyAt, IsIndex, IsOperandKept, ShowsItsSet, first_need, needed_complex, second_need}
pub use Rattle.nef_shell.specs.Ended.{RunEnds}
pub use Rattle.nef_shell.specs.Held.{AreHeld, AreStill, IsHeld, IsHeldAt, IsNewlyHeld, IsShownAt, IsSpent, IsThere, cleared, complex_at, complex_in, handed_complex}
pub use Rattle.nef_shell.specs.Lean.{AreAwaitedKept, AreLess, AreMore, ArePlaced, HasDone, IsLastUse, IsLean, IsLet, StandAt}
pub use Rattle.nef_shell.specs.Operations.{IsLent, IsShown}
pub use Rattle.nef_shell.specs.Output.{IsOutput, IsPiece, printed}
pub use Rattle.nef_shell.specs.Pieces.{joined_answer, piece_bytes, same_answer}
pub use Rattle.nef_shell.specs.Working.{FrontOf, WorkEnds}
pub use Rattle.nef_shell.specs.declared.early.Early.{Early}
pub use Rattle.nef_shell.specs.declared.held.Held.{Held}
