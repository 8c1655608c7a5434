-- The names that most proofs cite, passed on from one place. Declares nothing.
pub use Rattle.law_geometry.proofs.near.Prelude.{Closure, HasLabel, In, InFrame, Interior, Label, Lies, Not, Out, SameSet, halves, label_and, label_less, label_one_of, label_or, lies-left, lies-right, ⊎_elim}
pub use Rattle.nef_core.proofs.Prelude.{vec_capacity, vec_len}
pub use Rattle.nef_expr.proofs.Prelude.{Form, IsOperand, List, NamesBelow, Set, Shape, Some, SpacePoint, Uses, [], ap, append-nil, append_assoc, arith, cases_eq, cases_lt, drop, false, get_or, get_or-append, get_or-append_seam, get_or_from_slice_get, inl, inr, length, length-append, node_set, operand, refl, set_of, sets_after, shape_of, slice_get, slice_get-get_or, slice_get_read, slice_get_within, slice_index, subst, suc, sym, take-append_seam, true, turned_set, zero, ℕ, ◌++◌, ◌*◌, ◌+◌, ◌-◌, ◌<◌, ◌↔◌, ◌∙◌, ◌∷◌, ◌≡◌, ◌≤◌, ◌⊎◌}
pub use Rattle.nef_script.proofs.Prelude.{All-cons, All-head, All-nil, All-tail, All-weaker, Node, None, Option, SpeaksOfFirst, TurnsRight, filter-append, on_ok_weaker, place-push, slice_get-left, slice_get-seam, take}
pub use Rattle.std.proofs.Common.{Bor, Vec, filter, reverse}
pub use Rattle.std.proofs.lemmas.List.{get_or-set_other, get_or-set_same, get_or_past, length-take-le, reverse-append, take-append-drop, take-take, take_all, take_more}
pub use Rattle.std.proofs.lemmas.List.Elements.{All-append, All-filter}
pub use Rattle.std.proofs.lemmas.Option.{slice_get_cases}
pub use Rattle.std.proofs.lemmas.Result.{IfOk-weaker}
pub use Rattle.std.specs.Option.{unwrap_or}
pub use Rattle.std.specs.Prelude.{All, IfSome, slice_set}
pub use Rattle.nef_expr.proofs.Operands.{names-from, names-wider}
pub use Rattle.nef_expr.proofs.Places.{one-there, slice_get-below}
pub use Rattle.nef_expr.proofs.Sets.{each-set, earlier-sets_stay, new-set, set_of-same}
pub use Rattle.nef_script.specs.Commands.{Binds}
pub use Rattle.nef_script.specs.declared.script.Command.{Command}
pub use Rattle.nef_plan.specs.Alike.{AreAlike}
pub use Rattle.nef_plan.specs.Drafts.{AreDrafts, AreNeeded, AreTimely, HasMore, IsMade, IsMadeAs, IsNeeded, IsOfOthers, IsRightDraft, IsTurnedFrom, DraftLooksAt, Makes, MayFollow, asked}
pub use Rattle.nef_plan.specs.Groups.{AreApart, AreGrouped, AreNeededFor, AreOnce, AreSettled, IsAtHand, IsGroup, IsNeededFor, IsNone, StandsBy, group}
pub use Rattle.nef_plan.specs.Numbers.{AreLastUses, AreUses, IsDraftBelow, IsLastAt, IsUsedBy, LookBelow, over, put_value, put_values, task_over, tasks_in, tasks_over, value_of}
pub use Rattle.nef_plan.specs.Questions.{AsksAbout, IsDue, first_asked, is_question, second_asked}
pub use Rattle.nef_plan.specs.Rows.{AreOfOneKind, ArePlanned, PartsAreReady, BeginsWith, GoesOn, AddsOnly, HasGrown, IsBoundIn, IsFree, IsNodeReady, IsRowOf, IsNodeKnown, MakesOnly, RowMakesSet, Tells, combined, row_ended, joined, joined_after, row_parts, spare}
pub use Rattle.nef_plan.specs.Values.{AreEndedAt, AreNamesNeeded, AsksNamed, IsAnswered, IsNameNeeded, IsNeededBy, IsPlanOf, IsTask, IsTimely, IsValue, IsValueOf, LooksAtNamed, LooksAtValue, MakesValue, NoneLooksFrom, asked_values, first_value, joins_a_line, name_of, questions_of, second_value, task_set, value_set, values_after}
pub use Rattle.nef_plan.specs.declared.planner.Draft.{Draft}
pub use Rattle.nef_plan.specs.declared.planner.Draft.TheVariants.{Ask, Make, Turn}
pub use Rattle.nef_plan.specs.declared.planner.Drafts.{Drafts}
pub use Rattle.nef_plan.specs.declared.row.Bound.{Bound}
pub use Rattle.nef_plan.specs.declared.row.Bound.TheVariants.{Deferred, Made, No}
pub use Rattle.nef_plan.specs.declared.row.Row.{Row}
pub use Rattle.nef_plan.specs.declared.row.RowKind.{RowKind}
pub use Rattle.nef_plan.specs.declared.step.Step.{Step}
pub use Rattle.nef_plan.specs.declared.step.Task.{Task}
