-- The names that most clauses cite, passed on from one place. Declares nothing.
pub use Rattle.nef_space.specs.Prelude.{All, IfOk, IfSome, List, OnOk, Set, Some, [], filter, length, nat_abs, normal_limit, offset_limit, slice_get, true, vec_len, ℕ}
pub use Rattle.nef_script.specs.Prelude.{SpeaksOfFirst, TurnsRight}
pub use Rattle.std.specs.Prelude.{reverse, slice_index}
pub use Rattle.nef_expr.specs.Nodes.{IsOperand, NamesBelow, node_set, operand, set_of, sets_after, shape_of}
pub use Rattle.nef_expr.specs.declared.nodes.Node.{Node}
pub use Rattle.nef_script.specs.Commands.{Binds}
pub use Rattle.nef_script.specs.declared.script.Command.{Command}
pub use Rattle.nef_plan.specs.Blocks.{axis_limit, term_limit}
pub use Rattle.nef_plan.specs.Drafts.{AreDrafts, AreNeeded, AreTimely, HasMore, IsMade, IsMadeAs, IsRightDraft, DraftLooksAt, Makes, MayFollow, asked}
pub use Rattle.nef_plan.specs.Groups.{AreGrouped, group}
pub use Rattle.nef_plan.specs.Numbers.{AreLastUses, AreUses, IsDraftBelow, IsLastAt, IsUsedBy, LookBelow, over, put_value, task_over, tasks_in, tasks_over, value_of}
pub use Rattle.nef_plan.specs.Questions.{AreWorkable, AsksAbout, first_asked, is_question, second_asked}
pub use Rattle.nef_plan.specs.Rows.{AreOfOneKind, ArePlanned, PartsAreReady, BeginsWith, GoesOn, AddsOnly, HasGrown, IsBoundIn, IsFree, IsNodeReady, IsRowOf, combined, joined, row_parts, spare}
pub use Rattle.nef_plan.specs.Values.{AreEndedAt, IsPlanOf, LooksAtValue, first_of, first_value, second_of, second_value, joins_a_line}
pub use Rattle.nef_plan.specs.declared.planner.Draft.{Draft}
pub use Rattle.nef_plan.specs.declared.planner.Drafts.{Drafts}
