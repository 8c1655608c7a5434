use Rattle.nef_plan.proofs.Prelude.{◌≡◌, ℕ, ◌+◌, ◌*◌, ◌<◌, ◌≤◌, Some, length, take, filter, slice_get, Command, Binds, ArePlanned, GoesOn, IsBoundIn, AreTimely, is_question, joins_a_line}
use Rattle.nef_plan.proofs.Added.{BindsBefore}
use Rattle.nef_plan.proofs.planning.add_commands.Given as goal

abbrev pub invariant-loop-command : goal.invariant-loop-command
invariant-loop-command l = record {
  planned : ArePlanned l.plan l.bounds;
  goes_on : GoesOn l.initial.plan l.initial.bounds l.plan l.bounds (filter is_question (take l.command-index l.command-items));
  timely : AreTimely l.script.nodes l.command-items l.plan.steps.items;
  whence : (k : ℕ) → IsBoundIn l.bounds k → BindsBefore l.command-items l.command-index k;
  within : l.command-index ≤ length l.command-items;
  joins : length l.plan.nodes ≤ length l.initial.plan.nodes + joins_a_line * l.command-index;
  bound : (i k : ℕ) (c : Command) → i < l.command-index → slice_get l.command-items i ≡ Some c → Binds c k → IsBoundIn l.bounds k;
}
