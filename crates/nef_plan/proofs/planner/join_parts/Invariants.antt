use Rattle.nef_plan.proofs.Prelude.{◌≡◌, ◌+◌, ◌≤◌, ℕ, [], length, PartsAreReady, AddsOnly, HasGrown, IsRowOf, row_parts}
use Rattle.nef_plan.proofs.planner.join_parts.Given as goal

abbrev pub invariant-loop-plan : goal.invariant-loop-plan
invariant-loop-plan l = record {
  grown : HasGrown l.initial.plan l.plan [];
  added : AddsOnly l.initial.plan l.plan (λ k. ⊥);
  ready : PartsAreReady l.plan l.row.kind (row_parts l.row);
  kind : l.row.kind ≡ l.initial.row.kind;
  joins : length l.plan.nodes + length l.row.others.items ≤ length l.initial.plan.nodes + length l.initial.row.others.items;
  row : (k : ℕ) → IsRowOf l.initial.plan l.initial.row k → IsRowOf l.plan l.row k;
}

abbrev pub decreases-loop-plan : goal.decreases-loop-plan
decreases-loop-plan l = length l.row.others.items
