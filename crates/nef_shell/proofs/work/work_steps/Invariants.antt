use Rattle.nef_shell.proofs.Prelude.{◌≡◌, ℕ, take, List, Node, Grows, asked_values, AreAsked, IsLean, IsOutput, StandAt}
use Rattle.nef_shell.proofs.work.work_steps.Given as goal

abbrev pub invariant-loop-now : goal.invariant-loop-now
invariant-loop-now g l = record {
  quiet : g.K.Sink.faults l.sink ≡ g.K.Sink.faults l.fn.sink;
  written : (nodes : List Node) → AreAsked nodes l.steps → (output : List ℕ) × IsOutput l.means.options.text nodes (asked_values (take l.now l.steps)) output × Grows (g.K.Sink.written l.fn.sink) (g.K.Sink.written l.sink) output;
  stand : StandAt l.means.options.text l.steps l.now l.values;
  lean : IsLean l.steps l.now l.values;
}
