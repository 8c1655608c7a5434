use Rattle.nef_shell.proofs.Prelude.{◌≡◌, ◌+◌, length, AreEarly, AreLate, IsIndex}
use Rattle.nef_shell.proofs.ahead.early_values.Given as goal

abbrev pub invariant-loop-value : goal.invariant-loop-value
invariant-loop-value l = record {
  place : l.value ≡ l.now + length l.index.items;
  early : AreEarly l.steps l.values l.early.items;
  late : AreLate l.now l.early.items;
  index : IsIndex l.now l.index.items l.early.items;
}
