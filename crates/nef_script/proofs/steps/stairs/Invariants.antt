use Rattle.nef_script.proofs.Prelude.{◌≡◌, flat_map, range_with_len, script_of, step_lines}
use Rattle.nef_script.proofs.steps.stairs.Given as goal

abbrev pub invariant-loop-i : goal.invariant-loop-i
invariant-loop-i l = l.text.items ≡ script_of (flat_map step_lines (range_with_len 0 l.i))
