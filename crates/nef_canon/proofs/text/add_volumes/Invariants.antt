use Rattle.nef_canon.proofs.Prelude.{◌≡◌, ◌++◌, take, flat_map, volume_line, shell_line, with_rows}
use Rattle.nef_canon.proofs.Lines.{versioned}
use Rattle.nef_canon.proofs.text.add_volumes.Given as goal

abbrev pub invariant-loop-number : goal.invariant-loop-number
invariant-loop-number l = l.text.items ≡ l.fn.text.items ++ flat_map (versioned volume_line (flat_map shell_line) l.version) (take l.number (with_rows l.parts.volumes l.parts.shells))
