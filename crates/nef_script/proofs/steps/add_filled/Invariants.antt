use Rattle.nef_script.proofs.Prelude.{◌≡◌, ◌++◌, drop, bytes_of, filled}
use Rattle.nef_script.proofs.steps.add_filled.Given as goal

abbrev pub invariant-loop-byte : goal.invariant-loop-byte
invariant-loop-byte l = l.text.items ++ filled (bytes_of l.at) (bytes_of l.low) (bytes_of l.high) (drop l.byte-index l.template) ≡ l.initial.text.items ++ filled (bytes_of l.at) (bytes_of l.low) (bytes_of l.high) l.template
