use Rattle.nef_canon.proofs.Prelude.{◌≡◌, ◌++◌, take, blanked}
use Rattle.nef_complex.specs.Text.{signed_numbers}
use Rattle.nef_canon.proofs.words.add_signed.Given as goal

abbrev pub invariant-loop-n : goal.invariant-loop-n
invariant-loop-n l = l.text.items ≡ l.fn.text.items ++ blanked (signed_numbers (take l.n-index l.list))
