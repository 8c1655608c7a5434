use Rattle.nef_canon.proofs.Prelude.{◌≡◌, ◌++◌, take, numbers, blanked}
use Rattle.nef_canon.proofs.words.add_counts.Given as goal

abbrev pub invariant-loop-n : goal.invariant-loop-n
invariant-loop-n l = l.text.items ≡ l.fn.text.items ++ blanked (numbers (take l.n-index l.counts))
