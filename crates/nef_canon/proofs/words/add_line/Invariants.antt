use Rattle.nef_canon.proofs.Prelude.{◌≡◌, ◌++◌, take, flat_map, blanked}
use Rattle.nef_canon.specs.Words.{entry_words}
use Rattle.nef_canon.proofs.words.add_line.Given as goal

abbrev pub invariant-loop-entry : goal.invariant-loop-entry
invariant-loop-entry l = l.text.items ≡ l.fn.text.items ++ (l.first ++ blanked (flat_map entry_words (take l.entry-index l.entries)))
