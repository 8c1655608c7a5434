use Rattle.nef_canon.proofs.Prelude.{◌≡◌, ◌++◌, take, codes, flat_map, side_words, blanked}
use Rattle.nef_canon.proofs.text.add_shell.Given as goal

abbrev pub invariant-loop-s : goal.invariant-loop-s
invariant-loop-s l = l.text.items ≡ l.fn.text.items ++ (codes "h" ++ blanked (flat_map side_words (take l.s-index l.shell.sides)))
