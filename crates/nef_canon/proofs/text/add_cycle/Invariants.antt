use Rattle.nef_canon.proofs.Prelude.{◌≡◌, ◌++◌, take, codes, flat_map, corner_words, blanked}
use Rattle.nef_canon.proofs.text.add_cycle.Given as goal

abbrev pub invariant-loop-k : goal.invariant-loop-k
invariant-loop-k l = l.text.items ≡ l.fn.text.items ++ (codes "c" ++ blanked (flat_map corner_words (take l.k-index l.cycle.corners)))
