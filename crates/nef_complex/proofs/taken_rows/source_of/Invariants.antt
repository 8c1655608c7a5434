use Rattle.nef_complex.proofs.Walking.{AreWalked}
use Rattle.nef_complex.proofs.taken_rows.source_of.Given as goal

abbrev pub invariant-loop-number : goal.invariant-loop-number
invariant-loop-number l = AreWalked l.carriers l.all l.number l.numbers.items l.others l.other_numbers.items
