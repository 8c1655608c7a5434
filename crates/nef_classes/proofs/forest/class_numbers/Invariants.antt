use Rattle.nef_classes.proofs.Prelude.{take}
use Rattle.nef_classes.proofs.ClassLists.{IsNumberedTo}
use Rattle.nef_classes.proofs.forest.class_numbers.Given as goal

abbrev pub invariant-loop-number : goal.invariant-loop-number
invariant-loop-number l = IsNumberedTo (take l.number l.roots) l.numbers.items l.next
