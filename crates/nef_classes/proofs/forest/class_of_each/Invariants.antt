use Rattle.nef_classes.proofs.Prelude.{take}
use Rattle.nef_classes.proofs.Trees.{AreTrees}
use Rattle.nef_classes.proofs.forest.class_of_each.Given as goal

abbrev pub invariant-loop-link : goal.invariant-loop-link
invariant-loop-link l = AreTrees l.count (take l.link-index l.links) l.parents.items
