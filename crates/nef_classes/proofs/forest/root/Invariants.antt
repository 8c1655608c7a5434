use Rattle.nef_classes.proofs.Prelude.{◌<◌, length, IsAt, Chained, HasSameTrees}
use Rattle.nef_classes.proofs.forest.root.Given as goal

abbrev pub invariant-loop-parents : goal.invariant-loop-parents
invariant-loop-parents l = record {
  same : HasSameTrees l.initial.parents l.parents;
  chain : Chained (IsAt l.parents) l.number l.reached;
  within : l.reached < length l.parents;
}

abbrev pub decreases-loop-parents : goal.decreases-loop-parents
decreases-loop-parents l = l.reached
