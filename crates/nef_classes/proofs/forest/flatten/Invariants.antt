use Rattle.nef_classes.proofs.Prelude.{◌<◌, ℕ, IsAt, HasSameTrees}
use Rattle.nef_classes.proofs.forest.flatten.Given as goal

abbrev pub invariant-loop-number : goal.invariant-loop-number
invariant-loop-number l = record {
  same : HasSameTrees l.initial.parents l.parents;
  roots : (k r : ℕ) → k < l.number → IsAt l.parents k r → IsAt l.parents r r;
}
