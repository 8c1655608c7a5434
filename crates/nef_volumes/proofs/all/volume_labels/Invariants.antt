use Rattle.nef_volumes.proofs.Prelude.{complex_of, AreLabelsOf}
use Rattle.nef_volumes.proofs.all.volume_labels.Given as goal

abbrev pub invariant-loop-vertex : goal.invariant-loop-vertex
invariant-loop-vertex l = AreLabelsOf (complex_of l.c) l.volume_of l.vertex l.labels.items
