use Rattle.nef_volumes.proofs.Prelude.{complex_of}
use Rattle.nef_volumes.proofs.SfaceTies.{AreTiedBelow}
use Rattle.nef_volumes.proofs.ties.sface_ties.Given as goal

abbrev pub invariant-loop-vertex : goal.invariant-loop-vertex
invariant-loop-vertex l = AreTiedBelow (complex_of l.c) l.vertex l.ties.items
