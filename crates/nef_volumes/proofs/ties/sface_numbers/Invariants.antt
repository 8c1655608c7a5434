use Rattle.nef_volumes.proofs.Prelude.{complex_of}
use Rattle.nef_volumes.proofs.SfaceTies.{AreSfacesTo}
use Rattle.nef_volumes.proofs.ties.sface_numbers.Given as goal

abbrev pub invariant-loop-vertex : goal.invariant-loop-vertex
invariant-loop-vertex l = AreSfacesTo (complex_of l.c) l.vertex l.rows
