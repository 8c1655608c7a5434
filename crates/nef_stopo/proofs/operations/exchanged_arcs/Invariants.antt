use Rattle.nef_stopo.proofs.Prelude.{exchanged_arc, arc_of}
use Rattle.nef_stopo.proofs.Written.{AreWritten}
use Rattle.nef_stopo.proofs.operations.exchanged_arcs.Given as goal

abbrev pub invariant-loop-arc : goal.invariant-loop-arc
invariant-loop-arc l = AreWritten arc_of exchanged_arc l.arc-index l.fn.arcs l.arc-items
