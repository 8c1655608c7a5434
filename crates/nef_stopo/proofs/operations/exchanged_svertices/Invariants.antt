use Rattle.nef_stopo.proofs.Prelude.{exchanged_svertex, svertex_of}
use Rattle.nef_stopo.proofs.Written.{AreWritten}
use Rattle.nef_stopo.proofs.operations.exchanged_svertices.Given as goal

abbrev pub invariant-loop-svertex : goal.invariant-loop-svertex
invariant-loop-svertex l = AreWritten svertex_of exchanged_svertex l.svertex-index l.fn.svertices l.svertex-items
