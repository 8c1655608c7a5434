use Rattle.nef_stopo.proofs.Prelude.{topology_of, AreRemarked}
use Rattle.nef_stopo.proofs.operations.remarked_stars.Given as goal

abbrev pub invariant-loop-svertex : goal.invariant-loop-svertex
invariant-loop-svertex l = AreRemarked (topology_of l.topology) l.map l.svertex-index l.stars
