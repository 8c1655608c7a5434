use Rattle.nef_stopo.proofs.Prelude.{topology_of}
use Rattle.nef_stopo.proofs.Marking.{IsMarkedUpTo}
use Rattle.nef_stopo.proofs.operations.remarked_rays.Given as goal

abbrev pub invariant-loop-k : goal.invariant-loop-k
invariant-loop-k l = IsMarkedUpTo (topology_of l.topology) l.star l.k l.rays.items l.before
