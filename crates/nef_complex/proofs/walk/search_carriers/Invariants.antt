use Rattle.nef_complex.proofs.Prelude.{IsInCluster}
use Rattle.nef_complex.proofs.Reading.{HaveAll}
use Rattle.nef_complex.proofs.walk.search_carriers.Given as goal

abbrev pub invariant-loop-cluster : goal.invariant-loop-cluster
invariant-loop-cluster g l = g.S.Search.right l.search l.c l.found × HaveAll IsInCluster (g.S.Search.passed l.search l.c l.found) l.cluster-items l.cluster-index
