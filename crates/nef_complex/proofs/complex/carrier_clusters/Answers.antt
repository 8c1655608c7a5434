use Rattle.nef_complex.proofs.Prelude.{subst, IndexedLists, AreClusters}
use Rattle.nef_complex.proofs.complex.carrier_clusters.Goals as goal

pub returns : goal.returns
returns c = record { clusters = subst (λ (x : IndexedLists). AreClusters x.carriers x.points c.clusters.result.now) c.requires.indexed.is c.clusters.ensures.clusters }
