use Rattle.nef_index.proofs.Prelude.{ℕ, List, length, chunks_rest, IsInCluster, AreKeyed}
use Rattle.nef_index.proofs.Grouped.{AreAllButRest, AreWide}
use Rattle.nef_index.proofs.groups.clusters_of.Given as goal

-- the clusters have taken the numbers of all pairs but those that are left
abbrev pub invariant-loop-next : goal.invariant-loop-next
invariant-loop-next l = (pairs : List (ℕ × ℕ)) × AreKeyed (length l.spans) pairs × AreAllButRest IsInCluster (AreWide l.spans) pairs (chunks_rest l.next-iterator) l.clusters
