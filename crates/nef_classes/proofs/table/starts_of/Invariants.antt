use Rattle.nef_classes.proofs.Prelude.{◌≡◌, ◌<◌, ◌^◌, take, cell_total, AreStarts}
use Rattle.nef_classes.proofs.table.starts_of.Given as goal

abbrev pub invariant-loop-count : goal.invariant-loop-count
invariant-loop-count l = AreStarts (take l.count-index l.counts) l.starts.items × (l.next ≡ cell_total (take l.count-index l.counts)) × (l.next < 2 ^ 64)
