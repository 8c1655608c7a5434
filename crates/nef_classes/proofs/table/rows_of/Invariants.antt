use Rattle.nef_classes.proofs.Prelude.{◌≡◌, take, cell_total, HasCounts, AreCut}
use Rattle.nef_classes.proofs.table.rows_of.Given as goal

abbrev pub invariant-loop-count : goal.invariant-loop-count
invariant-loop-count l = (l.start ≡ cell_total (take l.count-index l.counts)) × HasCounts (take l.count-index l.counts) l.rows × AreCut (take l.count-index l.counts) l.numbers l.rows
