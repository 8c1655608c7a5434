use Rattle.nef_volumes.proofs.Prelude.{map_of, AreLabelsTo}
use Rattle.nef_volumes.proofs.all.add_labels.Given as goal

abbrev pub invariant-loop-side : goal.invariant-loop-side
invariant-loop-side l = AreLabelsTo (map_of l.map) l.row l.initial.labels.items l.side l.labels.items
