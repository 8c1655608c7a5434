use Rattle.nef_index.proofs.Prelude.{length, ◌+◌, ◌-◌, ◌≤◌, HasAdded}
use Rattle.nef_index.proofs.CommonRows.{AreCommonTo}
use Rattle.nef_index.proofs.making.add_common.Given as goal

abbrev pub invariant-loop-at_first : goal.invariant-loop-at_first
invariant-loop-at_first l = (l.at_first ≤ length l.first) × (l.at_second ≤ length l.second) × HasAdded (AreCommonTo l.first l.second l.at_first l.at_second) l.initial.numbers.items l.numbers.items

abbrev pub decreases-loop-at_first : goal.decreases-loop-at_first
decreases-loop-at_first l = (length l.first + length l.second) - (l.at_first + l.at_second)
