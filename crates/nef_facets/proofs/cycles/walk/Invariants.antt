use Rattle.nef_facets.proofs.Walks.{IsWalk, unmarked_count}
use Rattle.nef_facets.proofs.cycles.walk.Given as goal

abbrev pub invariant-loop-marks : goal.invariant-loop-marks
invariant-loop-marks l = IsWalk l.next l.start l.fn.marks.items l.orbit l.now l.marks.items

abbrev pub decreases-loop-marks : goal.decreases-loop-marks
decreases-loop-marks l = unmarked_count l.marks.items
