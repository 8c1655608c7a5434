use Rattle.nef_script.proofs.Prelude.{lines_of, state, HasRead}
use Rattle.nef_script.proofs.reader.parse.Given as goal

abbrev pub invariant-loop-line : goal.invariant-loop-line
invariant-loop-line l = (goal.iterator-loop-line).can_next l.line-iterator × (goal.iterator-loop-line).is_finite l.line-iterator × HasRead (lines_of l.bytes) l.line-iterator (state l.reader.names l.reader.bound.items l.reader.sets l.reader.commands)
