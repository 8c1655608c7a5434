use Rattle.example_bracket.proofs.Prelude.{take, Set, ShowsSet, common_set}
use Rattle.example_bracket.proofs.made.Maker.common.Given as goal

-- the body is what the half-spaces of the rows so far have in common
abbrev pub invariant-loop-row : goal.invariant-loop-row
invariant-loop-row g l = ShowsSet (common_set Set.full l.fn.closed (take l.row-index l.rows)) l.body
