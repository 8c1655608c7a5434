use Rattle.nef_sched.proofs.Prelude.{arith, inr}
use Rattle.nef_sched.proofs.Steps.{takes, sees, ends}
use Rattle.nef_sched.proofs.round.drained.Goals as goal

pub pop_as-requires-clause-rule : goal.pop_as-requires-clause-rule
pop_as-requires-clause-rule g c = (takes _ _ (let p = c.loop-item.invariant.parts in omega arith) (inr c.loop-item.invariant.parts), sees _ _)

pub returns-clause-each : goal.returns-clause-each
returns-clause-each g c = let i = c.loop-item.invariant in ends _ _ _ _ i.parts i.knows i.took c.in_default.ensures.rule.1
