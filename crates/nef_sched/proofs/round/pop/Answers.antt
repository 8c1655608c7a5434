use Rattle.nef_sched.proofs.Prelude.{inl}
use Rattle.nef_sched.proofs.Steps.{takes, sees, took_some}
use Rattle.nef_sched.proofs.round.pop.Goals as goal

pub pop_as-requires-clause-rule : goal.pop_as-requires-clause-rule
pop_as-requires-clause-rule g c = (takes _ _ c.requires.part (inl c.requires.due), sees _ _)

pub returns-clause-took : goal.returns-clause-took
returns-clause-took g c = rw c.flatten.ensures (took_some _ _ c.pop_as.result c.requires.due c.pop_as.ensures.rule)
