use Rattle.nef_sched.proofs.Steps.{agree, none_twice, none_taken_is_left, none_lost, ended_is_empty, numbers_are_known}
use Rattle.nef_sched.proofs.round.passes_agree.Goals as goal

pub returns-clause-known : goal.returns-clause-known
returns-clause-known c = agree

pub returns-clause-once : goal.returns-clause-once
returns-clause-once c = none_twice

pub returns-clause-apart : goal.returns-clause-apart
returns-clause-apart c = none_taken_is_left

pub returns-clause-none_lost : goal.returns-clause-none_lost
returns-clause-none_lost c = none_lost

pub returns-clause-ended : goal.returns-clause-ended
returns-clause-ended c = ended_is_empty

pub returns-clause-listed : goal.returns-clause-listed
returns-clause-listed c = numbers_are_known
