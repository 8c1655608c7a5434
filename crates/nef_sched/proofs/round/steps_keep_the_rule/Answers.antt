use Rattle.nef_sched.proofs.Steps.{begins, puts, puts_end, takes, forks, merges}
use Rattle.nef_sched.proofs.round.steps_keep_the_rule.Goals as goal

pub returns-clause-begin : goal.returns-clause-begin
returns-clause-begin c = begins

pub returns-clause-put : goal.returns-clause-put
returns-clause-put c = puts

pub returns-clause-end : goal.returns-clause-end
returns-clause-end c = puts_end

pub returns-clause-take : goal.returns-clause-take
returns-clause-take c = takes

pub returns-clause-fork : goal.returns-clause-fork
returns-clause-fork c = forks

pub returns-clause-merge : goal.returns-clause-merge
returns-clause-merge c = merges
