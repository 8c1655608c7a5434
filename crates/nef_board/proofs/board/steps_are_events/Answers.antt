use Rattle.nef_board.proofs.Runs.{split_is_nothing, join_is_nothing, taking_is_nothing, failing_is_nothing, turn_is_away, freeing_is_claim, freeing_is_none, freeing_is_deposit, freeing_is_give_back}
use Rattle.nef_board.proofs.board.steps_are_events.Goals as goal

pub returns-clause-split : goal.returns-clause-split
returns-clause-split g c work jobs seats turn b s k v = split_is_nothing (g.J.Job.right work) jobs seats turn b s k v

pub returns-clause-join : goal.returns-clause-join
returns-clause-join g c work jobs seats turn b s k v other w = join_is_nothing (g.J.Job.right work) jobs seats turn b s k v other w

pub returns-clause-take : goal.returns-clause-take
returns-clause-take g c work jobs seats b s k v = taking_is_nothing (g.J.Job.right work) jobs seats b s k v

pub returns-clause-fail : goal.returns-clause-fail
returns-clause-fail g c work jobs seats other b s k v = failing_is_nothing (g.J.Job.right work) jobs seats other b s k v

pub returns-clause-exchange : goal.returns-clause-exchange
returns-clause-exchange g c work jobs seats k b s = turn_is_away (g.J.Job.right work) jobs seats k b s

pub returns-clause-claim : goal.returns-clause-claim
returns-clause-claim g c work jobs seats turn b b' s k v = freeing_is_claim (g.J.Job.right work) jobs seats turn b b' s k v

pub returns-clause-past : goal.returns-clause-past
returns-clause-past g c work jobs seats turn b b' s k v = freeing_is_none (g.J.Job.right work) jobs seats turn b b' s k v

pub returns-clause-deposit : goal.returns-clause-deposit
returns-clause-deposit g c work jobs seats turn b b' s k v job out = freeing_is_deposit (g.J.Job.right work) jobs seats turn b b' s k v job out

pub returns-clause-give_back : goal.returns-clause-give_back
returns-clause-give_back g c work jobs seats turn b b' s k v job = freeing_is_give_back (g.J.Job.right work) jobs seats turn b b' s k v job
