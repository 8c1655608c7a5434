use Rattle.nef_space.proofs.Ring.{ring}
use Rattle.nef_space.proofs.Combination.{follows, follows_times}
use Rattle.nef_space.proofs.Order.{lt_by, le_by}
use Rattle.nef_space.proofs.arithmetic.identity_laws.Goals as goal

pub returns-clause-identity : goal.returns-clause-identity
returns-clause-identity c = ring

pub returns-clause-combination : goal.returns-clause-combination
returns-clause-combination c = follows

pub returns-clause-combination_times : goal.returns-clause-combination_times
returns-clause-combination_times c = follows_times

pub returns-clause-order : goal.returns-clause-order
returns-clause-order c = λ xs p q r n. (lt_by xs p q r n, le_by xs p q r n)
