-- The laws of joined points, from the lemmas.
use Rattle.nef_statement.proofs.text.existence.Connected.{joined-is_decided, components-are_counted}
use Rattle.nef_statement.proofs.text.existence.joined_laws.Goals as goal

pub returns-clause-decided : goal.returns-clause-decided
returns-clause-decided c = joined-is_decided

pub returns-clause-counted : goal.returns-clause-counted
returns-clause-counted c = components-are_counted
