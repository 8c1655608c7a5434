use Rattle.nef_statement.proofs.EachMeaning.{each-means}
use Rattle.nef_statement.proofs.Stated.{statement, one-output, first-lines, meaning, meant, output-shared, status-shared}
use Rattle.nef_statement.proofs.Walk.{nodes-denote}
use Rattle.nef_statement.proofs.status.statement_laws.Goals as goal

pub returns-clause-states : goal.returns-clause-states
returns-clause-states z = statement

pub returns-clause-one_output : goal.returns-clause-one_output
returns-clause-one_output z = one-output

pub returns-clause-first_lines : goal.returns-clause-first_lines
returns-clause-first_lines z = first-lines

pub returns-clause-one_meaning : goal.returns-clause-one_meaning
returns-clause-one_meaning z = meaning

pub returns-clause-as_meant : goal.returns-clause-as_meant
returns-clause-as_meant z = meant

pub returns-clause-same_output : goal.returns-clause-same_output
returns-clause-same_output z = output-shared

pub returns-clause-same_status : goal.returns-clause-same_status
returns-clause-same_status z = status-shared

pub returns-clause-means : goal.returns-clause-means
returns-clause-means z = each-means

pub returns-clause-denotes : goal.returns-clause-denotes
returns-clause-denotes z = nodes-denote
