use Rattle.nef_statement.proofs.Prelude.{refl}
use Rattle.nef_statement.proofs.status.statement_examples.Goals as goal

pub returns-clause-denoted : goal.returns-clause-denoted
returns-clause-denoted z = refl

pub returns-clause-told : goal.returns-clause-told
returns-clause-told z = refl
