-- The laws of texts, from the lemmas.
use Rattle.nef_statement.proofs.text.Whole.{vertices-read, counts-read}
use Rattle.nef_statement.proofs.text.laws.text_laws.Goals as goal

pub returns-clause-vertices : goal.returns-clause-vertices
returns-clause-vertices c = vertices-read

pub returns-clause-counts : goal.returns-clause-counts
returns-clause-counts c = counts-read
