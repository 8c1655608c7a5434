-- The laws of complexes, from the lemmas.
use Rattle.nef_statement.proofs.text.existence.Complexes.{vertices-exist, all-edges, shown}
use Rattle.nef_statement.proofs.text.existence.Parts.{parts-exist}
use Rattle.nef_statement.proofs.text.existence.Scripts.{scripted-shown}
use Rattle.nef_statement.proofs.text.existence.Shown.{carried-shown}
use Rattle.nef_statement.proofs.text.existence.complex_laws.Goals as goal

pub returns-clause-vertices : goal.returns-clause-vertices
returns-clause-vertices c = vertices-exist

pub returns-clause-edges : goal.returns-clause-edges
returns-clause-edges c = all-edges

pub returns-clause-shown : goal.returns-clause-shown
returns-clause-shown c = shown

pub returns-clause-carried : goal.returns-clause-carried
returns-clause-carried c = carried-shown

pub returns-clause-parts : goal.returns-clause-parts
returns-clause-parts c = parts-exist

pub returns-clause-turned : goal.returns-clause-turned
returns-clause-turned c = scripted-shown
