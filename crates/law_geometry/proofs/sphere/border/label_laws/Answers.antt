-- The laws of the labels that directions get, from the lemmas.
use Rattle.law_geometry.proofs.sphere.border.RawTopology.{topology-labelling, topology-one_label}
use Rattle.law_geometry.proofs.sphere.border.Made.{lists-appended}
use Rattle.law_geometry.proofs.sphere.border.label_laws.Goals as goal

pub returns-clause-labelling : goal.returns-clause-labelling
returns-clause-labelling c = topology-labelling

pub returns-clause-one : goal.returns-clause-one
returns-clause-one c = topology-one_label

pub returns-clause-lists : goal.returns-clause-lists
returns-clause-lists c = lists-appended
