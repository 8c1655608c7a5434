-- The laws of remarked stars, from the lemmas.
use Rattle.law_geometry.proofs.sphere.border.RawTopology.{topology-stars}
use Rattle.law_geometry.proofs.sphere.border.MarkMade.{topology-mark}
use Rattle.law_geometry.proofs.sphere.border.ExchangedLabels.{exchanged-laws}
use Rattle.law_geometry.proofs.sphere.border.star_laws.Goals as goal

pub returns-clause-stars : goal.returns-clause-stars
returns-clause-stars c = topology-stars

pub returns-clause-mark : goal.returns-clause-mark
returns-clause-mark c = topology-mark

pub returns-clause-exchanged : goal.returns-clause-exchanged
returns-clause-exchanged c = exchanged-laws
