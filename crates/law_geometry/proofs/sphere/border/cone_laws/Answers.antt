-- The laws of the maps of interiors, closures, boundaries and complements, from the lemmas.
use Rattle.law_geometry.proofs.sphere.border.Cones.{topology-cone, regular-cone}
use Rattle.law_geometry.proofs.sphere.border.cone_laws.Goals as goal

pub returns-clause-cone : goal.returns-clause-cone
returns-clause-cone c = topology-cone

pub returns-clause-regular : goal.returns-clause-regular
returns-clause-regular c = regular-cone
