-- The laws of the maps of points, from the lemmas.
use Rattle.law_geometry.proofs.sphere.cones.Cones.{point-map, op-map}
use Rattle.law_geometry.proofs.sphere.cones.cone_laws.Goals as goal

pub returns-clause-point : goal.returns-clause-point
returns-clause-point c = point-map

pub returns-clause-op : goal.returns-clause-op
returns-clause-op c = op-map
