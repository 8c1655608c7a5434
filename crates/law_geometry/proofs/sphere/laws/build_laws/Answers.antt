-- The laws of least maps, from the lemmas.
use Rattle.law_geometry.proofs.sphere.Labellings.{cone-from_agrees, op-built}
use Rattle.law_geometry.proofs.sphere.Smooth.{op-smooth}
use Rattle.law_geometry.proofs.sphere.BuiltLeast.{op-build, set-build}
use Rattle.law_geometry.proofs.sphere.laws.build_laws.Goals as goal

pub returns-clause-pieces : goal.returns-clause-pieces
returns-clause-pieces c = cone-from_agrees

pub returns-clause-op : goal.returns-clause-op
returns-clause-op c = op-built

pub returns-clause-build : goal.returns-clause-build
returns-clause-build c = op-build

pub returns-clause-set : goal.returns-clause-set
returns-clause-set c = set-build

pub returns-clause-smooth : goal.returns-clause-smooth
returns-clause-smooth c = op-smooth
