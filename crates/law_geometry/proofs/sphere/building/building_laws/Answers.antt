-- The laws of building, from the lemmas.
use Rattle.law_geometry.proofs.sphere.building.BuiltLabels.{labels-build}
use Rattle.law_geometry.proofs.sphere.building.KeptStars.{kept-show}
use Rattle.law_geometry.proofs.sphere.building.BuiltKept.{from-stars}
use Rattle.law_geometry.proofs.sphere.building.building_laws.Goals as goal

pub returns-clause-build : goal.returns-clause-build
returns-clause-build c = labels-build

pub returns-clause-kept : goal.returns-clause-kept
returns-clause-kept c = kept-show

pub returns-clause-stars : goal.returns-clause-stars
returns-clause-stars c = from-stars
