use Rattle.law_geometry.proofs.turns.Carriers.{carrier-there, carrier-from, same_plane-turned, carriers-turned}
use Rattle.law_geometry.proofs.turns.Complexes.{vertices-turned, shows-turned}
use Rattle.law_geometry.proofs.turns.ListsExist.{planes_exist, vertices_exist}
use Rattle.law_geometry.proofs.turns.laws.complex_laws.Goals as goal

pub returns-clause-carrier : goal.returns-clause-carrier
returns-clause-carrier c = carrier-there

pub returns-clause-only_carriers : goal.returns-clause-only_carriers
returns-clause-only_carriers c = carrier-from

pub returns-clause-same_planes : goal.returns-clause-same_planes
returns-clause-same_planes c = same_plane-turned

pub returns-clause-carriers : goal.returns-clause-carriers
returns-clause-carriers c = carriers-turned

pub returns-clause-vertices : goal.returns-clause-vertices
returns-clause-vertices c = vertices-turned

pub returns-clause-shows : goal.returns-clause-shows
returns-clause-shows c = shows-turned

pub returns-clause-planes_exist : goal.returns-clause-planes_exist
returns-clause-planes_exist c = planes_exist

pub returns-clause-vertices_exist : goal.returns-clause-vertices_exist
returns-clause-vertices_exist c = vertices_exist
