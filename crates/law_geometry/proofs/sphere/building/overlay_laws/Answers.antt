-- The laws of overlays, from the lemmas.
use Rattle.law_geometry.proofs.sphere.building.Chosen.{map-labelling, op-labels}
use Rattle.law_geometry.proofs.sphere.building.RawGround.{raw-shows_op}
use Rattle.law_geometry.proofs.sphere.building.overlay_laws.Goals as goal

pub returns-clause-map : goal.returns-clause-map
returns-clause-map c = map-labelling

pub returns-clause-op : goal.returns-clause-op
returns-clause-op c = op-labels

pub returns-clause-raw : goal.returns-clause-raw
returns-clause-raw c = raw-shows_op
