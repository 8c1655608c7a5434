use Rattle.nef_geo.proofs.Unique.{same_points_equal, same_directions_equal, same_planes_equal}
use Rattle.nef_geo.proofs.order.normal_form_laws.Goals as goal

pub returns-clause-places : goal.returns-clause-places
returns-clause-places c = same_points_equal

pub returns-clause-directions : goal.returns-clause-directions
returns-clause-directions c = same_directions_equal

pub returns-clause-planes : goal.returns-clause-planes
returns-clause-planes c = same_planes_equal
