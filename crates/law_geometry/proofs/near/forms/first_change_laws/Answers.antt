use Rattle.law_geometry.proofs.near.Tests.{first_change_law, first_change_at_points, first_change_at_directions}
use Rattle.law_geometry.proofs.near.forms.first_change_laws.Goals as goal

pub returns-clause-vectors : goal.returns-clause-vectors
returns-clause-vectors c = first_change_law

pub returns-clause-points : goal.returns-clause-points
returns-clause-points c = first_change_at_points

pub returns-clause-directions : goal.returns-clause-directions
returns-clause-directions c = first_change_at_directions
