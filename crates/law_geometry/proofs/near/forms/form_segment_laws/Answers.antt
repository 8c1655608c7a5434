use Rattle.law_geometry.proofs.near.Tests.{segment_law, segment_of_points, segment_of_directions}
use Rattle.law_geometry.proofs.near.forms.form_segment_laws.Goals as goal

pub returns-clause-vectors : goal.returns-clause-vectors
returns-clause-vectors c = segment_law

pub returns-clause-points : goal.returns-clause-points
returns-clause-points c = segment_of_points

pub returns-clause-directions : goal.returns-clause-directions
returns-clause-directions c = segment_of_directions
