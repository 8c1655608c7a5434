use Rattle.law_geometry.proofs.near.Representatives.{representative_directions, representative, representative_points, representative_point}
use Rattle.law_geometry.proofs.near.forms.representative_laws.Goals as goal

pub returns-clause-directions : goal.returns-clause-directions
returns-clause-directions c = λ ns. (representative_directions ns, λ d. let r = representative ns d in (r.direction, r.listed, r.directed, r.same))

pub returns-clause-points : goal.returns-clause-points
returns-clause-points c = λ hs. (representative_points hs, λ p. let r = representative_point hs p in (r.place, r.listed, r.same))
