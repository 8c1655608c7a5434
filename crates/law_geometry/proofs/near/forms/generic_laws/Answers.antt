use Rattle.law_geometry.proofs.near.Generic.{generic, generic-near, generic_direction, direction_bound, direction-avoids, direction-near, generic_point}
use Rattle.law_geometry.proofs.near.forms.generic_laws.Goals as goal

pub returns-clause-vectors : goal.returns-clause-vectors
returns-clause-vectors c = λ hs. let g = generic hs in (g.0, g.1, λ v k l. generic-near hs g.0 v k g.1 l)

pub returns-clause-directions : goal.returns-clause-directions
returns-clause-directions c = λ ns. (generic_direction ns, direction_bound ns, direction-avoids ns, λ d k l. record { keeps = λ n m. (direction-near ns d k l n m).0; avoids = λ n m. (direction-near ns d k l n m).1 })

pub returns-clause-points : goal.returns-clause-points
returns-clause-points c = λ hs p n. let g = generic_point hs p n in (g.place, g.near, g.keeps, g.avoids)
