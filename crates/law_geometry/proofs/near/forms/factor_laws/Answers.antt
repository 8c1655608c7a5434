use Rattle.law_geometry.proofs.near.Sums.{same-refl, same-sym, same-trans, sign-same, mixed-same}
use Rattle.law_geometry.proofs.near.Directions.{same-direction}
use Rattle.law_geometry.proofs.near.Mixed.{same-point, between-is, points-on, on-points, between-same}
use Rattle.law_geometry.proofs.near.Near.{within-same}
use Rattle.law_geometry.proofs.near.forms.factor_laws.Goals as goal

pub returns-clause-same_place : goal.returns-clause-same_place
returns-clause-same_place c = same-point

pub returns-clause-same_direction : goal.returns-clause-same_direction
returns-clause-same_direction c = same-direction

pub returns-clause-equivalence : goal.returns-clause-equivalence
returns-clause-equivalence c = record { reflexive = same-refl; symmetric = same-sym; transitive = same-trans }

pub returns-clause-signs : goal.returns-clause-signs
returns-clause-signs c = sign-same

pub returns-clause-between : goal.returns-clause-between
returns-clause-between c = between-is

pub returns-clause-closed : goal.returns-clause-closed
returns-clause-closed c = λ p r q. (points-on p r q, on-points p r q)

pub returns-clause-mixed_respects : goal.returns-clause-mixed_respects
returns-clause-mixed_respects c = mixed-same

pub returns-clause-between_respects : goal.returns-clause-between_respects
returns-clause-between_respects c = between-same

pub returns-clause-within_respects : goal.returns-clause-within_respects
returns-clause-within_respects c = within-same
