use Rattle.law_geometry.proofs.near.Examples.{halves-disjoint, two-halves, wall-facts, wall-part, edge-facts, point-facts}
use Rattle.law_geometry.proofs.near.laws.cone_examples.Goals as goal

pub returns-clause-halves_disjoint : goal.returns-clause-halves_disjoint
returns-clause-halves_disjoint c = halves-disjoint

pub returns-clause-two_halves : goal.returns-clause-two_halves
returns-clause-two_halves c = two-halves

pub returns-clause-wall : goal.returns-clause-wall
returns-clause-wall c = wall-facts

pub returns-clause-wall_part : goal.returns-clause-wall_part
returns-clause-wall_part c = wall-part

pub returns-clause-edge : goal.returns-clause-edge
returns-clause-edge c = edge-facts

pub returns-clause-point : goal.returns-clause-point
returns-clause-point c = point-facts
