use Rattle.law_geometry.proofs.near.Topology.{inside-at, closed-at, border-at, regular-at, inside-toward, closed-toward, border-toward, regular-toward}
use Rattle.law_geometry.proofs.near.laws.topology_laws.Goals as goal

pub returns-clause-inside_at : goal.returns-clause-inside_at
returns-clause-inside_at c = inside-at

pub returns-clause-closed_at : goal.returns-clause-closed_at
returns-clause-closed_at c = closed-at

pub returns-clause-border_at : goal.returns-clause-border_at
returns-clause-border_at c = border-at

pub returns-clause-regular_at : goal.returns-clause-regular_at
returns-clause-regular_at c = regular-at

pub returns-clause-inside_toward : goal.returns-clause-inside_toward
returns-clause-inside_toward c = inside-toward

pub returns-clause-closed_toward : goal.returns-clause-closed_toward
returns-clause-closed_toward c = closed-toward

pub returns-clause-border_toward : goal.returns-clause-border_toward
returns-clause-border_toward c = border-toward

pub returns-clause-regular_toward : goal.returns-clause-regular_toward
returns-clause-regular_toward c = regular-toward
