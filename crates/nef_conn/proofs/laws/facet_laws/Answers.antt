use Rattle.nef_conn.proofs.laws.facet_laws.Goals as goal
use Rattle.nef_conn.proofs.Onward.{arcs-go_on}
use Rattle.nef_conn.proofs.Reached.{items-name}
use Rattle.nef_conn.proofs.SameRay.{names-along}
use Rattle.nef_conn.proofs.Steps.{joined-items_linked}
use Rattle.nef_conn.proofs.Sweep.{converse-by_steps}
use Rattle.nef_conn.proofs.Triangles.{third-sides}

pub returns-clause-arcs : goal.returns-clause-arcs
returns-clause-arcs c = arcs-go_on

pub returns-clause-names : goal.returns-clause-names
returns-clause-names c = items-name

pub returns-clause-along : goal.returns-clause-along
returns-clause-along c = names-along

pub returns-clause-converse : goal.returns-clause-converse
returns-clause-converse c = converse-by_steps

pub returns-clause-triangles : goal.returns-clause-triangles
returns-clause-triangles c = third-sides

pub returns-clause-facets : goal.returns-clause-facets
returns-clause-facets c = joined-items_linked
