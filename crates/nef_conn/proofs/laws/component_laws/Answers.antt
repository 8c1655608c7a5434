use Rattle.nef_conn.proofs.laws.component_laws.Goals as goal
use Rattle.nef_conn.proofs.OnEdges.{joined-as_flat, joined-vertices, joined-edges}
use Rattle.nef_conn.proofs.OneCount.{one-count}
use Rattle.nef_conn.proofs.Counted.{vertices-counted, edges-counted}

pub returns-clause-flat : goal.returns-clause-flat
returns-clause-flat c = joined-as_flat

pub returns-clause-vertices : goal.returns-clause-vertices
returns-clause-vertices c = joined-vertices

pub returns-clause-edges : goal.returns-clause-edges
returns-clause-edges c = joined-edges

pub returns-clause-vertices_counted : goal.returns-clause-vertices_counted
returns-clause-vertices_counted c = vertices-counted

pub returns-clause-edges_counted : goal.returns-clause-edges_counted
returns-clause-edges_counted c = edges-counted

pub returns-clause-one_count : goal.returns-clause-one_count
returns-clause-one_count c = one-count
