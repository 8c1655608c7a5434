use Rattle.law_geometry.proofs.near.Vertices.{all-vertices}
use Rattle.law_geometry.proofs.near.Edges.{even-until, flat_way-end, edge-around}
use Rattle.law_geometry.proofs.near.laws.edge_laws.Goals as goal

pub returns-clause-even_until_drop : goal.returns-clause-even_until_drop
returns-clause-even_until_drop c = even-until

pub returns-clause-flat_way_ends : goal.returns-clause-flat_way_ends
returns-clause-flat_way_ends c = flat_way-end

pub returns-clause-edge_has_ends : goal.returns-clause-edge_has_ends
returns-clause-edge_has_ends c = edge-around

pub returns-clause-finite_vertices : goal.returns-clause-finite_vertices
returns-clause-finite_vertices c = all-vertices
