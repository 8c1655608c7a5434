use Rattle.law_geometry.proofs.complex.Edges.{edge-points}
use Rattle.law_geometry.proofs.complex.Joining.{edges-complete, svertex-edge}
use Rattle.law_geometry.proofs.complex.Skeletons.{dir-listed}
use Rattle.law_geometry.proofs.complex.laws.edge_laws.Goals as goal

pub returns-clause-points : goal.returns-clause-points
returns-clause-points c = edge-points

pub returns-clause-complete : goal.returns-clause-complete
returns-clause-complete c = λ s C y S f. edges-complete s C S y f

pub returns-clause-svertices : goal.returns-clause-svertices
returns-clause-svertices c = λ s C i j v S a way. let u = dir-listed v.map.svertices j way in svertex-edge s C S i j v u.0 a u.1
