use Rattle.nef_stopo.proofs.Prelude.{◌≡◌, take, map, gather, svertex_labels, svertex_of, nearby_of}
use Rattle.nef_stopo.proofs.topology.near_svertices.Given as goal

abbrev pub invariant-loop-svertex : goal.invariant-loop-svertex
invariant-loop-svertex l = l.near ≡ nearby_of (gather svertex_labels (map svertex_of (take l.svertex-index l.svertices)))
