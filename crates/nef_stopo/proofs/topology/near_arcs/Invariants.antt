use Rattle.nef_stopo.proofs.Prelude.{◌≡◌, take, map, gather, arc_labels, arc_of, nearby_of}
use Rattle.nef_stopo.proofs.topology.near_arcs.Given as goal

abbrev pub invariant-loop-arc : goal.invariant-loop-arc
invariant-loop-arc l = l.near ≡ nearby_of (gather arc_labels (map arc_of (take l.arc-index l.arcs)))
