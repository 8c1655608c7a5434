use Rattle.nef_stopo.proofs.Prelude.{◌≡◌, take, nearby_of}
use Rattle.nef_stopo.proofs.topology.near_labels.Given as goal

abbrev pub invariant-loop-label : goal.invariant-loop-label
invariant-loop-label l = l.near ≡ nearby_of (take l.label-index l.labels)
