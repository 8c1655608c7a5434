use Rattle.nef_smap.proofs.SimpleMaps.{ground-valid, ground-labels, ground-least, ground-ordered, ground-small}
use Rattle.nef_smap.proofs.simple.face_map.Goals as goal

pub returns-clause-map : goal.returns-clause-map
returns-clause-map c =
    let k = c.args.mark in
    let g = c.args.ground in
    rw (c.new.ensures.empty, c.new-2.ensures.empty) (record { sphere_map = record { valid = ground-valid k g; ordered = ground-ordered k g; small = ground-small k g }; least = ground-least k g })

pub returns-clause-labels : goal.returns-clause-labels
returns-clause-labels c = rw (c.new.ensures.empty, c.new-2.ensures.empty) (ground-labels c.args.mark c.args.ground)
