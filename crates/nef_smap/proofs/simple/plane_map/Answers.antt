use Rattle.nef_smap.proofs.Prelude.{sloop-valid, sloop-least, sloop_of}
use Rattle.nef_smap.proofs.SimpleMaps.{plane-labels, plane-ordered, plane-small}
use Rattle.nef_smap.proofs.simple.plane_map.Goals as goal

pub returns-clause-map : goal.returns-clause-map
returns-clause-map c =
    let l = c.args.sloop in
    rw (c.new.ensures.empty, c.new-2.ensures.empty) (record { valid = sloop-valid l.mark (sloop_of l) c.requires.normal; ordered = plane-ordered l; small = plane-small l c.requires.small })

pub returns-clause-least : goal.returns-clause-least
returns-clause-least c n =
    let l = c.args.sloop in
    rw (c.new.ensures.empty, c.new-2.ensures.empty)
    (record { sphere_map = record { valid = sloop-valid l.mark (sloop_of l) c.requires.normal; ordered = plane-ordered l; small = plane-small l c.requires.small }; least = sloop-least l.mark (sloop_of l) n })

pub returns-clause-labels : goal.returns-clause-labels
returns-clause-labels c = rw (c.new.ensures.empty, c.new-2.ensures.empty) (plane-labels c.args.sloop c.requires.normal)
