use Rattle.nef_smap.proofs.Prelude.{vector_of, items, item_of, map_of}
use Rattle.nef_smap.proofs.Found.{svertex-within, side-within, label-svertex, arc-placed, sloop-placed, label-item, label-by_side}
use Rattle.nef_smap.proofs.locate.label_at.Goals as goal
use Rattle.nef_space.proofs.Lists.{is-at_within}

pub at-requires-in-SVertex : goal.at-requires-in-SVertex
at-requires-in-SVertex c = record { within = svertex-within c.args.map.now (vector_of c.args.d.now) c.in-SVertex.number c.in-SVertex.ensures.place }

pub item_at-requires : goal.item_at-requires
item_at-requires c =
    let r = arc-placed c.args.map.now (vector_of c.args.d.now) c.in-Arc.number c.in-Arc.ensures.place in
    record { within = is-at_within (items (map_of c.args.map.now)) c.in-Arc.number r.0 r.1 }

pub item_at-requires-in-Loop : goal.item_at-requires-in-Loop
item_at-requires-in-Loop c =
    let r = sloop-placed c.args.map.now (vector_of c.args.d.now) c.len.result c.len.ensures.len c.in-Loop.ensures.place in
    record { within = is-at_within (items (map_of c.args.map.now)) c.len.result r.0 r.1 }

pub side_label-requires : goal.side_label-requires
side_label-requires c = record { within = side-within (map_of c.args.map.now) c.in-Face.side (vector_of c.args.d.now) c.in-Face.ensures.place }

pub returns-in-SVertex : goal.returns-in-SVertex
returns-in-SVertex c = record { label = label-svertex c.args.map.now (vector_of c.args.d.now) c.in-SVertex.number c.at-in-SVertex.result.now c.at-in-SVertex.ensures.element c.in-SVertex.ensures.place }

pub returns-in-Arc : goal.returns-in-Arc
returns-in-Arc c =
    let m = c.args.map.now in
    let d = vector_of c.args.d.now in
    record { label = label-item m d c.in-Arc.number (item_of c.item_at.result) c.mark.result c.item_at.ensures.item c.mark.ensures.mark (arc-placed m d c.in-Arc.number c.in-Arc.ensures.place) }

pub returns-in-Loop : goal.returns-in-Loop
returns-in-Loop c =
    let m = c.args.map.now in
    let d = vector_of c.args.d.now in
    record { label = label-item m d c.len.result (item_of c.item_at-in-Loop.result) c.mark-in-Loop.result c.item_at-in-Loop.ensures.item c.mark-in-Loop.ensures.mark (sloop-placed m d c.len.result c.len.ensures.len c.in-Loop.ensures.place) }

pub returns-in-Face : goal.returns-in-Face
returns-in-Face c = record { label = label-by_side (map_of c.args.map.now) c.in-Face.side (vector_of c.args.d.now) c.side_label.result c.in-Face.ensures.place c.side_label.ensures.label }
