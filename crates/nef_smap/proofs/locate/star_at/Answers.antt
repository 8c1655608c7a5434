use Rattle.nef_smap.proofs.Prelude.{vector_of, map_of}
use Rattle.nef_smap.proofs.Found.{side-within, arc-placed, sloop-placed}
use Rattle.nef_smap.proofs.Neighbourhood.{face-ok}
use Rattle.nef_smap.proofs.locate.star_at.Goals as goal

pub star_on_item-requires-clause-on : goal.star_on_item-requires-clause-on
star_on_item-requires-clause-on c = arc-placed c.args.map.now (vector_of c.args.d.now) c.in-Arc.number c.in-Arc.ensures.place

pub star_on_item-requires-in-Loop-clause-on : goal.star_on_item-requires-in-Loop-clause-on
star_on_item-requires-in-Loop-clause-on c = sloop-placed c.args.map.now (vector_of c.args.d.now) c.len.result c.len.ensures.len c.in-Loop.ensures.place

pub star_at_svertex-requires-clause-at : goal.star_at_svertex-requires-clause-at
star_at_svertex-requires-clause-at c = c.in-SVertex.ensures.place

pub side_label-label-requires : goal.side_label-label-requires
side_label-label-requires c = record { within = side-within (map_of c.args.map.now) c.in-Face.side (vector_of c.args.d.now) c.in-Face.ensures.place }

pub returns-in-Face-clause-shows : goal.returns-in-Face-clause-shows
returns-in-Face-clause-shows c =
    let e = c.bare.ensures in
    face-ok c.bare.result (map_of c.args.map.now) c.in-Face.side c.args.d.now c.side_label-label.result c.requires.map.valid c.in-Face.ensures.place c.side_label-label.ensures.label e.star e.axis e.rays e.sectors e.mark
