use Rattle.nef_smap.proofs.Prelude.{arc_item, sloop_item, arc-at, vector_of, map_of, arc_of, sloop_of}
use Rattle.nef_smap.proofs.map.SphereMap.item_holds.Goals as goal

pub great_arc-requires-clause-arc : goal.great_arc-requires-clause-arc
great_arc-requires-clause-arc c =
    let M = map_of c.args.self.now in
    (c.args.number, arc-at M.arcs M.sloop c.args.number (arc_of c.in-Arc.arc) c.in-Arc.ensures.item)

pub returns-in-Arc : goal.returns-in-Arc
returns-in-Arc c =
    let h = c.strictly_on.ensures.on in
    let g = c.great_arc.ensures.on (vector_of c.args.d.now) in
    record { on = (arc_item (arc_of c.in-Arc.arc), c.in-Arc.ensures.item, (λ t. g.0 (h.0 t), λ o. h.1 (g.1 o))) }

pub returns-in-Loop : goal.returns-in-Loop
returns-in-Loop c = record { on = (sloop_item (sloop_of c.in-Loop.circle), c.in-Loop.ensures.item, c.holds.ensures.on) }
