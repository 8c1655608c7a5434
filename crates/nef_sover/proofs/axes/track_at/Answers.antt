use Rattle.nef_sover.proofs.Prelude.{refl, arc_item, sloop_item, arc-at, map_of, arc_of, sloop_of}
use Rattle.nef_sover.proofs.axes.track_at.Goals as goal

pub great_arc-requires-clause-arc : goal.great_arc-requires-clause-arc
great_arc-requires-clause-arc c =
    let M = map_of c.args.map.now in
    (c.args.number, arc-at M.arcs M.sloop c.args.number (arc_of c.in-Arc.arc) c.in-Arc.ensures.item)

pub returns-in-Arc : goal.returns-in-Arc
returns-in-Arc c =
    let M = map_of c.args.map.now in
    let a = arc_of c.in-Arc.arc in
    record {
      track = (
        arc_item a,
        c.in-Arc.ensures.item,
        record { normal = c.great_arc.ensures.normal; on = c.great_arc.ensures.on; number = c.in-Arc.ensures.item },
      );
    }

pub returns-in-Loop : goal.returns-in-Loop
returns-in-Loop c =
    let M = map_of c.args.map.now in
    let l = sloop_of c.in-Loop.circle in
    record {
      track = (
        sloop_item l,
        c.in-Loop.ensures.item,
        record { normal = refl; on = λ d. (λ o. o, λ o. o); number = c.in-Loop.ensures.item },
      );
    }
