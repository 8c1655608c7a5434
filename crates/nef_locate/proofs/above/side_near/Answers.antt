use Rattle.nef_locate.proofs.Prelude.{arc_item, items, at-arc, map_of, is-at_within}
use Rattle.nef_locate.proofs.UpwardSides.{some-svertex, near-begin, near-end, near-alone}
use Rattle.nef_locate.proofs.above.side_near.Goals as goal

pub item_side-requires : goal.item_side-requires
item_side-requires c =
    let m = c.args.map.now in
    let M = map_of m in
    let L = c.in-Some.ensures.last in
    record { within = is-at_within (items M) c.in-Some.arc (arc_item L.arc) (at-arc M.arcs M.sloop c.in-Some.arc L.arc L.listed) }

pub returns-in-Some : goal.returns-in-Some
returns-in-Some c =
    let m = c.args.map.now in
    let v = some-svertex m c.args.svertex c.requires.within in
    record { side = near-begin m c.requires.map c.args.svertex v.0 v.1 c.in-Some.arc c.in-Some.ensures.last c.item_side.result c.item_side.ensures.number }

pub item_side-requires-in-Some-last_arc : goal.item_side-requires-in-Some-last_arc
item_side-requires-in-Some-last_arc c =
    let m = c.args.map.now in
    let M = map_of m in
    let L = c.in-Some-last_arc.ensures.last in
    record { within = is-at_within (items M) c.in-Some-last_arc.arc (arc_item L.arc) (at-arc M.arcs M.sloop c.in-Some-last_arc.arc L.arc L.listed) }

pub returns-in-Some-last_arc : goal.returns-in-Some-last_arc
returns-in-Some-last_arc c =
    let m = c.args.map.now in
    let v = some-svertex m c.args.svertex c.requires.within in
    record {
      side = near-end m c.requires.map c.args.svertex v.0 v.1 c.in-Some-last_arc.arc c.in_default.ensures.last c.in-Some-last_arc.ensures.last c.item_side-in-Some-last_arc.result c.item_side-in-Some-last_arc.ensures.number;
    }

pub returns-in-None : goal.returns-in-None
returns-in-None c =
    let m = c.args.map.now in
    let v = some-svertex m c.args.svertex c.requires.within in
    record { side = near-alone m c.requires.map c.args.svertex v.0 v.1 c.in_default.ensures.last c.in-None.ensures.last c.around_side.result c.around_side.ensures.number }
