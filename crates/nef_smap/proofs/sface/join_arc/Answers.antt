use Rattle.nef_smap.proofs.Prelude.{pos, ◌<ℤ◌, sym, subst, Vector, triple, up, vector_of, arc_item, items, map_of, arc_of, FirstNear}
use Rattle.nef_smap.proofs.CloseSigns.{dir-from_get}
use Rattle.nef_smap.proofs.Upward.{ends-within, map-ahead}
use Rattle.nef_smap.proofs.Joining.{arc-listed, arc-item_listed, source-level, normal-small, cross-level, along-some, along-forward, along-off, dir-small}
use Rattle.nef_smap.proofs.sface.join_arc.Goals as goal
use Rattle.nef_space.proofs.Lists.{is-at_within}

pub at-requires : goal.at-requires
at-requires c =
    let m = c.args.map.now in
    let e = ends-within m c.requires.map c.args.number c.at-arc.result.now (arc-item_listed m c.requires.map c.args.number c.at-arc.result.now c.at-arc.ensures.element) in
    record { within = e.0 }

pub common_perpendicular-aside-requires-clause-a_small : goal.common_perpendicular-aside-requires-clause-a_small
common_perpendicular-aside-requires-clause-a_small c =
    let m = c.args.map.now in
    normal-small m c.requires.map c.args.number (arc_item (arc_of c.at-arc.result.now)) (arc-item_listed m c.requires.map c.args.number c.at-arc.result.now c.at-arc.ensures.element)

pub common_perpendicular-aside-requires-clause-apart : goal.common_perpendicular-aside-requires-clause-apart
common_perpendicular-aside-requires-clause-apart c =
    let m = c.args.map.now in
    let l = source-level m c.requires.map c.args.number c.at-arc.result.now c.at-arc.ensures.element c.at.result.now c.at.ensures.element in
    along-some (vector_of c.at-arc.result.now.normal) (vector_of c.at.result.now.dir) (vector_of c.axis_along.result) c.at-arc.result.now.normal.some l c.axis_along.ensures.along

pub item_side-requires : goal.item_side-requires
item_side-requires c =
    let m = c.args.map.now in
    record { within = is-at_within (items (map_of m)) c.args.number (arc_item (arc_of c.at-arc.result.now)) (arc-item_listed m c.requires.map c.args.number c.at-arc.result.now c.at-arc.ensures.element) }

pub number_near-requires-clause-off : goal.number_near-requires-clause-off
number_near-requires-clause-off c =
    let m = c.args.map.now in
    let r = c.at-arc.result.now in
    let n = vector_of r.normal in
    let s = vector_of c.at.result.now.dir in
    let a = arc-item_listed m c.requires.map c.args.number r c.at-arc.ensures.element in
    let l = source-level m c.requires.map c.args.number r c.at-arc.ensures.element c.at.result.now c.at.ensures.element in
    along-off n s (vector_of c.common_perpendicular-aside.result) up l (cross-level n (vector_of c.axis_along.result) (vector_of c.common_perpendicular-aside.result) c.common_perpendicular-aside.ensures.cross)
    (along-forward n s (vector_of c.axis_along.result) r.normal.some l c.axis_along.ensures.along (vector_of c.common_perpendicular-aside.result) c.common_perpendicular-aside.ensures.cross)
    (map-ahead m c.requires.map c.args.number (arc_item (arc_of r)) a)

pub number_near-requires-clause-at_small : goal.number_near-requires-clause-at_small
number_near-requires-clause-at_small c = dir-small c.args.map.now c.requires.map c.at-arc.result.now.source c.at.result.now c.at.ensures.element

pub returns : goal.returns
returns c =
    let m = c.args.map.now in
    let M = map_of m in
    let r = c.at-arc.result.now in
    let n = vector_of r.normal in
    let s = vector_of c.at.result.now.dir in
    let w = dir-from_get m.svertices r.source c.at.result.now c.at.ensures.element in
    let l = source-level m c.requires.map c.args.number r c.at-arc.ensures.element c.at.result.now c.at.ensures.element in
    let y = vector_of c.common_perpendicular-aside.result in
    let near = c.number_near.ensures.number in
    record {
      joins = (
        arc_of r,
        arc-listed m.arcs c.args.number r c.at-arc.ensures.element,
        (
          record {
            along = y;
            level = cross-level n (vector_of c.axis_along.result) y c.common_perpendicular-aside.ensures.cross;
            forward = subst (λ (x : Vector). pos 0 <ℤ triple n x y) (sym w) (along-forward n s (vector_of c.axis_along.result) r.normal.some l c.axis_along.ensures.along y c.common_perpendicular-aside.ensures.cross);
            first = near.0;
            is_first = subst (λ (x : Vector). FirstNear M up x y up near.0) (sym w) near.2;
          },
          c.item_side.ensures.number,
          near.1,
        ),
      );
    }
