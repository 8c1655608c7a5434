use Rattle.nef_facets.proofs.Prelude.{map_of, arc_of, map-is_at, read, edge_of, IsTieOfEdge}
use Rattle.nef_facets.proofs.Adding.{any-next, any-all}
use Rattle.nef_facets.proofs.EdgeTies.{image-below, arc-as}
use Rattle.nef_facets.proofs.ties.add_edge_ties.Goals as goal

pub loop-item-preserved : goal.loop-item-preserved
loop-item-preserved c =
    let e = edge_of c.args.edge.now in
    let L = map_of c.args.low.now in
    let M = map_of c.args.high.now in
    let i = c.loop-item.item in
    let a = c.arc-item.result in
    let old = c.args.ties.now.items in
    let now = c.loop-item.ties.items in
    let new = c.add_arc_ties.new.ties.items in
    let listed = map-is_at arc_of c.args.low.now.arcs i a (read c.args.low.now.arcs c.as_slice-arc-items.result.now i a c.as_slice-arc-items.ensures.all c.loop-item-test.true c.arc-item.is) in
    record { added = any-next (IsTieOfEdge e L M) i old now new c.loop-item.invariant.added (arc-as e L M i (arc_of a) listed now new c.in_ok-add_arc_ties.ensures.added) }

pub returns : goal.returns
returns c =
    let i = c.loop-item.item in
    record {
      added = any-all (IsTieOfEdge (edge_of c.args.edge.now) (map_of c.args.low.now) (map_of c.args.high.now)) i c.args.ties.now.items c.loop-item.ties.items
          (λ k t p. image-below arc_of c.args.low.now.arcs c.as_slice-arc-items.result.now c.as_slice-arc-items.ensures.all i c.loop-item-test.false k p.0 p.1) c.loop-item.invariant.added;
    }
