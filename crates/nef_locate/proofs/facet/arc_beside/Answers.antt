use Rattle.nef_locate.proofs.Prelude.{length, arith, ap, sym, ◌∙◌, not_true, SameDirection, vector_of, Arc, arc_of, map-is_at, IsArcOnSide, vertex_of}
use Rattle.nef_smap.proofs.Found.{read, next-none, all-none}
use Rattle.nef_locate.proofs.ItemsFound.{told-side, side-told}
use Rattle.nef_locate.proofs.facet.arc_beside.Goals as goal

pub returns-then-leaves_on : goal.returns-then-leaves_on
returns-then-leaves_on c =
    let v = c.args.vertex.now in
    let t = c.leaves_on.ensures.leaves.0 c.if-leaves_on.true in
    record {
      arc = (
        arc_of c.arc-item.result,
        map-is_at arc_of v.map.arcs c.loop-number.number c.arc-item.result (read v.map.arcs c.as_slice-arc-items.result.now c.loop-number.number c.arc-item.result c.as_slice-arc-items.ensures.all c.loop-number-test.true c.arc-item.is),
        t.0,
        told-side v c.args.svertex c.at.result.now c.at.ensures.element (vector_of c.args.normal.now) (vector_of c.args.d.now) c.triple-turn.result c.triple-turn.ensures.triple c.arc-item.result t.1,
      );
    }

pub loop-number-preserved : goal.loop-number-preserved
loop-number-preserved c =
    let v = c.args.vertex.now in
    next-none arc_of v.map.arcs (λ (a : Arc). SameDirection a.normal (vector_of c.args.normal.now) × IsArcOnSide (vertex_of v) c.args.svertex (vector_of c.args.normal.now) (vector_of c.args.d.now) a) c.loop-number.number c.arc-item.result
    (read v.map.arcs c.as_slice-arc-items.result.now c.loop-number.number c.arc-item.result c.as_slice-arc-items.ensures.all c.loop-number-test.true c.arc-item.is) c.loop-number.invariant
    (λ o. not_true (sym c.if-leaves_on.false ∙ c.leaves_on.ensures.leaves.1 (
      o.0,
      side-told v c.args.svertex c.at.result.now c.at.ensures.element (vector_of c.args.normal.now) (vector_of c.args.d.now) c.triple-turn.result c.triple-turn.ensures.triple c.arc-item.result o.1,
    )))

pub returns : goal.returns
returns c = record {
  arc = λ k (a, l, s, o). all-none arc_of c.args.vertex.now.map.arcs (λ (a : Arc). SameDirection a.normal (vector_of c.args.normal.now) × IsArcOnSide (vertex_of c.args.vertex.now) c.args.svertex (vector_of c.args.normal.now) (vector_of c.args.d.now) a) c.loop-number.number
      (let e = ap length c.as_slice-arc-items.ensures.all in let f = c.loop-number-test.false in omega arith) c.loop-number.invariant k a l (s, o);
}
