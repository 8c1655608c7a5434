use Rattle.nef_smap.proofs.Prelude.{subst, Vector, cross, up, opposite, vector_of, map_of, svertex_of, FirstNear}
use Rattle.nef_smap.proofs.Joining.{svertex-listed, dir-across, dir-small, back-off, back-small, one-small}
use Rattle.nef_smap.proofs.sface.join_below.Goals as goal

pub beside-aside-requires : goal.beside-aside-requires
beside-aside-requires c = record { apart = dir-across c.args.map.now c.requires.map c.args.number c.at.result.now c.at.ensures.element }

pub number_near-requires-clause-at_small : goal.number_near-requires-clause-at_small
number_near-requires-clause-at_small c = dir-small c.args.map.now c.requires.map c.args.number c.at.result.now c.at.ensures.element

pub number_near-requires-2-clause-off : goal.number_near-requires-2-clause-off
number_near-requires-2-clause-off c = back-off (cross up (vector_of c.at.result.now.dir)) (vector_of c.beside-aside.result) (vector_of c.back.result) c.back.ensures.back c.beside-aside.ensures.off

pub number_near-requires-2-clause-aside_small : goal.number_near-requires-2-clause-aside_small
number_near-requires-2-clause-aside_small c = one-small (vector_of c.back.result) (back-small 1 (vector_of c.beside-aside.result) (vector_of c.back.result) c.back.ensures.back c.beside-aside.ensures.small)

pub number_near-requires-2-clause-at_small : goal.number_near-requires-2-clause-at_small
number_near-requires-2-clause-at_small c = dir-small c.args.map.now c.requires.map c.args.number c.at.result.now c.at.ensures.element

pub returns : goal.returns
returns c =
    let m = c.args.map.now in
    let l = c.number_near.ensures.number in
    let r = c.number_near-2.ensures.number in
    let a = vector_of c.beside-aside.result in
    record {
      joins = (
        svertex_of c.at.result.now,
        svertex-listed m.svertices c.args.number c.at.result.now c.at.ensures.element,
        (
          record {
            aside = a;
            off = c.beside-aside.ensures.off;
            left = l.0;
            right = r.0;
            left_first = l.2;
            right_first = subst (λ (e : Vector). FirstNear (map_of m) up (vector_of c.at.result.now.dir) (opposite up) e r.0) c.back.ensures.back r.2;
          },
          l.1,
          r.1,
        ),
      );
    }
