use Rattle.nef_locate.proofs.Prelude.{◌<◌, IsTrue, length, get_or, arith, rules, hit_point, is-at_get, low-within, high-within, no_span}
use Rattle.nef_locate.proofs.EdgeOrder.{told-spanned, told-line}
use Rattle.nef_locate.proofs.carrier.is_along.Goals as goal

pub bounds-spans-edge : goal.bounds-spans-edge
bounds-spans-edge c =
    let S = c.requires.shows in let C = c.args.c.now in let e = c.at-edge.result.now in let A = c.point_spans-spans.ensures.alone in let m = A.as_many in
    let l = low-within S.0 C S.1.shows c.args.number e c.at-edge.ensures.element in omega (arith, l, m)

pub bounds-spans-edge-2 : goal.bounds-spans-edge-2
bounds-spans-edge-2 c =
    let S = c.requires.shows in let C = c.args.c.now in let e = c.at-edge.result.now in let A = c.point_spans-spans.ensures.alone in let m = A.as_many in
    let l = high-within S.0 C S.1.shows c.args.number e c.at-edge.ensures.element in omega (arith, l, m)

pub offset_bounds-spans-edge : goal.offset_bounds-spans-edge
offset_bounds-spans-edge c =
    let S = c.requires.shows in let C = c.args.c.now in let e = c.at-edge.result.now in let A = c.point_spans-spans.ensures.alone in let m = A.as_many in
    let l : e.low < length c.point_spans-spans.result.now = (let r = low-within S.0 C S.1.shows c.args.number e c.at-edge.ensures.element in omega (arith, r, m)) in
    search rules

pub offset_bounds-spans-edge-2 : goal.offset_bounds-spans-edge-2
offset_bounds-spans-edge-2 c =
    let S = c.requires.shows in let C = c.args.c.now in let e = c.at-edge.result.now in let A = c.point_spans-spans.ensures.alone in let m = A.as_many in
    let l : e.high < length c.point_spans-spans.result.now = (let r = high-within S.0 C S.1.shows c.args.number e c.at-edge.ensures.element in omega (arith, r, m)) in
    search rules

pub returns-then-not-is_in_sides-clause-on : goal.returns-then-not-is_in_sides-clause-on
returns-then-not-is_in_sides-clause-on c =
    let S = c.requires.shows in let C = c.args.c.now in let k = c.args.number in let e = c.at-edge.result.now in let a = c.at-edge.ensures.element in
    let A = c.point_spans-spans.ensures.alone in let ss = c.point_spans-spans.result.now in
    let n = A.as_many in let low = low-within S.0 C S.1.shows k e a in let high = high-within S.0 C S.1.shows k e a in
    let l = is-at_get ss e.low no_span (omega (arith, n, low)) in let h = is-at_get ss e.high no_span (omega (arith, n, high)) in
    let off : IsTrue c.is_in_sides.result → ⊥ = search rules in
    let i = c.requires.framed in
    λ x. absurd (off (c.is_in_sides.ensures.sides.1 (
    let j = told-spanned S.0 C S.1.shows k e a ss A (get_or ss e.low no_span) (get_or ss e.high no_span) c.with_span-ends.result l h c.with_span-ends.ensures.wider c.with_span-ends.ensures.other (hit_point c.args.q.now) x in
    let y = j.1 in let z = j.2 in
    ((i.along_y, y.0, y.1), (i.along_z, z.0, z.1))
    )))

pub returns-clause-on : goal.returns-clause-on
returns-clause-on c = let S = c.requires.shows in told-line S.0 c.args.c.now S.1.shows c.args.number c.at-edge.result.now c.at-edge.ensures.element c.is_in_line.result (hit_point c.args.q.now) c.is_in_line.ensures.line

pub returns-clause-line : goal.returns-clause-line
returns-clause-line c = λ t e u v a i j. (c.is_in_line.ensures.line e u v a i j).0 t
