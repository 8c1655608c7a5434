use Rattle.nef_cand.proofs.Prelude.{◌≡◌, true, false, None, get_or, arith, sym, ◌∙◌, form_at, point_of, form_of, is-at_get, low-within, high-within, holders-within}
use Rattle.nef_cand.proofs.EdgeLines.{two-listed, first-two}
use Rattle.nef_cand.proofs.Held.{edge-held, carriers-ordered, uncrossed, crossed, crossing-same}
use Rattle.nef_cand.proofs.listing.crossing.Goals as goal

pub at-requires : goal.at-requires
at-requires c = let S = c.requires.shows in record { within = low-within S.0 c.args.c.now S.1.shows c.args.number c.at-edge.result.now c.at-edge.ensures.element }

pub at-requires-2 : goal.at-requires-2
at-requires-2 c = let S = c.requires.shows in record { within = high-within S.0 c.args.c.now S.1.shows c.args.number c.at-edge.result.now c.at-edge.ensures.element }

pub bounds-holders-0 : goal.bounds-holders-0
bounds-holders-0 c =
    let S = c.requires.shows in let C = c.args.c.now in let k = c.args.number in
    let e = c.at-edge.result.now in let u = c.at.result.now in let v = c.at-2.result.now in
    let l = c.at-edge.ensures.element in
    let a = c.at.ensures.element in let b = c.at-2.ensures.element in
    let p = point_of u.point in let q = point_of v.point in
    let ns = c.edge_holders-holders.result.now in
    let H = c.edge_holders-holders.ensures.holders e c.at-edge.ensures.element u v c.at.ensures.element c.at-2.ensures.element in
    let t = two-listed C.carriers p q ns H (edge-held S.0 C S.1 k e l u v a b) in
    omega (arith, t)

pub bounds-holders-1 : goal.bounds-holders-1
bounds-holders-1 c =
    let S = c.requires.shows in let C = c.args.c.now in let k = c.args.number in
    let e = c.at-edge.result.now in let u = c.at.result.now in let v = c.at-2.result.now in
    let l = c.at-edge.ensures.element in
    let a = c.at.ensures.element in let b = c.at-2.ensures.element in
    let p = point_of u.point in let q = point_of v.point in
    let ns = c.edge_holders-holders.result.now in
    let H = c.edge_holders-holders.ensures.holders e c.at-edge.ensures.element u v c.at.ensures.element c.at-2.ensures.element in
    let t = two-listed C.carriers p q ns H (edge-held S.0 C S.1 k e l u v a b) in
    omega (arith, t)

pub at-first-requires : goal.at-first-requires
at-first-requires c =
    let S = c.requires.shows in let C = c.args.c.now in let k = c.args.number in
    let e = c.at-edge.result.now in let u = c.at.result.now in let v = c.at-2.result.now in
    let l = c.at-edge.ensures.element in
    let a = c.at.ensures.element in let b = c.at-2.ensures.element in
    let p = point_of u.point in let q = point_of v.point in
    let ns = c.edge_holders-holders.result.now in
    let H = c.edge_holders-holders.ensures.holders e c.at-edge.ensures.element u v c.at.ensures.element c.at-2.ensures.element in
    let t = two-listed C.carriers p q ns H (edge-held S.0 C S.1 k e l u v a b) in
    record { within = holders-within C.carriers p q ns H 0 (get_or ns 0 0) (is-at_get ns 0 0 (omega (arith, t))) }

pub at-second-requires : goal.at-second-requires
at-second-requires c =
    let S = c.requires.shows in let C = c.args.c.now in let k = c.args.number in
    let e = c.at-edge.result.now in let u = c.at.result.now in let v = c.at-2.result.now in
    let l = c.at-edge.ensures.element in
    let a = c.at.ensures.element in let b = c.at-2.ensures.element in
    let p = point_of u.point in let q = point_of v.point in
    let ns = c.edge_holders-holders.result.now in
    let H = c.edge_holders-holders.ensures.holders e c.at-edge.ensures.element u v c.at.ensures.element c.at-2.ensures.element in
    let t = two-listed C.carriers p q ns H (edge-held S.0 C S.1 k e l u v a b) in
    record { within = holders-within C.carriers p q ns H 1 (get_or ns 1 0) (is-at_get ns 1 0 (omega (arith, t))) }

pub returns-then-not-is_opposite_to : goal.returns-then-not-is_opposite_to
returns-then-not-is_opposite_to c =
    let S = c.requires.shows in let C = c.args.c.now in let k = c.args.number in let h = c.args.h.now in
    let e = c.at-edge.result.now in let u = c.at.result.now in let v = c.at-2.result.now in
    let l = c.at-edge.ensures.element in
    let a = c.at.ensures.element in let b = c.at-2.ensures.element in
    let o = c.is_opposite_to.ensures.opposite (form_at (form_of h) (point_of u.point)) (form_at (form_of h) (point_of v.point)) c.side.ensures.side c.side-2.ensures.side in
    record { crossing = λ f i. crossing-same C h k e f None l i (uncrossed C h e u v a b (λ s. (let t : false ≡ true = sym c.if-not-is_opposite_to.true ∙ o.1 s in cc))) }

pub returns : goal.returns
returns c =
    let S = c.requires.shows in let C = c.args.c.now in let k = c.args.number in let h = c.args.h.now in
    let e = c.at-edge.result.now in let u = c.at.result.now in let v = c.at-2.result.now in
    let l = c.at-edge.ensures.element in
    let a = c.at.ensures.element in let b = c.at-2.ensures.element in
    let p = point_of u.point in let q = point_of v.point in
    let ns = c.edge_holders-holders.result.now in
    let H = c.edge_holders-holders.ensures.holders e c.at-edge.ensures.element u v c.at.ensures.element c.at-2.ensures.element in
    let t = two-listed C.carriers p q ns H (edge-held S.0 C S.1 k e l u v a b) in
    let o = c.is_opposite_to.ensures.opposite (form_at (form_of h) p) (form_at (form_of h) q) c.side.ensures.side c.side-2.ensures.side in
    let L = first-two C.carriers p q ns H (carriers-ordered S.0 C S.1) (get_or ns 0 0) (get_or ns 1 0) c.at-first.result.now c.at-second.result.now (is-at_get ns 0 0 (omega (arith, t))) (is-at_get ns 1 0 (omega (arith, t)))
    c.at-first.ensures.element c.at-second.ensures.element in
    record { crossing = λ f i. crossing-same C h k e f c.meet.result l i (crossed C h e u v a b c.at-first.result.now c.at-second.result.now L (o.0 c.if-not-is_opposite_to.false) c.meet.result c.meet.ensures.none c.meet.ensures.met) }
