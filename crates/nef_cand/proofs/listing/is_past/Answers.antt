use Rattle.nef_cand.proofs.Prelude.{◌<◌, ◌<ℤ◌, length, get_or, arith, rules, is-at_get, Span, low-within, no_span}
use Rattle.nef_cand.proofs.Beside.{edge-past}
use Rattle.nef_cand.proofs.listing.is_past.Goals as goal

pub bounds-ends-at : goal.bounds-ends-at
bounds-ends-at c =
    let S = c.requires.shows in let m = c.requires.ends.as_many in
    let l = low-within S.0 c.args.c.now S.1.shows c.args.number c.at.result.now c.at.ensures.element in omega (arith, l, m)

pub offset_bounds-ends-at : goal.offset_bounds-ends-at
offset_bounds-ends-at c =
    let S = c.requires.shows in let m = c.requires.ends.as_many in
    let l : c.at.result.now.low < length c.args.ends.now = (let r = low-within S.0 c.args.c.now S.1.shows c.args.number c.at.result.now c.at.ensures.element in omega (arith, r, m)) in
    search rules

pub returns : goal.returns
returns c =
    let C = c.args.c.now in let k = c.args.number in let ss = c.args.ends.now in let g = c.at.result.now in
    let S = c.requires.shows in let m = c.requires.ends.as_many in
    let at = c.at.ensures.element in
    let low = low-within S.0 C S.1.shows k g at in
    let s : Span = get_or ss g.low no_span in
    let i = is-at_get ss g.low no_span (omega (arith, low, m)) in
    record { past = λ t j e l a. let after : c.args.around.now.x.high <ℤ s.x.low = search (rules, t) in edge-past S.0 C S.1 ss c.requires.ends c.args.around.now s k g at i after j e l a }
