use Rattle.nef_locate.proofs.Prelude.{ℕ, ◌+◌, ◌-◌, ◌<◌, length, ◌/◌, arith, get_or, sym, subst, hit_point, is-at_get, PartsOn}
use Rattle.nef_locate.proofs.HitOrder.{before-up_to, after-from, is-vertex, parts-at, parts-past}
use Rattle.nef_locate.proofs.carrier.find_among.Goals as goal

pub loop-low-preserved-in-Less : goal.loop-low-preserved-in-Less
loop-low-preserved-in-Less c =
    let S = c.requires.shows in let L = c.requires.listed in
    let ns = c.args.numbers.now in
    let u = c.loop-low-test.true in
    let w = c.loop-low.invariant in
    let m = c.loop-low.low + (c.loop-low.high - c.loop-low.low) / 2 in
    let j = w.1 in
    let i : m < length ns = omega arith in (
      omega arith,
      w.1,
      before-up_to S.0 c.args.c.now S.1.shows L.0 ns L.1 (hit_point c.args.q.now) m (get_or ns m 0) c.at.result.now (is-at_get ns m 0 i) c.at.ensures.element c.in-Less.ensures.order,
      w.3,
    )

pub returns-in-Equal-clause-found : goal.returns-in-Equal-clause-found
returns-in-Equal-clause-found c =
    let S = c.requires.shows in let L = c.requires.listed in
    let ns = c.args.numbers.now in
    let m = c.loop-low.low + (c.loop-low.high - c.loop-low.low) / 2 in
    is-vertex S.0 c.args.c.now S.1.shows L.0 ns L.1 (hit_point c.args.q.now) (get_or ns m 0) c.at.result.now c.at.ensures.element c.in-Equal.ensures.order

pub loop-low-preserved : goal.loop-low-preserved
loop-low-preserved c =
    let S = c.requires.shows in let L = c.requires.listed in
    let ns = c.args.numbers.now in
    let u = c.loop-low-test.true in
    let w = c.loop-low.invariant in
    let m = c.loop-low.low + (c.loop-low.high - c.loop-low.low) / 2 in
    let j = w.1 in
    let i : m < length ns = omega arith in (
      omega arith,
      omega arith,
      w.2,
      after-from S.0 c.args.c.now S.1.shows L.0 ns L.1 (hit_point c.args.q.now) m (get_or ns m 0) c.at.result.now (is-at_get ns m 0 i) c.at.ensures.element c.in-Greater.ensures.order,
    )

pub returns-then-low-numbers-clause-parts : goal.returns-then-low-numbers-clause-parts
returns-then-low-numbers-clause-parts c = λ h N.
    let ns = c.args.numbers.now in let n = c.loop-low.low in let w = c.loop-low.invariant in let t = c.loop-low-test.false in
    parts-at c.args.c.now h ns N (hit_point c.args.q.now) n w.2 (λ i j v l a e. w.3 i j v (omega (arith, l, t)) a e) (get_or ns n 0) (is-at_get ns n 0 c.if-low-numbers.true)

pub returns-else-low-numbers-clause-parts : goal.returns-else-low-numbers-clause-parts
returns-else-low-numbers-clause-parts c = λ h N.
    let C = c.args.c.now in let ns = c.args.numbers.now in let y = hit_point c.args.q.now in let n = c.loop-low.low in let w = c.loop-low.invariant in let t = c.loop-low-test.false in
    subst (λ (m : ℕ). PartsOn C.vertices h y m) (sym c.len.ensures.len)
    (parts-past C h ns N y n w.2 (λ i j v l a e. w.3 i j v (omega (arith, l, t)) a e) (let f = c.if-low-numbers.false in omega arith))
