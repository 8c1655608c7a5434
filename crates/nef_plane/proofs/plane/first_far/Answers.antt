use Rattle.nef_plane.proofs.Prelude.{ℕ, rules, ◌+◌, ◌-◌, ◌<◌, length, ◌/◌, arith, get_or, sym, subst, form_of, is-at_get, AreShortBelow, AreFarFrom}
use Rattle.nef_plane.proofs.Leveled.{short-up_to, far-from, short-below, far-above, all-short, none-far}
use Rattle.nef_plane.proofs.plane.first_far.Goals as goal

pub loop-low-preserved-then-is_short : goal.loop-low-preserved-then-is_short
loop-low-preserved-then-is_short g c =
    let S = c.requires.shows in
    let ns = c.args.numbers.now in
    let u = c.loop-low-test.true in
    let w = c.loop-low.invariant in
    let m = c.loop-low.low + (c.loop-low.high - c.loop-low.low) / 2 in
    let j = w.1 in
    let i : m < length ns = omega arith in (
      omega arith,
      w.1,
      short-up_to S.0 c.args.c.now S.1.shows c.args.h.now (g.L.Line.form c.args.line.now) c.requires.swept ns c.requires.listed c.args.on_counts m (get_or ns m 0) c.at.result.now (is-at_get ns m 0 i) c.at.ensures.element (c.is_short.ensures.short.0 c.if-is_short.true),
      w.3,
    )

pub loop-low-preserved : goal.loop-low-preserved
loop-low-preserved g c =
    let S = c.requires.shows in
    let ns = c.args.numbers.now in
    let u = c.loop-low-test.true in
    let w = c.loop-low.invariant in
    let m = c.loop-low.low + (c.loop-low.high - c.loop-low.low) / 2 in
    let j = w.1 in
    let i : m < length ns = omega arith in (
      omega arith,
      omega arith,
      w.2,
      far-from S.0 c.args.c.now S.1.shows c.args.h.now (g.L.Line.form c.args.line.now) c.requires.swept ns c.requires.listed c.args.on_counts m (get_or ns m 0) c.at.result.now (is-at_get ns m 0 i) c.at.ensures.element
          (λ x. absurd (search (rules, c.is_short.ensures.short.1 x, c.if-is_short.false))),
    )

pub returns-then-low-numbers-clause-short : goal.returns-then-low-numbers-clause-short
returns-then-low-numbers-clause-short g c =
    let S = c.requires.shows in let ns = c.args.numbers.now in let n = c.loop-low.low in
    short-below S.0 c.args.c.now S.1.shows c.args.h.now (g.L.Line.form c.args.line.now) c.requires.swept ns c.requires.listed c.args.on_counts n (get_or ns n 0) (is-at_get ns n 0 c.if-low-numbers.true) c.loop-low.invariant.2

pub returns-then-low-numbers-clause-far : goal.returns-then-low-numbers-clause-far
returns-then-low-numbers-clause-far g c =
    let S = c.requires.shows in let ns = c.args.numbers.now in let n = c.loop-low.low in let t = c.loop-low-test.false in let w = c.loop-low.invariant in
    far-above S.0 c.args.c.now S.1.shows c.args.h.now (g.L.Line.form c.args.line.now) c.requires.swept ns c.requires.listed c.args.on_counts n (get_or ns n 0) (is-at_get ns n 0 c.if-low-numbers.true) (λ i j v l a e. w.3 i j v (omega (arith, l, t)) a e)

pub returns-else-low-numbers-clause-short : goal.returns-else-low-numbers-clause-short
returns-else-low-numbers-clause-short g c =
    let S = c.requires.shows in let C = c.args.c.now in let h = c.args.h.now in let k = g.L.Line.form c.args.line.now in
    subst (λ (n : ℕ). AreShortBelow C.vertices (form_of h) k c.args.on_counts n) (sym c.len.ensures.len)
    (all-short S.0 C S.1.shows h k c.requires.swept c.args.numbers.now c.requires.listed c.args.on_counts c.loop-low.low (let t = c.if-low-numbers.false in omega arith) c.loop-low.invariant.2)

pub returns-else-low-numbers-clause-far : goal.returns-else-low-numbers-clause-far
returns-else-low-numbers-clause-far g c =
    let S = c.requires.shows in let C = c.args.c.now in let h = c.args.h.now in let k = g.L.Line.form c.args.line.now in
    subst (λ (n : ℕ). AreFarFrom C.vertices (form_of h) k c.args.on_counts n) (sym c.len.ensures.len)
    (none-far S.0 C S.1.shows h k c.requires.swept c.args.numbers.now c.requires.listed c.args.on_counts)
