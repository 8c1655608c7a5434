use Rattle.nef_complex.proofs.Prelude.{ℕ, ◌+◌, ◌<◌, List, length, arith, rules, get_or, sym, ◌∙◌, subst, IsAt, not_true, is-at_get, is-at_within, Span, AreNumbersOf, LiesOutside}
use Rattle.nef_complex.proofs.Reading.{next-all}
use Rattle.nef_complex.proofs.Outside.{no_span, carrier-outside}
use Rattle.nef_complex.proofs.walk.ask_group.Goals.{then-may_meet, else-may_meet}
use Rattle.nef_complex.proofs.walk.ask_group.Goals as goal

pub bounds-spans-number : goal.bounds-spans-number
bounds-spans-number g c =
    let ns : List ℕ = c.as_slice-number-items.result.now in let n = c.loop-number.number-index in
    let l : get_or ns n 0 < length c.args.c.now.carriers = subst (AreNumbersOf c.args.c.now.carriers) (sym c.as_slice-number-items.ensures.all) c.requires.within n (get_or ns n 0) (is-at_get ns n 0 c.loop-number-test.true) in
    let m = c.carrier_spans-spans.ensures.spans.as_many in
    omega (arith, l, m)

pub offset_bounds-spans-number : goal.offset_bounds-spans-number
offset_bounds-spans-number g c =
    let ns : List ℕ = c.as_slice-number-items.result.now in let n = c.loop-number.number-index in
    let l : get_or ns n 0 < length c.args.c.now.carriers = subst (AreNumbersOf c.args.c.now.carriers) (sym c.as_slice-number-items.ensures.all) c.requires.within n (get_or ns n 0) (is-at_get ns n 0 c.loop-number-test.true) in
    let m = c.carrier_spans-spans.ensures.spans.as_many in
    let i : get_or ns n 0 < length c.carrier_spans-spans.result.now = omega (arith, l, m) in
    search rules

pub ask-requires-clause-number : goal.ask-requires-clause-number
ask-requires-clause-number g c =
    let ns : List ℕ = c.as_slice-number-items.result.now in let n = c.loop-number.number-index in
    subst (AreNumbersOf c.args.c.now.carriers) (sym c.as_slice-number-items.ensures.all) c.requires.within n (get_or ns n 0) (is-at_get ns n 0 c.loop-number-test.true)

pub ask-requires-clause-right : goal.ask-requires-clause-right
ask-requires-clause-right g c = c.loop-number.invariant.0

pub loop-number-init : goal.loop-number-init
loop-number-init g c = (c.requires.right, λ k p. p, λ j k l. absurd (omega (arith, l)))

pub loop-number-preserved : goal.loop-number-preserved
loop-number-preserved g c =
    let C = c.args.c.now in let s = c.args.search.now in
    let ns : List ℕ = c.as_slice-number-items.result.now in let n = c.loop-number.number-index in let k : ℕ = get_or ns n 0 in
    let here = is-at_get ns n 0 c.loop-number-test.true in
    let I = c.loop-number.invariant in
    elim c.if-may_meet.branch [
      | then-may_meet w ↦ let N = w.ask.ensures in let best = w.ask.new.found in (
        subst (g.S.Search.right s C) (sym w.found-is) N.right,
        λ j p. subst (λ o. g.S.Search.passed s C o j) (sym w.found-is) (N.kept j (I.1 j p)),
        subst (λ o. (i j : ℕ) → i < n + 1 → IsAt ns i j → g.S.Search.passed s C o j) (sym w.found-is)
            (next-all (g.S.Search.passed s C best) ns n k here (λ i j l a. N.kept j (I.2 i j l a)) N.passed),
      )
      | else-may_meet w ↦
          let A = c.carrier_spans-spans.ensures.spans in let spans : List Span = c.carrier_spans-spans.result.now in let m = A.as_many in
          let l : k < length C.carriers = subst (AreNumbersOf C.carriers) (sym c.as_slice-number-items.ensures.all) c.requires.within n k here in (
            subst (g.S.Search.right s C) (sym w.found-is) I.0,
            λ j p. subst (λ o. g.S.Search.passed s C o j) (sym w.found-is) (I.1 j p),
            subst (λ o. (i j : ℕ) → i < n + 1 → IsAt ns i j → g.S.Search.passed s C o j) (sym w.found-is)
                (next-all (g.S.Search.passed s C c.loop-number.found) ns n k here I.2
                (g.met.S.Search.apart s C c.loop-number.found k (subst (λ (v : Span). LiesOutside C v k) c.window.ensures.window
                (carrier-outside C (get_or spans k no_span) c.window.result.now (λ y u v. not_true (sym w.if-may_meet.false ∙ c.may_meet.ensures.meets y u v)) spans A k (is-at_get spans k no_span (omega (arith, m, l))))))),
          )
    ]

pub returns-clause-passed : goal.returns-clause-passed
returns-clause-passed g c = λ k (j, a).
    let ns : List ℕ = c.as_slice-number-items.result.now in
    let b = subst (λ (xs : List ℕ). IsAt xs j k) (sym c.as_slice-number-items.ensures.all) a in
    c.loop-number.invariant.2 j k (let l = is-at_within ns j k b in let t = c.loop-number-test.false in omega (arith, l, t)) b
