use Rattle.nef_cand.proofs.Prelude.{◌≡◌, ℕ, ◌+◌, List, length, get_or, arith, rules, ap, sym, ◌∙◌, subst, is-at_get, Span, no_span, AreSpannedCarriers}
use Rattle.nef_cand.proofs.NearCuts.{spanned-none, spanned-same, spanned-more}
use Rattle.nef_cand.proofs.listing.spanned_carriers.Goals.{then-not-misses_frame+in_ok-push, else-not-misses_frame}
use Rattle.nef_cand.proofs.listing.spanned_carriers.Goals as goal

pub loop-number-init : goal.loop-number-init
loop-number-init c = record { carriers = spanned-none c.args.c.now c.in_ok-near.near.items c.in_ok-near.ensures.items }

pub loop-number-preserved : goal.loop-number-preserved
loop-number-preserved c =
    let C = c.args.c.now in let n = c.loop-number.number in let old = c.loop-number.near.items in let h = c.at-plane.result.now in
    let A = c.carrier_spans-spans.ensures.spans in
    let spans : List Span = c.carrier_spans-spans.result.now in
    let m = A.as_many in let t = c.loop-number-test.true in let e = c.len-number-end.ensures.len in
    let on = A.each n h (get_or spans n no_span) c.at-plane.ensures.element (is-at_get spans n no_span (omega (arith, m, t, e))) in
    record {
      carriers = elim c.if-not-misses_frame.branch [
        | then-not-misses_frame+in_ok-push w ↦ subst (AreSpannedCarriers C (n + 1)) (sym (ap (λ v. v.items) w.near-is ∙ w.in_ok-push.ensures.items))
            (spanned-more C n old c.loop-number.invariant.carriers _ c.at-plane.ensures.element (c.at-plane.ensures.element, on))
        | else-not-misses_frame w ↦ subst (AreSpannedCarriers C (n + 1)) (sym (ap (λ v. v.items) w.near-is))
            (spanned-same C n old c.loop-number.invariant.carriers h c.at-plane.ensures.element (c.misses_frame.ensures.misses.0 (search (rules, w.if-not-misses_frame.false))))
      ];
    }

pub returns : goal.returns
returns c =
    let C = c.args.c.now in
    let e : c.loop-number.number ≡ length C.carriers = (let f = c.loop-number-test.false in let g = c.loop-number.auto in let h = c.len-number-end.ensures.len in omega arith) in
    record { carriers = subst (λ (n : ℕ). AreSpannedCarriers C n c.loop-number.near.items) e c.loop-number.invariant.carriers }
