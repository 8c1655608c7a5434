use Rattle.nef_cand.proofs.Prelude.{List, get_or, arith, sym, is-at_within, is-at_get, is-at_is, IsNarrower, Span, no_span, all-more, narrower-still}
use Rattle.nef_cand.proofs.listing.around_all.Goals as goal

pub loop-span-init : goal.loop-span-init
loop-span-init c = λ k s l a. absurd (omega (arith, l))

pub loop-span-preserved : goal.loop-span-preserved
loop-span-preserved c =
    let xs : List Span = c.args.spans.now in let i = c.loop-span.span-index in let r = c.with_span-around.result in
    let t : Span = get_or xs i no_span in
    let here = is-at_is xs i t t (is-at_get xs i no_span c.loop-span-test.true) in
    λ k s l a. all-more (λ (x : Span). IsNarrower x r) xs i t c.loop-span-test.true (sym here)
    (λ j x m b. narrower-still x c.loop-span.around r (c.loop-span.invariant j x m b) c.with_span-around.ensures.wider) c.with_span-around.ensures.other k s l a

pub returns : goal.returns
returns c = record { wide = λ k s a. let f = c.loop-span-test.false in let l = is-at_within c.args.spans.now k s a in c.loop-span.invariant k s (omega (arith, f, l)) a }
