use Rattle.nef_index.proofs.Prelude.{ℕ, pos, List, get_or, arith, is-at_get, Bounds, Span}
use Rattle.nef_index.proofs.Spanning.{narrower-more}
use Rattle.nef_index.proofs.spans.span_of.Goals as goal

abbrev none : Span
none = let b : Bounds = record { low = pos 0; high = pos 0 } in record { x = b; y = b; z = b }

pub loop-number-preserved : goal.loop-number-preserved
loop-number-preserved c =
    let ss : List Span = c.args.alone.now in
    let ns : List ℕ = c.args.listed.now in
    let n = c.loop-number.number-index in
    let k = get_or ns n 0 in
    let here = is-at_get ns n 0 c.loop-number-test.true in
    let t : Span = get_or ss k none in
    let at = is-at_get ss k none (c.requires.within n k here) in
    narrower-more ss ns n k t c.loop-number.span c.with_span-span.result here at c.loop-number.invariant c.with_span-span.ensures.wider c.with_span-span.ensures.other

pub returns : goal.returns
returns c = record { wide = λ i k t l a b. let f = c.loop-number-test.false in c.loop-number.invariant i k t (omega arith) a b }
