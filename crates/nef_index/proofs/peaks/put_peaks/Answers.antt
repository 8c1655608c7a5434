use Rattle.nef_index.proofs.Prelude.{◌≡◌, ℕ, ◌+◌, ◌*◌, List, [], ◌∷◌, ◌++◌, length, length-append, arith, ap, sym, subst, ◌∙◌, Edge, ArePeaks}
use Rattle.nef_index.proofs.Peaked.{end-at, peaks-more}
use Rattle.nef_index.proofs.peaks.put_peaks.Goals as goal

pub loop-block-preserved : goal.loop-block-preserved
loop-block-preserved c =
    let es : List Edge = c.args.edges.now in let ns : List ℕ = c.args.numbers.now in let n = c.loop-block.block in let w = c.loop-block.invariant in
    let xs : List ℕ = c.loop-block.peaks.items in let ys : List ℕ = c.as_slice.result.now in
    let v : ys ≡ xs = c.as_slice.ensures.value in
    let many : length ys ≡ n = ap (length {A = ℕ}) v ∙ w.0 in
    let A = subst (ArePeaks es ns) (sym v) w.1 in
    let p = c.next_peak.result in
    let E = end-at es ns (8 * n) (8 * n + 8) (8 * length ys) (8 * (length ys + 1)) (c.greatest_end-own.result + 1) (omega (arith, many)) (omega (arith, many)) c.greatest_end-own.ensures.greatest in
    let R = peaks-more es ns ys p A (c.next_peak.ensures.peak es ns A E) in
    let items = c.in_ok-push.ensures.items in
    let l = ap (length {A = ℕ}) items in let m = length-append xs (p ∷ []) in let o = w.0 in
    (omega (arith, l, m, o), subst (ArePeaks es ns) (sym items) (subst (λ (zs : List ℕ). ArePeaks es ns (zs ++ p ∷ [])) v R))
