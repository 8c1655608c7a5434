use Rattle.nef_index.proofs.Prelude.{◌≡◌, sym, subst, ℕ, ◌+◌, ◌-◌, ◌*◌, ◌<◌, length, get_or, arith, is-at_get, block_start, EndBelow}
use Rattle.nef_index.proofs.Peaked.{end-within, end-either}
use Rattle.nef_index.proofs.peaks.next_peak.Goals as goal

pub loop-first-preserved : goal.loop-first-preserved
loop-first-preserved c =
    let ps = c.args.peaks.now in let n = c.loop-first.first in let i = n - 1 in let t = c.loop-first-test.true in let w = c.loop-first.invariant.0 in
    let inside : i < length ps = omega (arith, t, w) in
    let m = c.start_of_last-first.result in let b = c.start_of_last-first.ensures.before in let s = c.start_of_last-first.ensures.start in (
      omega (arith, b, w),
      λ es ns A O.
          let p = get_or ps i 0 in
          let next : i + 1 ≡ n = omega (arith, t) in
          let B = subst (λ (x : ℕ). EndBelow es ns (8 * x) (8 * n) (p + 1)) (sym s) (subst (λ (x : ℕ). EndBelow es ns (8 * block_start x) (8 * x) (p + 1)) next (A i p (is-at_get ps i 0 inside))) in
          let h = c.max-peak.ensures in
          end-either es ns (8 * m) (8 * n) (8 * (length ps + 1)) p c.loop-first.peak c.max-peak.result B (c.loop-first.invariant.1 es ns A O) (omega (arith, h)) (omega (arith, h)),
    )

pub returns : goal.returns
returns c = record {
  peak = λ es ns A O.
      let s = c.start_of_last-start.ensures.start in let f = c.loop-first-test.false in
      end-within es ns (8 * c.loop-first.first) _ _ (c.loop-first.peak + 1) (c.loop-first.peak + 1) (omega (arith, s, f)) (omega arith) (c.loop-first.invariant.1 es ns A O);
}
