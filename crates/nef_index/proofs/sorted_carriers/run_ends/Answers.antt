use Rattle.nef_index.proofs.Prelude.{ℕ, ◌+◌, List, arith, sym, ap, subst, ◌∙◌, Vec, Global, Plane}
use Rattle.nef_index.proofs.Parallel.{IsInRun, in-run_none, in-run_on, in-run_end, in-run_all}
use Rattle.nef_index.proofs.sorted_carriers.run_ends.Goals.{then-not-goes_on+in_ok-push, else-not-goes_on}
use Rattle.nef_index.proofs.sorted_carriers.run_ends.Goals as goal

pub loop-number-init : goal.loop-number-init
loop-number-init c = let hs : List Plane = c.args.carriers.now in record { runs = subst (λ (ks : List ℕ). IsInRun hs ks 0) (sym c.in_ok-ends.ensures.items) (in-run_none hs) }

pub loop-number-preserved : goal.loop-number-preserved
loop-number-preserved c =
    let hs : List Plane = c.args.carriers.now in
    let n = c.loop-number.number in
    let ks : List ℕ = c.loop-number.ends.items in
    record {
      runs = elim c.if-not-goes_on.branch [
        | then-not-goes_on+in_ok-push w ↦ subst (λ (x : List ℕ). IsInRun hs x (n + 1)) (sym (ap (λ (v : Vec ℕ Global). v.items) w.ends-is ∙ w.in_ok-push.ensures.items))
            (in-run_end hs ks n (let t = c.loop-number-test.true in omega arith) c.loop-number.invariant.runs)
        | else-not-goes_on w ↦ subst (λ (v : Vec ℕ Global). IsInRun hs v.items (n + 1)) (sym w.ends-is) (in-run_on hs ks n c.loop-number.invariant.runs (c.goes_on.ensures.on w.if-not-goes_on.false))
      ];
    }

pub returns : goal.returns
returns c =
    let hs : List Plane = c.args.carriers.now in
    record { runs = in-run_all hs c.loop-number.ends.items c.loop-number.number (let f = c.loop-number-test.false in let e = c.loop-number.auto in omega arith) c.loop-number.invariant.runs }
