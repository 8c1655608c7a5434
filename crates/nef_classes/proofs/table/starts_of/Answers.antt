use Rattle.nef_classes.proofs.Prelude.{◌≡◌, ◌+◌, ◌∷◌, [], ◌++◌, ℕ, List, take, arith, get_or, subst, ap, sym, cell_total, AreStarts}
use Rattle.nef_classes.proofs.ClassLists.{take-more}
use Rattle.nef_classes.proofs.Cutting.{more-starts, total-append}
use Rattle.nef_classes.proofs.table.starts_of.Goals as goal

pub loop-count-preserved : goal.loop-count-preserved
loop-count-preserved c =
    let counts = c.args.counts.now in let i = c.loop-count.count-index in
    let x = get_or counts i 0 in
    let I = c.loop-count.invariant in
    let more = take-more counts i 0 c.loop-count-test.true in
    let t = total-append (take i counts) x in
    let e = ap cell_total more in
    let s = I.1 in
    let added = c.in-Some.ensures in
    let f = added.1 in
    let items = c.in_ok-push-2.ensures.items in
    let S = more-starts (take i counts) c.loop-count.starts.items x (I.0) in
    let same : c.in-Some.sum ≡ cell_total (take i counts) + x = omega arith in (
      subst (λ (ks : List ℕ). AreStarts (take (i + 1) counts) ks) (sym items)
          (subst (λ (cs : List ℕ). AreStarts cs (c.loop-count.starts.items ++ c.in-Some.sum ∷ [])) (sym more)
          (subst (λ (n : ℕ). AreStarts (take i counts ++ x ∷ []) (c.loop-count.starts.items ++ n ∷ [])) (sym same) S)),
      omega arith,
      (let f = added.0 in let g = added.1 in omega arith),
    )
